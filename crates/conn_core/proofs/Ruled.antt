-- If a turn refuses by a rule, the rule belongs to the policy that the engine's operation set.
use Rattle.std.proofs.Common.{◌≡◌, ℕ, ◌≤◌, Bool, true, false, cond, length, nat_lt, refl, sym, subst, arith}
use Rattle.std.specs.Prelude.{None, Option, Some, slice_get, unwrap_or}
use Rattle.std.specs.List.{position_or_len}
use Rattle.std.proofs.lemmas.Bool.{ltb-true}
use Rattle.mrpc_table.specs.declared.call.Call.{Call}
use Rattle.policy_access.specs.Verdict.{AccessPolicy, deciding_rule, matches, verdict}
use Rattle.engine_core.specs.Answers.{IsEntryAnswer, Past, allows, charges, counts, denies, draws, holds, is_clear, is_over, is_within, redacts, refuses, was_charged, was_counted}
use Rattle.engine_core.specs.Chains.{Entry}
use Rattle.engine_core.specs.Engines.{EngineParts}
use Rattle.engine_core.specs.Turns.{IsTurnOutcome, is_held, is_noted_and_passes, is_noted_and_refused, is_redacted, is_refused, passes, refusal}
use Rattle.engine_core.specs.declared.op.Op.{Op}
use Rattle.engine_core.specs.declared.op.Op.TheVariants.{Attach, Detach, Upgrade}
use Rattle.engine_core.specs.declared.outcome.Outcome.{Outcome}
use Rattle.engine_core.specs.declared.outcome.Why.{Why}
use Rattle.engine_core.specs.declared.outcome.Why.TheVariants.{Denied, Short, Over}
use Rattle.engine_core.specs.declared.policy.Policy.{Policy}
use Rattle.call_history.specs.Records.{HasRule, IsRuleOf}
use Rattle.chain_upgrade.specs.Chains.{ChainParts, IsEngineTurn, OnTurn}
use Rattle.chain_upgrade.specs.declared.turned.Turned.{Turned}
use Rattle.conn_core.specs.Invariant.{HasOpRule, HasSetPolicy, IsRefusedByOpRule}
use Rattle.conn_core.proofs.TurnTold.{on-turn}

-- ---- the rule that decides is one of the policy, or the default

within : (b : Bool) (n k : ℕ) → (b ≡ true → n ≤ k) → unwrap_or (cond b (Some n) None) k ≤ k
within true n k less = less refl
within false n k less = omega arith

decides-within : (p : AccessPolicy) (call : Call) → deciding_rule p call ≤ length p.rules
decides-within p call =
    let n : ℕ = position_or_len (λ rule. matches rule call) p.rules in
    within (nat_lt n (length p.rules)) n (length p.rules)
    (λ (is : nat_lt n (length p.rules) ≡ true). omega (arith, ltb-true n (length p.rules) is))

-- ---- so is that of a refusal

abbrev RefusesUnder : Policy → Why → Type 0
RefusesUnder policy (Denied rule) = IsRuleOf policy rule
RefusesUnder policy (Short level cost) = Unit {0}
RefusesUnder policy (Over ticket limit) = Unit {0}

denied-rule : (policy : Policy) (level moment : ℕ) (form : Call) (past : Past) (rule : ℕ)
    → IsEntryAnswer policy level moment form past (refusal (Denied rule)) → IsRuleOf policy rule
denied-rule policy level moment form past rule (allows p is allowed answer) = absurd cc
denied-rule policy level moment form past rule (denies p is denied answer) =
    let same : (verdict p form).rule ≡ rule = cc in
    subst (λ (x : Policy). IsRuleOf x rule) (sym is)
    (subst (λ (n : ℕ). n ≤ length p.rules) same (decides-within p form))
denied-rule policy level moment form past rule (was_charged r is was answer) = absurd cc
denied-rule policy level moment form past rule (charges r is none enough answer) = absurd cc
denied-rule policy level moment form past rule (holds r is none short mode answer) = absurd cc
denied-rule policy level moment form past rule (refuses r is none short mode answer) = absurd cc
denied-rule policy level moment form past rule (is_within tenant per limit ticket is drew below answer) = absurd cc
denied-rule policy level moment form past rule (is_over tenant per limit ticket is drew above answer) = absurd cc
denied-rule policy level moment form past rule (draws tenant per limit ticket is none answer) = absurd cc
denied-rule policy level moment form past rule (was_counted is was answer) = absurd cc
denied-rule policy level moment form past rule (counts is none answer) = absurd cc
denied-rule policy level moment form past rule (is_clear clears is clear answer) = absurd cc
denied-rule policy level moment form past rule (redacts clears is left answer) = absurd cc

refuses-under : (policy : Policy) (level moment : ℕ) (form : Call) (past : Past) (why : Why)
    → IsEntryAnswer policy level moment form past (refusal why) → RefusesUnder policy why
refuses-under policy level moment form past (Denied rule) answers =
    denied-rule policy level moment form past rule answers
refuses-under policy level moment form past (Short left cost) answers = tt
refuses-under policy level moment form past (Over ticket limit) answers = tt

-- ---- the policy is that of the operation

has-rule : (step : Op) (e : Entry) (rule : ℕ) → HasSetPolicy step e → IsRuleOf e.policy rule → HasRule step rule
has-rule (Attach at name label policy) e rule puts is = subst (λ (p : Policy). IsRuleOf p rule) (sym puts.1) is
has-rule (Detach name) e rule puts is = puts
has-rule (Upgrade name label policy) e rule puts is = subst (λ (p : Policy). IsRuleOf p rule) (sym puts.1) is

gives-rule : (step : Op) (e : Entry) (why : Why) → HasSetPolicy step e → RefusesUnder e.policy why → HasOpRule step why
gives-rule step e (Denied rule) puts is = has-rule step e rule puts is
gives-rule step e (Short left cost) puts is = tt
gives-rule step e (Over ticket limit) puts is = tt

refuses-by : (step : Op) (e : Entry) (level moment : ℕ) (form : Call) (past : Past) (outcome : Outcome) → HasSetPolicy step e
    → IsTurnOutcome e.policy level moment form past outcome → IsRefusedByOpRule step outcome
refuses-by step e level moment form past outcome puts (passes answers is) =
    subst (IsRefusedByOpRule step) (sym is) tt
refuses-by step e level moment form past outcome puts (is_noted_and_passes n notes answers is) =
    subst (IsRefusedByOpRule step) (sym is) tt
refuses-by step e level moment form past outcome puts (is_held l cost answers is) =
    subst (IsRefusedByOpRule step) (sym is) tt
refuses-by step e level moment form past outcome puts (is_refused why answers is) =
    subst (IsRefusedByOpRule step) (sym is)
    (gives-rule step e why puts (refuses-under e.policy level moment form past why answers))
refuses-by step e level moment form past outcome puts (is_noted_and_refused n why notes answers is) =
    subst (IsRefusedByOpRule step) (sym is) (gives-rule step e why puts (refuses-under e.policy _ moment form _ why answers))
refuses-by step e level moment form past outcome puts (is_redacted answers is) =
    subst (IsRefusedByOpRule step) (sym is) tt

-- the turn of an engine whose policy the operation set
pub turn-by : (step : Op) (engine : EngineParts) (c c' : ChainParts) (at ms : ℕ) (t : Turned)
    → slice_get c.engines at ≡ Some engine → HasSetPolicy step engine.entry
    → OnTurn t (λ seq outcome. IsEngineTurn c at ms seq outcome c')
    → OnTurn t (λ seq outcome. IsRefusedByOpRule step outcome)
turn-by step engine c c' at ms t is-engine puts has =
    on-turn (λ seq outcome. IsEngineTurn c at ms seq outcome c') (λ seq outcome. IsRefusedByOpRule step outcome)
    (λ seq outcome h.
    let same : h.engine ≡ engine = same-some h.engine engine (sym h.is_engine) is-engine in
    refuses-by step h.engine.entry h.engine.level ms h.call.call _ outcome
    (subst (λ (x : EngineParts). HasSetPolicy step x.entry) (sym same) puts) h.comes) t has
  where
    same-some : (a b : EngineParts) {o : Option EngineParts} → Some a ≡ o → o ≡ Some b → a ≡ b
    same-some a b x y = cc
