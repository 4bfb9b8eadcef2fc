-- An upgrade doesn't change the entries before it, nor the notes.
use Rattle.std.proofs.Common.{◌≡◌, ℕ, ◌+◌, ◌≤◌, zero, suc, min, Bool, true, false, cond, if◌then◌else◌, List, [], ◌∷◌}
use Rattle.std.proofs.Common.{length, map, take, refl, sym, ap, subst, arith}
use Rattle.std.specs.Prelude.{All}
use Rattle.std.proofs.lemmas.List.Elements.{All-weaker}
use Rattle.engine_core.specs.Chains.{HasChanged, Entry, upgraded}
use Rattle.engine_core.specs.declared.op.Op.TheVariants.{Upgrade}
use Rattle.engine_core.specs.declared.policy.Policy.{Policy}
use Rattle.call_history.specs.Trace.{chain}
use Rattle.engine_core.specs.Chains.{changed, is_named}
use Rattle.call_history.specs.Transitions.{ConnState}
use Rattle.engine_core.specs.Moves.{returned_to, position_of}
use Rattle.call_history.specs.Rules.{JudgeContext, IsAllowedInTrace}
use Rattle.call_history.specs.declared.happening.Happening.TheVariants.{Op}
use Rattle.call_history.proofs.Holding.{Holds}
use Rattle.call_history.proofs.Looking.{lets-still}
use Rattle.call_history.proofs.Operating.{moved-holds, all-fewer}
use Rattle.call_history.proofs.Rowed.{StandsAt}

-- the entries after an upgrade
abbrev pub with_upgraded : List ℕ → Policy → List Entry → List Entry
with_upgraded name policy es = map (λ e. if is_named name e then upgraded e policy else e) es

length-upgraded : (name : List ℕ) (policy : Policy) (es : List Entry) → length (with_upgraded name policy es) ≡ length es
length-upgraded name policy [] = refl
length-upgraded name policy (e ∷ es) = ap suc (length-upgraded name policy es)

front-same : (name : List ℕ) (policy : Policy) (es : List Entry) (k : ℕ) → k ≤ position_of name es → take k (with_upgraded name policy es) ≡ take k es
front-same name policy [] k before = refl
front-same name policy (e ∷ es) zero before = refl
front-same name policy (e ∷ es) (suc k) before =
    let given : (b : Bool) → suc k ≤ cond b 0 (position_of name es + 1)
    → cond b (upgraded e policy) e ∷ take k (with_upgraded name policy es) ≡ e ∷ take k es =
    λ b. elim b as (λ b. suc k ≤ cond b 0 (position_of name es + 1)
    → cond b (upgraded e policy) e ∷ take k (with_upgraded name policy es) ≡ e ∷ take k es) [
      | true ↦ λ before. absurd (omega (arith, before))
      | false ↦ λ before. ap (λ (xs : List Entry). e ∷ xs) (front-same name policy es k (omega (arith, before)))
    ] in
    given (is_named name e) before

pub upgraded_holds : (u : JudgeContext) (c : ConnState) (name label : List ℕ) (policy : Policy) → Holds u c
    → HasChanged (chain c.past) (Upgrade name label policy) (changed (Upgrade name label policy) (chain c.past))
    → Holds u (record c { past = Op (Upgrade name label policy) ∷ c.past; row = returned_to (position_of name (chain c.past).entries) c.row })
upgraded_holds u c name label policy h changes = moved-holds u c (Upgrade name label policy) (λ p. min p (position_of name (chain c.past).entries)) h changes (record {
  rises = λ p q le. omega (arith, le);
  keeps = keeps;
  bound = omega (arith, length-upgraded name policy (chain c.past).entries);
  ascend = h.notes_ascend;
})
  where
    keeps : (seq position : ℕ) → StandsAt u c.past seq position → StandsAt u (Op (Upgrade name label policy) ∷ c.past) seq (min position (position_of name (chain c.past).entries))
    keeps seq position stands = record {
      within = omega (arith, stands.within, length-upgraded name policy (chain c.past).entries);
      allowed = subst (λ (xs : List Entry). All (IsAllowedInTrace u (Op (Upgrade name label policy) ∷ c.past) seq) xs)
          (sym (front-same name policy (chain c.past).entries (min position (position_of name (chain c.past).entries)) (omega arith)))
          (All-weaker (IsAllowedInTrace u c.past seq) (IsAllowedInTrace u (Op (Upgrade name label policy) ∷ c.past) seq)
          (λ e. lets-still u c.past (Op (Upgrade name label policy) ∷ c.past) seq e refl refl)
          (take (min position (position_of name (chain c.past).entries)) (chain c.past).entries)
          (all-fewer (IsAllowedInTrace u c.past seq) (chain c.past).entries (min position (position_of name (chain c.past).entries)) position (omega arith) stands.allowed));
    }
