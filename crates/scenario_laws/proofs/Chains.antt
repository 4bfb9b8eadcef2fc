-- Chains of applications without faults, with the steps of operators on them, never refuse.
use Rattle.std.proofs.Common.{◌≡◌, ◌==◌, ℕ, ◌+◌, List, [], ◌∷◌, ◌++◌, map, All, Contains, Option, Some, None, option_map, refl, sym, ap, ◌∙◌, subst, arith}
use Rattle.std.specs.Prelude.{codes, option_to_list, unwrap_or}
use Rattle.std.proofs.lemmas.Bool.{eqb-true}
use Rattle.std.proofs.lemmas.List.{map-append}
use Rattle.std.proofs.lemmas.List.Elements.{All-nil, Contains-append_left}
use Rattle.std.proofs.lemmas.Option.{same_Some}
use Rattle.mrpc_table.specs.declared.table.Table.{Table}
use Rattle.engine_core.specs.Chains.{Chain, IsChain}
use Rattle.engine_core.specs.declared.op.Op.{Op}
use Rattle.engine_core.specs.declared.op.Op.TheVariants as op
use Rattle.engine_core.specs.declared.policy.Policy.{Policy}
use Rattle.policy_declarations.specs.declared.declaration.NamedPolicy.{NamedPolicy}
use Rattle.run_plan.specs.Chains.{IsChangedBy, AreNeverRefused, attach_lines, empty_chain, policy_name_at, chain_lines, op_of, operator_in, app_policy, steps_of_operator, with_policy}
use Rattle.run_plan.specs.Plans.{IsOwnPolicy}
use Rattle.run_plan.specs.declared.application.Application.{Application}
use Rattle.run_plan.specs.declared.application.OwnPolicy.{OwnPolicy}
use Rattle.run_plan.specs.declared.operator.Operator.{Operator}
use Rattle.run_plan.specs.declared.operator.OperatorStep.{OperatorStep}
use Rattle.run_plan.specs.declared.operator.StepLine.{StepLine}
use Rattle.run_plan.specs.declared.operator.StepLine.TheVariants as step_line
use Rattle.run_plan.specs.declared.plan.Plan.{Plan}
use Rattle.toml.specs.Data.{Members}
use Rattle.scenario_lines.specs.Programs.{Each}
use Rattle.scenario_lines.specs.StepLines.{IsStepTextMeaning as LineTells}
use Rattle.scenario_lines.specs.declared.step.StepText.{StepText}
use Rattle.scenario_lines.specs.declared.step.StepText.TheVariants as text
use Rattle.scenario_toml.specs.Values.{text_at}
use Rattle.scenario.specs.Applications.{IsAppFault, AreAttached, app_tables, chain_names, entry_conn, policies_named_in, operator_tables}
use Rattle.scenario.specs.Applications as against_app
use Rattle.scenario.specs.Lines.{step_policy}
use Rattle.scenario.specs.Operators.{IsAttach, IsUpgrade, IsOperatorFault, IsOpOfLine, step_lines_of}
use Rattle.scenario.specs.Operators as against
use Rattle.scenario.specs.Reasons.{scenario_reason_of_refusal}
use Rattle.scenario.specs.Scenarios.{IsAppMeaning, IsUsed, IsOperatorMeaning, IsOwnPolicyMeaning, IsPlanOfScenario, IsStepLineMeaning, IsStepMeaning, by_app, by_step, policy_entry_index}
use Rattle.scenario.specs.declared.fault.ScenarioReason.{ScenarioReason}
use Rattle.scenario_laws.proofs.Alike.{AreAlike, Laws, attaches, changing_append, changing_sound, detaches, follow, upgrades, walk}
use Rattle.scenario_laws.proofs.Free.{operators_free}
use Rattle.scenario_laws.proofs.Lists.{each_right, found_there, free_of, get_there, there_first, there_more}
use Rattle.scenario_laws.proofs.Placed.{IsHad, is_had, named_at}

pub empty_sound : IsChain empty_chain
empty_sound = record { few = omega arith; names = tt; attachments = tt; numbered = All-nil _ }

-- ---- steps, by their text

told_attach : (told : StepText) (at : ℕ) (name policy : List ℕ) → IsAttach told at name policy → step_policy told ≡ Some policy
told_attach (text.Attach count d n p) at name policy h = ap (λ (x : List ℕ). Some x) h.2
told_attach (text.Detach count n) at name policy h = absurd h
told_attach (text.Upgrade count n p) at name policy h = absurd h

told_upgrade : (told : StepText) (name policy : List ℕ) → IsUpgrade told name policy → step_policy told ≡ Some policy
told_upgrade (text.Attach count d n p) name policy h = absurd h
told_upgrade (text.Detach count n) name policy h = absurd h
told_upgrade (text.Upgrade count n p) name policy h = ap (λ (x : List ℕ). Some x) h.1

unwrapped : (o : Option (List ℕ)) (word : List ℕ) → o ≡ Some word → unwrap_or o [] ≡ word
unwrapped o word e = ap (λ (l : Option (List ℕ)). unwrap_or l []) e

module _ (all : Members) (plan : Plan) (says : IsPlanOfScenario all plan)
    (own_is : (own : Table) (read : List OwnPolicy) → All (IsOwnPolicyMeaning all own) read
    → All (IsOwnPolicy plan.table plan.declared.policies own) read)
    (ms : Members) (app : Application) (is : IsAppMeaning all ms app) where
  abbrev D : List NamedPolicy
  D = plan.declared.policies

  -- lines mean these operations on the connection, which are alike these with the policies of the plan's table
  record AreOps (lines : List StepLine) (ops : List Op) : Type 0 where
    own : List Op
    stand_for : map (op_of plan app) lines ≡ map Some own
    alike : Each AreAlike ops own

  none_ops : AreOps [] []
  none_ops = record { own = []; stand_for = refl; alike = tt }

  more_ops : (l : StepLine) (o o' : Op) (lines : List StepLine) (ops : List Op) → op_of plan app l ≡ Some o' → AreAlike o o' → AreOps lines ops
      → AreOps (l ∷ lines) (o ∷ ops)
  more_ops l o o' lines ops is_op alike h = record {
    own = o' ∷ h.own;
    stand_for =
        ap (λ (x : Option Op). x ∷ map (op_of plan app) lines) is_op
        ∙ ap (λ (xs : List (Option Op)). Some o' ∷ xs) h.stand_for;
    alike = (alike, h.alike);
  }

  each_append : (xs ys zs ws : List Op) → Each AreAlike xs ys → Each AreAlike zs ws → Each AreAlike (xs ++ zs) (ys ++ ws)
  each_append [] [] zs ws e f = f
  each_append [] (y ∷ ys) zs ws e f = absurd e
  each_append (x ∷ xs) [] zs ws e f = absurd e
  each_append (x ∷ xs) (y ∷ ys) zs ws e f = (e.0, each_append xs ys zs ws e.1 f)

  append_ops : (xs ys : List StepLine) (os ps : List Op) → AreOps xs os → AreOps ys ps → AreOps (xs ++ ys) (os ++ ps)
  append_ops xs ys os ps a b = record {
    own = a.own ++ b.own;
    stand_for =
        map-append (op_of plan app) xs ys
        ∙ ap (λ (zs : List (Option Op)). zs ++ map (op_of plan app) ys) a.stand_for
        ∙ ap (λ (zs : List (Option Op)). map Some a.own ++ zs) b.stand_for
        ∙ sym (map-append Some a.own b.own);
    alike = each_append os a.own ps b.own a.alike b.alike;
  }

  had : (name : List ℕ) (place : ℕ) → IsUsed all ms place → policy_entry_index all name ≡ Some place → IsHad D app.own place
  had name place used e = is_had all plan.table D says.policies own_is ms app name place is used e

  -- the name of the policy at the index of a name
  had_name : (name : List ℕ) (place : ℕ) (h : IsHad D app.own place) → policy_entry_index all name ≡ Some place → h.p.name ≡ name
  had_name name place h e =
      let at = named_at all plan.table D says.policies own_is name place e in
      ap (λ (x : NamedPolicy). x.name) (same_Some h.p at.p (sym h.at ∙ at.there)) ∙ at.said.name ∙ at.named

  labelled : (place : ℕ) (h : IsHad D app.own place) → policy_name_at D place ≡ Some h.p.name
  labelled place h = ap (option_map (λ (p : NamedPolicy). p.name)) h.at

  op_with : (f : List ℕ → Policy → Op) (place : ℕ) (h : IsHad D app.own place)
      → with_policy f (policy_name_at D place) (app_policy plan app place) ≡ Some (f h.p.name h.judge)
  op_with f place h =
      ap (λ (l : Option (List ℕ)). with_policy f l (app_policy plan app place)) (labelled place h)
      ∙ ap (with_policy f (Some h.p.name)) h.judges

  -- ---- its own attachments

  record Attached (at : ℕ) (places : List ℕ) (names : List (List ℕ)) : Type 0 where
    ops : List Op
    attached : AreAttached D at names ops
    lines : AreOps (attach_lines D at places) ops

  module _ (at place : ℕ) (name : List ℕ) (h : IsHad D app.own place) (named : h.p.name ≡ name) where
    abbrev line_here : StepLine
    line_here = step_line.Attach at (unwrap_or (policy_name_at D place) []) place

    attached_here : (p : NamedPolicy) × Contains D p × (p.name ≡ name) × (op.Attach at name name h.p.policy ≡ op.Attach at name name p.policy)
    attached_here = (h.p, get_there D place h.p h.at, named, refl)

    alike_here : AreAlike (op.Attach at name name h.p.policy) (op.Attach at (unwrap_or (policy_name_at D place) []) h.p.name h.judge)
    alike_here =
        attaches at name name h.p.name h.p.policy h.judge h.sorts refl
        (ap (λ (n : List ℕ). op.Attach at n h.p.name h.judge) (unwrapped (policy_name_at D place) h.p.name (labelled place h) ∙ named))

    more_attached : (places : List ℕ) (names : List (List ℕ)) → Attached (at + 1) places names → Attached at (place ∷ places) (name ∷ names)
    more_attached places names more = record {
      ops = op.Attach at name name h.p.policy ∷ more.ops;
      attached = (attached_here, more.attached);
      lines = more_ops line_here (op.Attach at name name h.p.policy) (op.Attach at (unwrap_or (policy_name_at D place) []) h.p.name h.judge)
          (attach_lines D (at + 1) places) more.ops (op_with (op.Attach at (unwrap_or (policy_name_at D place) [])) place h) alike_here more.lines;
    }

  attach_all : (at : ℕ) (places : List ℕ) (names : List (List ℕ)) → map Some places ≡ map (policy_entry_index all) names
      → ((name : List ℕ) → Contains names name → Contains (policies_named_in ms) name) → Attached at places names
  attach_all at [] [] e used = record { ops = []; attached = tt; lines = none_ops }
  attach_all at [] (name ∷ names) e used = absurd cc
  attach_all at (place ∷ places) [] e used = absurd cc
  attach_all at (place ∷ places) (name ∷ names) e used =
      let here : policy_entry_index all name ≡ Some place = cc in
      let rest : map Some places ≡ map (policy_entry_index all) names = cc in
      let h = had name place (by_app name (used name (there_first name names)) here) here in
      more_attached at place name h (had_name name place h here) places names
      (attach_all (at + 1) places names rest (λ n there. used n (there_more name names n there)))

  -- ---- the steps of its operator

  module _ (operator : Members) (there : Contains (operator_tables all) operator) (on : entry_conn operator ≡ entry_conn ms) where
    used_by : (line : List ℕ) (told : StepText) (policy : List ℕ) (place : ℕ) → Contains (step_lines_of operator) line → LineTells line told
        → step_policy told ≡ Some policy → policy_entry_index all policy ≡ Some place → IsUsed all ms place
    used_by line told policy place in_lines tells names e =
        by_step policy operator there on (record { line = line; there = in_lines; told = told; says = tells; policy = names }) e

    step_by : (line : List ℕ) (told : StepText) (l : StepLine) → Contains (step_lines_of operator) line → LineTells line told → IsStepLineMeaning all told l
        → (o : Op) × (o' : Op) × IsOpOfLine D line o × (op_of plan app l ≡ Some o') × AreAlike o o'
    step_by line told (step_line.Attach at name place) in_lines tells h =
        let used = used_by line told h.0 place in_lines tells (told_attach told at name h.0 h.1) h.2 in
        let p = had h.0 place used h.2 in
        let named = had_name h.0 place p h.2 in (
          op.Attach at name p.p.name p.p.policy,
          op.Attach at name p.p.name p.judge,
          against.attaches told at name p.p tells (subst (λ (n : List ℕ). IsAttach told at name n) (sym named) h.1) (get_there D place p.p p.at) refl,
          op_with (op.Attach at name) place p,
          attaches at name p.p.name p.p.name p.p.policy p.judge p.sorts refl refl,
        )
    step_by line told (step_line.Detach name) in_lines tells h =
        (op.Detach name, op.Detach name, against.detaches told name tells h refl, refl, detaches name refl refl)
    step_by line told (step_line.Upgrade name place) in_lines tells h =
        let used = used_by line told h.0 place in_lines tells (told_upgrade told name h.0 h.1) h.2 in
        let p = had h.0 place used h.2 in
        let named = had_name h.0 place p h.2 in (
          op.Upgrade name p.p.name p.p.policy,
          op.Upgrade name p.p.name p.judge,
          against.upgrades told name p.p tells (subst (λ (n : List ℕ). IsUpgrade told name n) (sym named) h.1) (get_there D place p.p p.at) refl,
          op_with (op.Upgrade name) place p,
          upgrades name p.p.name p.p.name p.p.policy p.judge p.sorts refl refl,
        )

    record SteppedAll (lines : List (List ℕ)) (steps : List OperatorStep) : Type 0 where
      ops : List Op
      each : Each (IsOpOfLine D) lines ops
      are : AreOps (map (λ s. s.line) steps) ops

    step_all : (lines : List (List ℕ)) (steps : List OperatorStep) → ((line : List ℕ) → Contains lines line → Contains (step_lines_of operator) line)
        → Each (IsStepMeaning all) lines steps → SteppedAll lines steps
    step_all [] [] within e = record { ops = []; each = tt; are = none_ops }
    step_all [] (s ∷ steps) within e = absurd e
    step_all (line ∷ lines) [] within e = absurd e
    step_all (line ∷ lines) (s ∷ steps) within e =
        let here = step_by line e.0.0 s.line (within line (there_first line lines)) e.0.1 e.0.3 in
        let more = step_all lines steps (λ l h. within l (there_more line lines l h)) e.1 in
        record {
          ops = here.0 ∷ more.ops;
          each = (here.2, more.each);
          are = more_ops s.line here.0 here.1 (map (λ t. t.line) steps) more.ops here.3 here.4 more.are;
        }

  -- ---- both together

  module _ (laws : Laws) (in_apps : Contains (app_tables all) ms) (before : List Members) (free : (q : ScenarioReason) → IsAppFault all D before ms q → ⊥) where
    first : Attached 0 app.chain (chain_names ms)
    first = attach_all 0 app.chain (chain_names ms) is.chain (λ name there. Contains-append_left (chain_names ms) (option_to_list (text_at (codes "inbound") ms)) name there)

    begun : (start : Chain) × IsChangedBy empty_chain first.ops start
    begun = walk laws empty_chain first.ops empty_sound (λ r f. free (scenario_reason_of_refusal r) (against_app.is_refused first.ops r first.attached f refl))

    start_sound : IsChain begun.0
    start_sound = changing_sound laws empty_chain begun.0 first.ops empty_sound begun.1

    -- operations with the plan's policies change the chain, so those with the connection's own do
    never : (lines : List StepLine) (ops : List Op) (after : Chain) → AreOps lines ops → IsChangedBy empty_chain ops after → AreNeverRefused plan app lines
    never lines ops after are change =
        let own = follow laws empty_chain empty_chain ops are.own after empty_sound empty_sound refl are.alike change in
        record { ops = are.own; stand_for = are.stand_for; after = own.0; change = own.1 }

    with_operator : (operator : Operator) → Contains plan.operators operator → operator.conn ≡ app.conn
        → AreNeverRefused plan app (attach_lines D 0 app.chain ++ map (λ s. s.line) operator.steps)
    with_operator operator there on =
        let entry = each_right (IsOperatorMeaning all) (operator_tables all) plan.operators operator says.operators there in
        let same : entry_conn entry.0 ≡ entry_conn ms = sym entry.2.conn ∙ on ∙ is.conn in
        let steps = step_all entry.0 entry.1 same (step_lines_of entry.0) operator.steps (λ l h. h) entry.2.steps in
        let none = free_of (IsOperatorFault all D) (operator_tables all) (operators_free all plan says) entry.0 entry.1 in
        let rest = walk laws begun.0 steps.ops start_sound (λ r f. none.1 (scenario_reason_of_refusal r)
        (against.is_refused ms first.ops steps.ops begun.0 r in_apps (sym same) first.attached begun.1 steps.each f refl)) in
        never (attach_lines D 0 app.chain ++ map (λ s. s.line) operator.steps) (first.ops ++ steps.ops) rest.0
        (append_ops (attach_lines D 0 app.chain) (map (λ s. s.line) operator.steps) first.ops steps.ops first.lines steps.are)
        (changing_append empty_chain begun.0 rest.0 first.ops steps.ops begun.1 rest.1)

    by_operator : (o : Option Operator) → operator_in plan.operators app.conn ≡ o
        → AreNeverRefused plan app (attach_lines D 0 app.chain ++ map (λ s. s.line) (steps_of_operator o))
    by_operator None e =
        never (attach_lines D 0 app.chain ++ []) (first.ops ++ []) begun.0 (append_ops (attach_lines D 0 app.chain) [] first.ops [] first.lines none_ops)
        (changing_append empty_chain begun.0 begun.0 first.ops [] begun.1 refl)
    by_operator (Some operator) e =
        let h = found_there (λ (o : Operator). o.conn == app.conn) plan.operators operator e in
        with_operator operator h.0 (eqb-true operator.conn app.conn h.1)

    pub never_refuses : AreNeverRefused plan app (chain_lines plan app)
    never_refuses = by_operator (operator_in plan.operators app.conn) refl
