-- Positions of the steps of a valid plan are positions of chains.
use Rattle.std.proofs.Common.{◌≡◌, ◌==◌, ℕ, ◌<◌, ◌≤◌, ◌^◌, List, [], ◌∷◌, length, map, Contains, Option, Some, None}
use Rattle.std.proofs.Common.{refl, sym, ap, ◌∙◌, subst, inl, inr, arith, lit<, lt_of_le_of_lt}
use Rattle.std.proofs.lemmas.Bool.{cases_lt, eq-eqb, eqb-true}
use Rattle.std.proofs.lemmas.List.Elements.{All-contains, Contains-append_right}
use Rattle.engine_core.specs.Chains.{Chain, HasChanged, IsChain, is_past, no_place}
use Rattle.engine_core.specs.declared.op.Op.{Op}
use Rattle.engine_core.specs.declared.op.Op.TheVariants as op
use Rattle.engine_core.specs.declared.policy.Policy.{Policy}
use Rattle.run_plan.specs.Chains.{IsChangedBy, attach_lines, empty_chain, policy_name_at, chain_lines, op_of, operator_in, app_policy, steps_of_operator, with_policy}
use Rattle.run_plan.specs.Plans.{IsApplication, IsOperator, IsPlan}
use Rattle.run_plan.specs.declared.application.Application.{Application}
use Rattle.run_plan.specs.declared.operator.Operator.{Operator}
use Rattle.run_plan.specs.declared.operator.OperatorStep.{OperatorStep}
use Rattle.run_plan.specs.declared.operator.StepLine.{StepLine}
use Rattle.run_plan.specs.declared.operator.StepLine.TheVariants as step_line
use Rattle.run_plan.specs.declared.plan.Plan.{Plan}
use Rattle.scenario_laws.proofs.Chains.{empty_sound}
use Rattle.scenario_laws.proofs.Lists.{distinct_same, found_some, found_there, none_in, there_cases, there_map, there_unmap}
use Rattle.scenario_laws.proofs.OneLine.{IsBounded}

with_some : (f : List ℕ → Policy → Op) (l : Option (List ℕ)) (p : Option Policy) (o : Op) → with_policy f l p ≡ Some o
    → (label : List ℕ) × (policy : Policy) × (o ≡ f label policy)
with_some f (Some l) (Some p) o e = (l, p, cc)
with_some f (Some l) None o e = absurd cc
with_some f None p o e = absurd cc

at_bounded : (c next : Chain) (at : ℕ) (name label : List ℕ) (p : Policy) (o : Op) → IsChain c → o ≡ op.Attach at name label p → HasChanged c o next → at < 2 ^ 64
at_bounded c next at name label p o sound is change = elim (cases_lt (length c.entries) at) [
  | inl past ↦ absurd (change.free (no_place at) (is_past at name label p is past refl))
  | inr within ↦ (
      let few = sound.few in
      let top : at ≤ 8 = omega (arith, within, few) in
      let low : 8 < 2 ^ 64 = lit< tt in
      lt_of_le_of_lt top low
      )
]

module _ (stays : (before after : Chain) (o : Op) → IsChain before → HasChanged before o after → IsChain after) (plan : Plan) where
  line_bounded : (app : Application) (c next : Chain) (l : StepLine) (o : Op) → IsChain c → op_of plan app l ≡ Some o → HasChanged c o next → IsBounded l
  line_bounded app c next (step_line.Attach at name place) o sound e change =
      let made = with_some (op.Attach at name) (policy_name_at plan.declared.policies place) (app_policy plan app place) o e in
      at_bounded c next at name made.0 made.1 o sound made.2 change
  line_bounded app c next (step_line.Detach name) o sound e change = tt
  line_bounded app c next (step_line.Upgrade name place) o sound e change = tt

  lines_bounded : (app : Application) (lines : List StepLine) (ops : List Op) (c after : Chain) → IsChain c → map (op_of plan app) lines ≡ map Some ops
      → IsChangedBy c ops after → (l : StepLine) → Contains lines l → IsBounded l
  lines_bounded app [] ops c after sound e change l there = absurd (none_in l there)
  lines_bounded app (k ∷ lines) [] c after sound e change l there = absurd cc
  lines_bounded app (k ∷ lines) (o ∷ ops) c after sound e change l there =
      let here : op_of plan app k ≡ Some o = cc in
      let rest : map (op_of plan app) lines ≡ map Some ops = cc in
      elim (there_cases k lines l there) [
        | inl same ↦ subst IsBounded same (line_bounded app c change.0 k o sound here change.1)
        | inr more ↦ lines_bounded app lines ops change.0 after (stays c change.0 o sound change.1) rest change.2 l more
      ]

  module _ (is : IsPlan plan) (operator : Operator) (there : Contains plan.operators operator) where
    finds : (app : Application) → app.conn ≡ operator.conn → operator_in plan.operators app.conn ≡ Some operator
    finds app on =
        let found = found_some (λ (o : Operator). o.conn == app.conn) plan.operators operator there (eq-eqb operator.conn app.conn (sym on)) in
        let h = found_there (λ (o : Operator). o.conn == app.conn) plan.operators found.0 found.1 in
        let same = distinct_same (λ (o : Operator). o.conn) plan.operators found.0 operator is.operator_of h.0 there
        (eqb-true found.0.conn app.conn h.1 ∙ on) in
        found.1 ∙ ap (λ (o : Operator). Some o) same

    pub step_bounded : (s : OperatorStep) → Contains operator.steps s → IsBounded s.line
    step_bounded s in_steps =
        let sound = All-contains (IsOperator plan) plan.operators operator is.operators there in
        let on = there_unmap (λ (app : Application). app.conn) plan.applications operator.conn sound.conn in
        let app = All-contains (IsApplication plan) plan.applications on.0 is.applications on.1 in
        let in_lines : Contains (chain_lines plan on.0) s.line =
        Contains-append_right (attach_lines plan.declared.policies 0 on.0.chain) (map (λ (t : OperatorStep). t.line) (steps_of_operator (operator_in plan.operators on.0.conn))) s.line
        (subst (λ (o : Option Operator). Contains (map (λ (t : OperatorStep). t.line) (steps_of_operator o)) s.line) (sym (finds on.0 on.2))
        (there_map (λ (t : OperatorStep). t.line) operator.steps s in_steps)) in
        lines_bounded on.0 (chain_lines plan on.0) app.chain.ops empty_chain app.chain.after empty_sound app.chain.stand_for app.chain.change s.line in_lines
