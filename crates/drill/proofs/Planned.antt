-- The operations for a connection name only policies of the plan.
use Rattle.std.proofs.Common.{◌≡◌, ℕ, Bool, true, false, cond, List, [], ◌∷◌, Option, Some, None}
use Rattle.std.proofs.Common.{map, option_map, refl, subst}
use Rattle.std.specs.Prelude.{All, slice_get}
use Rattle.std.specs.List.{find}
use Rattle.std.proofs.lemmas.Option.{none-some, same_Some}
use Rattle.std.proofs.lemmas.List.Elements.{All-cons, All-head, All-nil, All-tail}
use Rattle.engine_core.specs.declared.op.Op.{Op}
use Rattle.engine_core.specs.declared.op.Op.TheVariants as op
use Rattle.engine_core.specs.declared.policy.Policy.{Policy}
use Rattle.conn_core.specs.ConnectionSteps.{IfPolicy}
use Rattle.policy_declarations.specs.declared.declaration.NamedPolicy.{NamedPolicy}
use Rattle.run_plan.specs.Chains.{policy_name_at, chain_lines, op_of, own_policy_in, policy_by, app_policy, with_policy}
use Rattle.run_plan.specs.declared.application.Application.{Application}
use Rattle.run_plan.specs.declared.application.OwnPolicy.{OwnPolicy}
use Rattle.run_plan.specs.declared.application.OwnSchema.{OwnSchema}
use Rattle.run_plan.specs.declared.operator.StepLine.{StepLine}
use Rattle.run_plan.specs.declared.operator.StepLine.TheVariants as line
use Rattle.run_plan.specs.declared.plan.Plan.{Plan}
use Rattle.service_loop.specs.declared.scheduled_op.ScheduledOp.{ScheduledOp}
use Rattle.service_wiring.specs.Scheduling.{AreOpsOfPlan}
use Rattle.drill.specs.Holding.{IsNonHolding, HasNoHoldingPolicy, AreOwnNonHolding, IsNonHoldingOp}
use Rattle.drill.proofs.Holding.{all-at}

-- ---- what is found

found-one : {X : Type 0} (P : X → Type 0) (b : Bool) (y : X) (rest : Option X) (x : X) → P y → (rest ≡ Some x → P x)
    → cond b (Some y) rest ≡ Some x → P x
found-one P true y rest x here later at = subst P (same_Some y x at) here
found-one P false y rest x here later at = later at

pub found-holds : {X : Type 0} (P : X → Type 0) (test : X → Bool) (xs : List X) (x : X) → All P xs
    → find test xs ≡ Some x → P x
found-holds P test [] x all at = absurd (none-some x at)
found-holds P test (y ∷ xs) x all at = found-one P (test y) y (find test xs) x (All-head P y xs all)
    (λ more. found-holds P test xs x (All-tail P y xs all) more) at

-- ---- a policy at an index

abbrev NamedNever : NamedPolicy → Type 0
NamedNever p = IsNonHolding p.policy

abbrev OwnNever : OwnPolicy → Type 0
OwnNever p = IsNonHolding p.policy

named-so : (policies : List NamedPolicy) (place : ℕ) (p : Policy) (o : Option NamedPolicy) → All NamedNever policies
    → slice_get policies place ≡ o → option_map (λ (n : NamedPolicy). n.policy) o ≡ Some p → IsNonHolding p
named-so policies place p None all at is = absurd (none-some p is)
named-so policies place p (Some n) all at is =
    subst IsNonHolding (same_Some n.policy p is) (all-at NamedNever policies place n at all)

own-so : (policies : List OwnPolicy) (place : ℕ) (p : Policy) (o : Option OwnPolicy) → All OwnNever policies
    → own_policy_in policies place ≡ o → option_map (λ (n : OwnPolicy). n.policy) o ≡ Some p → IsNonHolding p
own-so policies place p None all at is = absurd (none-some p is)
own-so policies place p (Some n) all at is =
    subst IsNonHolding (same_Some n.policy p is) (found-holds OwnNever _ policies n all at)

by-so : (policies : List NamedPolicy) (own : Option OwnSchema) (place : ℕ) (p : Policy) → All NamedNever policies
    → AreOwnNonHolding own → policy_by policies own place ≡ Some p → IsNonHolding p
by-so policies None place p all own is = named-so policies place p (slice_get policies place) all refl is
by-so policies (Some schema) place p all own is =
    own-so schema.policies place p (own_policy_in schema.policies place) own refl is

-- ---- the operation of a line

abbrev OpNeverHolds : Op → Type 0
OpNeverHolds step = IfPolicy step IsNonHolding

with-so : (f : List ℕ → Policy → Op) (label : Option (List ℕ)) (policy : Option Policy) (step : Op)
    → ((name : List ℕ) (p : Policy) → IsNonHolding p → OpNeverHolds (f name p)) → ((p : Policy) → policy ≡ Some p → IsNonHolding p)
    → with_policy f label policy ≡ Some step → OpNeverHolds step
with-so f (Some name) (Some p) step names so is = subst OpNeverHolds (same_Some (f name p) step is) (names name p (so p refl))
with-so f (Some name) None step names so is = absurd (none-some step is)
with-so f None policy step names so is = absurd (none-some step is)

module _ (plan : Plan) (app : Application) (none : HasNoHoldingPolicy plan) (own : AreOwnNonHolding app.own) where
  at-so : (place : ℕ) (p : Policy) → app_policy plan app place ≡ Some p → IsNonHolding p
  at-so place p is = by-so plan.declared.policies app.own place p none.declared own is

  line-so : (l : StepLine) (step : Op) → op_of plan app l ≡ Some step → OpNeverHolds step
  line-so (line.Attach at name place) step is =
      with-so (op.Attach at name) (policy_name_at plan.declared.policies place) (app_policy plan app place) step
      (λ label p so. so) (at-so place) is
  line-so (line.Detach name) step is = subst OpNeverHolds (same_Some (op.Detach name) step is) tt
  line-so (line.Upgrade name place) step is =
      with-so (op.Upgrade name) (policy_name_at plan.declared.policies place) (app_policy plan app place) step
      (λ label p so. so) (at-so place) is

  lines-so : (lines : List StepLine) (steps : List ScheduledOp)
      → map (op_of plan app) lines ≡ map (λ due. Some due.step) steps → All IsNonHoldingOp steps
  lines-so [] [] same = All-nil IsNonHoldingOp
  lines-so [] (due ∷ steps) same = absurd cc
  lines-so (l ∷ lines) [] same = absurd cc
  lines-so (l ∷ lines) (due ∷ steps) same =
      let first : op_of plan app l ≡ Some due.step = cc in
      let rest : map (op_of plan app) lines ≡ map (λ (d : ScheduledOp). Some d.step) steps = cc in
      All-cons IsNonHoldingOp due steps (line-so l due.step first) (lines-so lines steps rest)

  pub steps-so : (steps : List ScheduledOp) → AreOpsOfPlan plan app steps → All IsNonHoldingOp steps
  steps-so steps are = lines-so (chain_lines plan app) steps are.stand_for
