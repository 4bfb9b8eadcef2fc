-- The operations that each connection's chain gets, and the policies that they name (this project's own).
use Rattle.std.specs.Prelude.{◌≡◌, ℕ, ◌+◌, ◌==◌, List, [], ◌∷◌, ◌++◌, map, Option, Some, None, option_map, option_and_then, slice_get, unwrap_or}
use Rattle.std.specs.List.{find}
use Rattle.mrpc_table.specs.declared.table.Table.{Table}
use Rattle.policy_access.specs.Texts as access
use Rattle.policy_access.specs.Verdict.{AccessPolicy}
use Rattle.policy_redact.specs.Texts as redact
use Rattle.engine_core.specs.Chains.{Chain, HasChanged}
use Rattle.engine_core.specs.declared.op.Op.{Op}
use Rattle.engine_core.specs.declared.op.Op.TheVariants as op
use Rattle.engine_core.specs.declared.policy.Policy.{Policy}
use Rattle.engine_core.specs.declared.policy.Policy.TheVariants as policy
use Rattle.policy_declarations.specs.declared.declaration.NamedPolicy.{NamedPolicy}
use Rattle.run_plan.specs.declared.application.Application.{Application}
use Rattle.run_plan.specs.declared.application.OwnPolicy.{OwnPolicy}
use Rattle.run_plan.specs.declared.application.OwnSchema.{OwnSchema}
use Rattle.run_plan.specs.declared.operator.Operator.{Operator}
use Rattle.run_plan.specs.declared.operator.OperatorStep.{OperatorStep}
use Rattle.run_plan.specs.declared.operator.StepLine.{StepLine}
use Rattle.run_plan.specs.declared.operator.StepLine.TheVariants as line
use Rattle.run_plan.specs.declared.plan.Plan.{Plan}

-- ---- policies by index

-- the name under which a policy is declared
abbrev pub policy_name_at : List NamedPolicy → ℕ → Option (List ℕ)
policy_name_at policies place = option_map (λ p. p.name) (slice_get policies place)

-- a policy as read under the plan's table, and under the table of an application's own schema
abbrev pub policy_at : List NamedPolicy → ℕ → Option Policy
policy_at policies place = option_map (λ p. p.policy) (slice_get policies place)

abbrev pub own_policy_in : List OwnPolicy → ℕ → Option OwnPolicy
own_policy_in own place = find (λ p. p.place == place) own

abbrev pub own_policy_at : List OwnPolicy → ℕ → Option Policy
own_policy_at own place = option_map (λ p. p.policy) (own_policy_in own place)

-- the table by which an application binds
abbrev pub table_by : Table → Option OwnSchema → Table
table_by shared None = shared
table_by shared (Some own) = own.table

abbrev pub app_table : Plan → Application → Table
app_table plan app = table_by plan.table app.own

-- a policy of the plan as it judges on an application's connection
abbrev pub policy_by : List NamedPolicy → Option OwnSchema → ℕ → Option Policy
policy_by shared None place = policy_at shared place
policy_by shared (Some own) place = own_policy_at own.policies place

abbrev pub app_policy : Plan → Application → ℕ → Option Policy
app_policy plan app place = policy_by plan.declared.policies app.own place

-- an access policy; none for a policy of another kind
abbrev pub access_in : Option Policy → Option AccessPolicy
access_in (Some (policy.Access p)) = Some p
access_in _ = None

-- the access policy that judges messages delivered to the application
abbrev pub inbound_of : Plan → Application → Option AccessPolicy
inbound_of plan app = option_and_then (λ place. access_in (app_policy plan app place)) app.inbound

-- ---- policies under tables

-- the policy was read under the table, if its kind depends on one
abbrev pub IsReadUnder : Table → Policy → Type 0
IsReadUnder T (policy.Access p) = (lines : List (List ℕ)) × access.IsTextOf T lines p
IsReadUnder T (policy.Redact p) = (lines : List (List ℕ)) × redact.IsTextOf T lines p
IsReadUnder T _ = Unit {0}

-- two policies mean the same, each under its table: they have the same lines, or are equal if they have none
abbrev pub HaveSameMeaning : (T : Table) → Policy → (U : Table) → Policy → Type 0
HaveSameMeaning T (policy.Access p) U (policy.Access q) =
    (lines : List (List ℕ)) × access.IsTextOf T lines p × access.IsTextOf U lines q
HaveSameMeaning T (policy.Redact p) U (policy.Redact q) =
    (lines : List (List ℕ)) × redact.IsTextOf T lines p × redact.IsTextOf U lines q
HaveSameMeaning T p U q = p ≡ q

-- ---- steps

-- the operation that a line means on the connection of an application; none if it names no declared policy
abbrev pub with_policy : (List ℕ → Policy → Op) → Option (List ℕ) → Option Policy → Option Op
with_policy f (Some label) (Some policy) = Some (f label policy)
with_policy f _ _ = None

abbrev pub op_of : Plan → Application → StepLine → Option Op
op_of plan app (line.Attach at name place) =
    with_policy (op.Attach at name) (policy_name_at plan.declared.policies place) (app_policy plan app place)
op_of plan app (line.Detach name) = Some (op.Detach name)
op_of plan app (line.Upgrade name place) =
    with_policy (op.Upgrade name) (policy_name_at plan.declared.policies place) (app_policy plan app place)

-- the operation that attaches the policy at a position of the application's initial chain
abbrev pub attach_op : ℕ → List ℕ → Policy → Op
attach_op at label policy = op.Attach at label label policy

abbrev pub attachment_of : Plan → Application → ℕ → Option Op
attachment_of plan app at =
    option_and_then (λ place. with_policy (attach_op at) (policy_name_at plan.declared.policies place) (app_policy plan app place))
    (slice_get app.chain at)

-- attachments in order from a position of the chain, each under the name that its policy is declared by
abbrev pub attach_lines : List NamedPolicy → ℕ → List ℕ → List StepLine
attach_lines policies at [] = []
attach_lines policies at (place ∷ places) =
    line.Attach at (unwrap_or (policy_name_at policies place) []) place ∷ attach_lines policies (at + 1) places

-- the steps of operators for a connection
abbrev pub steps_of_operator : Option Operator → List OperatorStep
steps_of_operator None = []
steps_of_operator (Some operator) = operator.steps

abbrev pub operator_in : List Operator → ℕ → Option Operator
operator_in operators conn = find (λ operator. operator.conn == conn) operators

abbrev pub steps_on : List Operator → ℕ → List OperatorStep
steps_on operators conn = steps_of_operator (operator_in operators conn)

-- all lines for the chain of an application's connection, in order: its initial attachments, then the steps
abbrev pub chain_lines : Plan → Application → List StepLine
chain_lines plan app =
    attach_lines plan.declared.policies 0 app.chain ++ map (λ step. step.line) (steps_on plan.operators app.conn)

-- ---- chains

abbrev pub empty_chain : Chain
empty_chain = record { entries = []; attached = 0 }

-- the operations change the chain one after another, and none is refused
abbrev pub IsChangedBy : Chain → List Op → Chain → Type 0
IsChangedBy before [] after = after ≡ before
IsChangedBy before (op ∷ ops) after = (next : Chain) × HasChanged before op next × IsChangedBy next ops after

-- the lines mean operations of which the chain refuses none
pub record AreNeverRefused (plan : Plan) (app : Application) (lines : List StepLine) : Type 0 where
  pub ops : List Op
  pub stand_for : map (op_of plan app) lines ≡ map Some ops
  pub after : Chain
  pub change : IsChangedBy empty_chain ops after
