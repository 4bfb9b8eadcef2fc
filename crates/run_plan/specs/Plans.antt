-- What a plan guarantees (this project's own).
use Rattle.std.specs.Prelude.{◌≡◌, ℕ, ◌*◌, ◌<◌, ◌≤◌, List, length, map, sum, All, Contains, Some, IfSome, slice_get}
use Rattle.mrpc_table.specs.Lines.{IsIn}
use Rattle.mrpc_table.specs.Names.{IsName, IsFullName}
use Rattle.mrpc_table.specs.Valid.{IsValid, IsAscendingBy, AreDistinct}
use Rattle.mrpc_table.specs.declared.limits.TheConstants.{MAX_LOADS}
use Rattle.mrpc_table.specs.declared.table.Table.{Table}
use Rattle.engine_core.specs.Policies.{IsAccess}
use Rattle.engine_core.specs.declared.policy.Policy.{Policy}
use Rattle.engine_core.specs.declared.policy.Policy.TheVariants.{Quota}
use Rattle.policy_declarations.specs.Declarations.{AreValidDeclarations}
use Rattle.policy_declarations.specs.declared.declaration.NamedPolicy.{NamedPolicy}
use Rattle.policy_declarations.specs.declared.declaration.Tenant.{Tenant}
use Rattle.app_program.specs.Programs.{IsClientProgram, IsServerProgram, program_submits}
use Rattle.run_plan.specs.Chains.{policy_at, app_policy, IsReadUnder, HaveSameMeaning, chain_lines, AreNeverRefused}
use Rattle.run_plan.specs.Links.{HasNumbersInRange, ArePaired, connections_of}
use Rattle.run_plan.specs.declared.application.Application.{Application}
use Rattle.run_plan.specs.declared.application.OwnPolicy.{OwnPolicy}
use Rattle.run_plan.specs.declared.application.OwnSchema.{OwnSchema}
use Rattle.run_plan.specs.declared.application.Role.{Role}
use Rattle.run_plan.specs.declared.application.Role.TheVariants as role
use Rattle.run_plan.specs.declared.limits.TheConstants.{MAX_CONNECTIONS, MAX_STEPS, MAX_WORK, MAX_WORKERS}
use Rattle.run_plan.specs.declared.operator.Operator.{Operator}
use Rattle.run_plan.specs.declared.operator.StepLine.{StepLine}
use Rattle.run_plan.specs.declared.operator.StepLine.TheVariants as line
use Rattle.run_plan.specs.declared.plan.Plan.{Plan}

-- ---- programs

-- the program suits its role and a heap of this many words
abbrev pub HasProgram : ℕ → Role → Type 0
HasProgram words (role.Client program) = IsClientProgram words program
HasProgram words (role.Server program) = IsServerProgram words program
HasProgram words role.Echo = Unit {0}

-- the number of calls that a client submits
abbrev pub submission_count : Role → ℕ
submission_count (role.Client program) = length (program_submits 0 program)
submission_count _ = 0

-- the loads of all calls: each call of a client counts twice, for its reply, with the maximum loads of one call
abbrev pub work : ℕ → List Application → ℕ
work loads apps = 2 * sum (map (λ app. submission_count app.role) apps) * loads

-- ---- policies

-- the window of a quota is its tenant's
abbrev pub HasWindow : List Tenant → Policy → Type 0
HasWindow tenants (Quota tenant per cap) = (t : Tenant) × (slice_get tenants tenant ≡ Some t) × (per ≡ t.per)
HasWindow tenants _ = Unit {0}

-- a policy of an application's own schema was read under that schema's table, and means the same as the plan's policy
-- at its index
pub record IsOwnPolicy (shared : Table) (policies : List NamedPolicy) (own : Table) (p : OwnPolicy) : Type 0 where
  pub there : Policy
  pub found : policy_at policies p.place ≡ Some there
  pub same : HaveSameMeaning shared there own p.policy

pub record IsOwnSchema (plan : Plan) (own : OwnSchema) : Type 0 where
  pub table : IsValid own.table
  pub places : IsAscendingBy (λ p q. p.place < q.place) own.policies
  pub policies : All (IsOwnPolicy plan.table plan.declared.policies own.table) own.policies

-- the index is that of an access policy, as it judges on an application's connection
pub record IsInbound (plan : Plan) (app : Application) (place : ℕ) : Type 0 where
  pub there : Policy
  pub found : app_policy plan app place ≡ Some there
  pub access : IsAccess there

-- ---- operators

abbrev pub HasNames : StepLine → Type 0
HasNames (line.Attach at name place) = IsName name
HasNames (line.Detach name) = IsName name
HasNames (line.Upgrade name place) = IsName name

pub record IsOperator (plan : Plan) (operator : Operator) : Type 0 where
  pub conn : Contains (connections_of plan.applications) operator.conn
  pub counts : IsAscendingBy (λ step next. step.count ≤ next.count) operator.steps
  pub names : All (λ step. HasNames step.line) operator.steps
  pub few : length operator.steps ≤ MAX_STEPS

-- ---- applications and plans

pub record IsApplication (plan : Plan) (app : Application) : Type 0 where
  pub port : HasNumbersInRange app
  pub program : HasProgram app.heap app.role
  pub own : IfSome app.own (IsOwnSchema plan)
  pub inbound : IfSome app.inbound (IsInbound plan app)
  pub chain : AreNeverRefused plan app (chain_lines plan app)

pub record IsPlan (plan : Plan) : Type 0 where
  pub service : IsFullName plan.service
  pub loads : IsIn 1 MAX_LOADS plan.loads
  pub workers : IsIn 1 MAX_WORKERS plan.workers
  pub table : IsValid plan.table
  pub declared : AreValidDeclarations plan.declared
  pub read : All (λ p. IsReadUnder plan.table p.policy) plan.declared.policies
  pub windows : All (λ p. HasWindow plan.declared.tenants p.policy) plan.declared.policies
  pub few : length plan.applications ≤ MAX_CONNECTIONS
  pub connections : AreDistinct (connections_of plan.applications)
  pub applications : All (IsApplication plan) plan.applications
  pub pairs : ArePaired plan.applications plan.links
  pub operator_of : AreDistinct (map (λ operator. operator.conn) plan.operators)
  pub operators : All (IsOperator plan) plan.operators
  pub work : work plan.loads plan.applications ≤ MAX_WORK
