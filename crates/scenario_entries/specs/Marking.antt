-- The code's own: named policies are marked, and marked ones are read again.
use Rattle.std.specs.Prelude.{◌≡◌, ◌↔◌, ℕ, ◌<◌, Bool, true, List, length, map, All, Contains, Option, Some, None, slice_get, Result, Ok, Err}
use Rattle.mrpc_table.specs.Valid.{IsAscendingBy}
use Rattle.mrpc_table.specs.declared.policy_lines.RuleReason.{RuleReason}
use Rattle.mrpc_table.specs.declared.table.Table.{Table}
use Rattle.engine_core.specs.declared.policy.Policy.{Policy}
use Rattle.policy_declarations.specs.Declarations.{Declared, policy_index}
use Rattle.run_plan.specs.declared.application.OwnPolicy.{OwnPolicy}
use Rattle.toml.specs.Data.{Members}
use Rattle.scenario.specs.Keys.{entry_kind}
use Rattle.scenario.specs.Policies.{IsPolicyOfKind, HasFaultyLine}
use Rattle.scenario.specs.Reasons.{IsFirstScenarioReason, IsSoFar, reason_of_policy_line}
use Rattle.scenario.specs.declared.fault.ScenarioReason.{ScenarioReason}

-- the policy at an index has one of the names
abbrev pub IsNamedPolicy : Declared → List (List ℕ) → ℕ → Type 0
IsNamedPolicy d names place = (name : List ℕ) × Contains names name × (policy_index d name ≡ Some place)

-- each index is marked exactly if its policy has one of the names
pub record AreMarked (d : Declared) (names : List (List ℕ)) (marks : List Bool) : Type 0 where
  pub long : length marks ≡ length d.policies
  pub named : (place : ℕ) → slice_get marks place ≡ Some true → IsNamedPolicy d names place
  pub marked : (place : ℕ) → IsNamedPolicy d names place → slice_get marks place ≡ Some true

-- an entry as read under another table
abbrev pub IsReadAgain : Table → List Members → Members → Result Policy RuleReason → Type 0
IsReadAgain own tenants ms (Ok p) = IsPolicyOfKind own tenants ms p × ((why : RuleReason) → HasFaultyLine (entry_kind ms) own ms why → ⊥)
IsReadAgain own tenants ms (Err why) =
    HasFaultyLine (entry_kind ms) own ms why × ((other : RuleReason) → HasFaultyLine (entry_kind ms) own ms other → other ≡ why)

-- the lines of a marked policy fail under the table, for this reason
pub record HasMarkedFault (entries : List Members) (own : Table) (marks : List Bool) (q : ScenarioReason) : Type 0 where
  pub place : ℕ
  pub marked : slice_get marks place ≡ Some true
  pub entry : Members
  pub there : slice_get entries place ≡ Some entry
  pub why : RuleReason
  pub fails : HasFaultyLine (entry_kind entry) own entry why
  pub is : q ≡ reason_of_policy_line why

-- the marked policies, each as read under the table
pub record AreReadAgain (entries tenants : List Members) (own : Table) (marks : List Bool) (policies : List OwnPolicy) : Type 0 where
  pub marked : (place : ℕ) → Contains (map (λ p. p.place) policies) place ↔ (slice_get marks place ≡ Some true)
  pub ascend : IsAscendingBy (λ p q. p.place < q.place) policies
  pub read : All (λ p. (entry : Members) × (slice_get entries p.place ≡ Some entry) × IsPolicyOfKind own tenants entry p.policy) policies

-- the result of reading marked policies: all of them if none has a fault, or the first reason of their faults
abbrev pub IsMarkedRead : List Members → List Members → Table → List Bool → Result (List OwnPolicy) ScenarioReason → Type 0
IsMarkedRead entries tenants own marks (Ok policies) =
    AreReadAgain entries tenants own marks policies × ((q : ScenarioReason) → HasMarkedFault entries own marks q → ⊥)
IsMarkedRead entries tenants own marks (Err q) = IsFirstScenarioReason (HasMarkedFault entries own marks) q

-- the policies and the first reason so far; nothing is known of the policies once there is a reason
pub record HasReadMarked (entries tenants : List Members) (own : Table) (marks : List Bool) (first : Option ScenarioReason) (policies : List OwnPolicy)
    : Type 0 where
  pub so_far : IsSoFar (HasMarkedFault entries own marks) first
  pub read : first ≡ None → AreReadAgain entries tenants own marks policies
