-- Named policies, by their indices, and how they are read under an application's own table.
use Rattle.std.specs.Prelude.{◌≡◌, ◌↔◌, ℕ, ◌<◌, List, map, All, Contains, Some}
use Rattle.mrpc_table.specs.Names.{IsName}
use Rattle.mrpc_table.specs.Valid.{IsAscendingBy}
use Rattle.mrpc_table.specs.declared.policy_lines.RuleReason.{RuleReason}
use Rattle.mrpc_table.specs.declared.table.Table.{Table}
use Rattle.run_plan.specs.declared.application.OwnPolicy.{OwnPolicy}
use Rattle.toml.specs.Data.{Members}
use Rattle.scenario.specs.Applications.{HasFaultUnderOwn}
use Rattle.scenario.specs.Policies.{entry_names}
use Rattle.scenario.specs.Reasons.{reason_of_policy_line}
use Rattle.scenario.specs.Scenarios.{IsOwnPolicyMeaning, policy_entry_index}
use Rattle.scenario.specs.declared.fault.ScenarioReason.{ScenarioReason}
use Rattle.scenario.specs.declared.fault.ScenarioReason.TheVariants.{Name, Unknown}

-- ---- names of policies

-- names of policies have a fault with this reason
pub data IsNamesFault (policies : List Members) (names : List (List ℕ)) (reason : ScenarioReason) : Type 0 where
  no_name : (name : List ℕ) → Contains names name → (IsName name → ⊥) → reason ≡ Name → IsNamesFault policies names reason
  no_policy : (name : List ℕ) → Contains names name → (Contains (entry_names policies) name → ⊥) → reason ≡ Unknown
      → IsNamesFault policies names reason

-- ---- policies under a table of an application's own

-- the lines of a named policy fail under the application's own schema, and this is the reason
abbrev pub HasNamedFault : (all app : Members) → (List ℕ → Type 0) → ScenarioReason → Type 0
HasNamedFault all app HasOneOfNames reason = (why : RuleReason) × HasFaultUnderOwn all app HasOneOfNames why × (reason ≡ reason_of_policy_line why)

-- the policy at an index has one of the names
abbrev pub HasOneOfNames : Members → List (List ℕ) → ℕ → Type 0
HasOneOfNames all names place = (name : List ℕ) × Contains names name × (policy_entry_index all name ≡ Some place)

-- the policies that have one of the names, each as its entry means it under the application's own table
pub record AreOwn (all : Members) (own : Table) (names : List (List ℕ)) (read : List OwnPolicy) : Type 0 where
  pub used : (place : ℕ) → Contains (map (λ p. p.place) read) place ↔ HasOneOfNames all names place
  pub ascend : IsAscendingBy (λ p q. p.place < q.place) read
  pub policies : All (IsOwnPolicyMeaning all own) read
