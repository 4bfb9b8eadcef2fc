-- The results of reading entries, one by one and list by list (this project's own).
use Rattle.std.specs.Prelude.{◌≡◌, ℕ, List, map, String, Result, Ok, Err}
use Rattle.std.specs.BTreeMap.{BTreeMap}
use Rattle.std.specs.Borrow.{Bor}
use Rattle.std.specs.declared.alloc.Global.{Global}
use Rattle.toml.specs.Data.{Members}
use Rattle.toml.specs.View.{table_view}
use Rattle.toml.specs.declared.value.Value.{Value}
use Rattle.scenario.specs.Reasons.{IsFirstScenarioReason}
use Rattle.scenario.specs.Scenarios.{IsEntryAt}
use Rattle.scenario.specs.declared.fault.FaultyEntry.{FaultyEntry}
use Rattle.scenario.specs.declared.fault.ScenarioFault.{ScenarioFault}
use Rattle.scenario.specs.declared.fault.ScenarioFault.TheVariants as fault
use Rattle.scenario.specs.declared.fault.ScenarioReason.{ScenarioReason}

-- entries as the definitions see them
abbrev pub views : List (Bor (BTreeMap (String Global) Value)) → List Members
views entries = map (λ t. table_view t.now) entries

-- the entry has no fault, and means this; or this is the first reason of its faults
abbrev pub IsEntryRead : {X : Type 0} → (ScenarioReason → Type 0) → (X → Type 0) → Result X ScenarioReason → Type 0
IsEntryRead Against Says (Ok x) = ((q : ScenarioReason) → Against q → ⊥) × Says x
IsEntryRead Against Says (Err q) = IsFirstScenarioReason Against q

-- none of the entries has a fault
abbrev pub AreFaultFree : (List Members → Members → ScenarioReason → Type 0) → List Members → Type 0
AreFaultFree Against entries =
    (before : List Members) (ms : Members) (n : ℕ) (q : ScenarioReason) → IsEntryAt entries before ms n → Against before ms q → ⊥

-- no entry before this one has a fault, and this is the first reason of its own
pub record IsFirstEntry (Against : List Members → Members → ScenarioReason → Type 0) (entries : List Members) (n : ℕ)
    (reason : ScenarioReason) : Type 0 where
  pub before : List Members
  pub ms : Members
  pub stands : IsEntryAt entries before ms n
  pub free : AreFaultFree Against before
  pub first : IsFirstScenarioReason (Against before ms) reason

-- a fault is that of the first faulty entry
abbrev pub IsListFault : (ℕ → FaultyEntry) → (List Members → Members → ScenarioReason → Type 0) → List Members → ScenarioFault → Type 0
IsListFault place Against entries (fault.At at reason) = (n : ℕ) × (at ≡ place n) × IsFirstEntry Against entries n reason
IsListFault place Against entries fault.Memory = Unit {0}
