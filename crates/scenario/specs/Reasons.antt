-- The reasons of faults: their words, their order, and those of lines, policies and chains among them.
use Rattle.std.specs.Prelude.{ℕ, Bool, nat_le, if◌then◌else◌, List, codes, Option, Some, None, ◌≤◌}
use Rattle.mrpc_table.specs.declared.policy_lines.RuleReason.{RuleReason}
use Rattle.mrpc_table.specs.declared.policy_lines.RuleReason.TheVariants as rule
use Rattle.engine_core.specs.Chains.{Refusal, no_such, taken, no_place, full, other_kind}
use Rattle.scenario_lines.specs.declared.reason.LineReason.{LineReason}
use Rattle.scenario_lines.specs.declared.reason.LineReason.TheVariants as line
use Rattle.scenario.specs.declared.fault.FaultyEntry.{FaultyEntry}
use Rattle.scenario.specs.declared.fault.FaultyEntry.TheVariants as entry
use Rattle.scenario.specs.declared.fault.ScenarioReason.{ScenarioReason}
use Rattle.scenario.specs.declared.fault.ScenarioReason.TheVariants.{Toml, Key, Number, Name, Known, Unknown, Schema, Path, Default, Word, Place, NoSuch, Taken, At, ChainFull, OtherKind, Pair, Work}

abbrev pub scenario_reason_word : ScenarioReason → List ℕ
scenario_reason_word Toml = codes "Toml"
scenario_reason_word Key = codes "Key"
scenario_reason_word Number = codes "Number"
scenario_reason_word Name = codes "Name"
scenario_reason_word Known = codes "Known"
scenario_reason_word Unknown = codes "Unknown"
scenario_reason_word Schema = codes "Schema"
scenario_reason_word Path = codes "Path"
scenario_reason_word Default = codes "Default"
scenario_reason_word Word = codes "Word"
scenario_reason_word Place = codes "Place"
scenario_reason_word NoSuch = codes "NoSuch"
scenario_reason_word Taken = codes "Taken"
scenario_reason_word At = codes "At"
scenario_reason_word ChainFull = codes "ChainFull"
scenario_reason_word OtherKind = codes "OtherKind"
scenario_reason_word Pair = codes "Pair"
scenario_reason_word Work = codes "Work"

-- the rank of a reason: of several at one entry the one with the lowest counts
abbrev pub scenario_reason_rank : ScenarioReason → ℕ
scenario_reason_rank Toml = 0
scenario_reason_rank Key = 1
scenario_reason_rank Number = 2
scenario_reason_rank Name = 3
scenario_reason_rank Known = 4
scenario_reason_rank Unknown = 5
scenario_reason_rank Schema = 6
scenario_reason_rank Path = 7
scenario_reason_rank Default = 8
scenario_reason_rank Word = 9
scenario_reason_rank Place = 10
scenario_reason_rank NoSuch = 11
scenario_reason_rank Taken = 12
scenario_reason_rank At = 13
scenario_reason_rank ChainFull = 14
scenario_reason_rank OtherKind = 15
scenario_reason_rank Pair = 16
scenario_reason_rank Work = 17

abbrev pub first_reason_of : ScenarioReason → ScenarioReason → ScenarioReason
first_reason_of one other = if nat_le (scenario_reason_rank one) (scenario_reason_rank other) then one else other

-- the first of two optional reasons
abbrev pub lower_ranked : Option ScenarioReason → Option ScenarioReason → Option ScenarioReason
lower_ranked None other = other
lower_ranked (Some one) None = Some one
lower_ranked (Some one) (Some other) = Some (first_reason_of one other)

-- the reason, if it holds
abbrev pub reason_if : Bool → ScenarioReason → Option ScenarioReason
reason_if holds reason = if holds then Some reason else None

-- of the reasons that hold, this is the first
pub record IsFirstScenarioReason (Stands : ScenarioReason → Type 0) (reason : ScenarioReason) : Type 0 where
  pub stands : Stands reason
  pub first : (other : ScenarioReason) → Stands other → scenario_reason_rank reason ≤ scenario_reason_rank other

-- the first of the reasons that hold, or none
abbrev pub IsSoFar : (ScenarioReason → Type 0) → Option ScenarioReason → Type 0
IsSoFar Stands None = (reason : ScenarioReason) → Stands reason → ⊥
IsSoFar Stands (Some reason) = IsFirstScenarioReason Stands reason

-- the reasons of program lines and step lines
abbrev pub reason_of_line : LineReason → ScenarioReason
reason_of_line line.Number = Number
reason_of_line line.Name = Name
reason_of_line line.Word = Word
reason_of_line line.Place = Place

-- the reasons of a policy's lines
abbrev pub reason_of_policy_line : RuleReason → ScenarioReason
reason_of_policy_line rule.Word = Word
reason_of_policy_line rule.Number = Number
reason_of_policy_line rule.Name = Name
reason_of_policy_line rule.Known = Known
reason_of_policy_line rule.Path = Path
reason_of_policy_line rule.Default = Default

-- the reasons for which a chain refuses an operation
abbrev pub scenario_reason_of_refusal : Refusal → ScenarioReason
scenario_reason_of_refusal (no_such name) = NoSuch
scenario_reason_of_refusal (taken name) = Taken
scenario_reason_of_refusal (no_place at) = At
scenario_reason_of_refusal (full entries) = ChainFull
scenario_reason_of_refusal (other_kind name) = OtherKind

-- ---- entries: the top table, and then list by list

abbrev pub list_of_entry : FaultyEntry → ℕ
list_of_entry entry.Top = 0
list_of_entry (entry.Tenant n) = 1
list_of_entry (entry.Policy n) = 2
list_of_entry (entry.App n) = 3
list_of_entry (entry.Link n) = 4
list_of_entry (entry.Operator n) = 5

abbrev pub number_of_entry : FaultyEntry → ℕ
number_of_entry entry.Top = 0
number_of_entry (entry.Tenant n) = n
number_of_entry (entry.Policy n) = n
number_of_entry (entry.App n) = n
number_of_entry (entry.Link n) = n
number_of_entry (entry.Operator n) = n
