-- The reasons of faults: their words, their order, and the reasons of tables and policies among them.
use Rattle.std.specs.Prelude.{ℕ, ◌≤◌, List, codes}
use Rattle.mrpc_table.specs.declared.policy_lines.RuleReason.{RuleReason}
use Rattle.mrpc_table.specs.declared.policy_lines.RuleReason.TheVariants as rule
use Rattle.table_text.specs.declared.fault.TableReason.{TableReason}
use Rattle.table_text.specs.declared.fault.TableReason.TheVariants as table
use Rattle.script_grammar.specs.declared.fault.ScriptReason.{ScriptReason}
use Rattle.script_grammar.specs.declared.fault.ScriptReason.TheVariants.{Header, Syntax, Number, Duplicate, UnknownType, MapKey, Limit, Word, Name, Known, Unknown, Path, Default, Place, NoSuch, Taken, At, ChainFull, OtherKind, Work, Close, After}

abbrev pub reason_word : ScriptReason → List ℕ
reason_word Header = codes "Header"
reason_word Syntax = codes "Syntax"
reason_word Number = codes "Number"
reason_word Duplicate = codes "Duplicate"
reason_word UnknownType = codes "UnknownType"
reason_word MapKey = codes "MapKey"
reason_word Limit = codes "Limit"
reason_word Word = codes "Word"
reason_word Name = codes "Name"
reason_word Known = codes "Known"
reason_word Unknown = codes "Unknown"
reason_word Path = codes "Path"
reason_word Default = codes "Default"
reason_word Place = codes "Place"
reason_word NoSuch = codes "NoSuch"
reason_word Taken = codes "Taken"
reason_word At = codes "At"
reason_word ChainFull = codes "ChainFull"
reason_word OtherKind = codes "OtherKind"
reason_word Work = codes "Work"
reason_word Close = codes "Close"
reason_word After = codes "After"

-- among several reasons of one line, the one with the lowest rank counts
abbrev pub script_reason_rank : ScriptReason → ℕ
script_reason_rank Header = 0
script_reason_rank Syntax = 1
script_reason_rank Number = 2
script_reason_rank Duplicate = 3
script_reason_rank UnknownType = 4
script_reason_rank MapKey = 5
script_reason_rank Limit = 6
script_reason_rank Word = 7
script_reason_rank Name = 8
script_reason_rank Known = 9
script_reason_rank Unknown = 10
script_reason_rank Path = 11
script_reason_rank Default = 12
script_reason_rank Place = 13
script_reason_rank NoSuch = 14
script_reason_rank Taken = 15
script_reason_rank At = 16
script_reason_rank ChainFull = 17
script_reason_rank OtherKind = 18
script_reason_rank Work = 19
script_reason_rank Close = 20
script_reason_rank After = 21

-- of all reasons that apply, this is the first
pub record IsFirstReason (Stands : ScriptReason → Type 0) (reason : ScriptReason) : Type 0 where
  pub stands : Stands reason
  pub first : (other : ScriptReason) → Stands other → script_reason_rank reason ≤ script_reason_rank other

-- the reasons of a table's lines
abbrev pub of_table : TableReason → ScriptReason
of_table table.Syntax = Syntax
of_table table.Number = Number
of_table table.Duplicate = Duplicate
of_table table.UnknownType = UnknownType
of_table table.MapKey = MapKey
of_table table.Limit = Limit

-- the reasons of a policy's lines
abbrev pub of_rule : RuleReason → ScriptReason
of_rule rule.Word = Word
of_rule rule.Number = Number
of_rule rule.Name = Name
of_rule rule.Known = Known
of_rule rule.Path = Path
of_rule rule.Default = Default
