-- The reasons of faults in lines: their order, and those of a line's words among them.
use Rattle.std.specs.Prelude.{ℕ, ◌≤◌, Option, Some, None}
use Rattle.script_grammar.specs.declared.fault.ScriptReason.{ScriptReason}
use Rattle.script_grammar.specs.declared.fault.ScriptReason.TheVariants as script
use Rattle.scenario_lines.specs.declared.reason.LineReason.{LineReason}
use Rattle.scenario_lines.specs.declared.reason.LineReason.TheVariants.{Number, Name, Word, Place}

-- the rank of a reason: of several the one with the lowest counts
abbrev pub line_reason_rank : LineReason → ℕ
line_reason_rank Number = 0
line_reason_rank Name = 1
line_reason_rank Word = 2
line_reason_rank Place = 3

-- of the reasons that hold, this is the first
pub record IsFirstLineReason (Stands : LineReason → Type 0) (reason : LineReason) : Type 0 where
  pub stands : Stands reason
  pub first : (other : LineReason) → Stands other → line_reason_rank reason ≤ line_reason_rank other

-- the reasons of a line's words; the words of a line have no other
abbrev pub line_reason_of_words : ScriptReason → Option LineReason
line_reason_of_words script.Number = Some Number
line_reason_of_words script.Name = Some Name
line_reason_of_words script.Word = Some Word
line_reason_of_words _ = None
