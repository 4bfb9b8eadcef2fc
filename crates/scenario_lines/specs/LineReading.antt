-- The code's own: how one more line changes the reader of a program, and which reason the lines read so far have.
use Rattle.std.specs.Prelude.{◌≡◌, ℕ, [], ◌∷◌, ◌++◌, ◌+◌, ◌*◌, nat_lt, nat_le, Bool, false, ◌&&◌, ◌||◌, not, if◌then◌else◌, List, length, Option, Some, None}
use Rattle.app_program.specs.declared.program.ProgramLine.{ProgramLine}
use Rattle.app_program.specs.declared.program.ProgramLine.TheVariants.{Store, Spin}
use Rattle.app_program.specs.declared.program.TheConstants.{MAX_LINES, MAX_STORES}
use Rattle.scenario_lines.specs.Lines.{IsProgramLineFault, IsProgramLineMeaning}
use Rattle.scenario_lines.specs.Programs.{most_stores}
use Rattle.scenario_lines.specs.Reasons.{IsFirstLineReason, line_reason_rank}
use Rattle.scenario_lines.specs.declared.form.ProgramRole.{ProgramRole}
use Rattle.scenario_lines.specs.declared.form.ProgramRole.TheVariants.{Client, Server}
use Rattle.scenario_lines.specs.declared.program.ProgramReader.{ProgramReader}
use Rattle.scenario_lines.specs.declared.reason.LineReason.{LineReason}
use Rattle.scenario_lines.specs.declared.reason.LineReason.TheVariants.{Number, Word}

-- how often a line stores
abbrev pub store_count : ProgramLine → ℕ
store_count (Store place value) = 1
store_count (Spin times place first second) = 2 * times
store_count _ = 0

abbrev pub added_stores : ℕ → ProgramLine → ℕ
added_stores stores line = if nat_lt MAX_STORES stores then stores else stores + store_count line

abbrev pub earlier_line_reason : Option LineReason → Option LineReason → Option LineReason
earlier_line_reason None other = other
earlier_line_reason (Some one) None = Some one
earlier_line_reason (Some one) (Some other) = Some (if nat_le (line_reason_rank one) (line_reason_rank other) then one else other)

abbrev pub line_reason_if : Bool → LineReason → Option LineReason
line_reason_if holds reason = if holds then Some reason else None

abbrev pub is_too_long : ProgramReader → Bool
is_too_long reader = nat_lt (most_stores reader.role) reader.stores || nat_lt MAX_LINES (length reader.lines)

abbrev pub lacks_reply : ProgramRole → Bool → Bool
lacks_reply Client ends = false
lacks_reply Server ends = not ends

abbrev pub first_reason : ProgramReader → Option LineReason
first_reason reader =
    earlier_line_reason (earlier_line_reason reader.first (line_reason_if (is_too_long reader) Number)) (line_reason_if (lacks_reply reader.role reader.ends) Word)

abbrev pub kept : ProgramReader → ProgramLine → ProgramReader
kept reader line = record reader { lines = reader.lines ++ line ∷ []; stores = added_stores reader.stores line }

abbrev pub with_first_reason : ProgramReader → LineReason → ProgramReader
with_first_reason reader reason = record reader { first = earlier_line_reason reader.first (Some reason) }

abbrev pub with_reply_noted : ProgramReader → Bool → ProgramReader
with_reply_noted reader replies = record reader { replied = reader.replied || replies; ends = not reader.replied && replies }

-- one more line was read, except whether it has the form of a reply: its meaning was kept, or the first reason of its
-- faults
pub data HasTakenLine (old : ProgramReader) (text : List ℕ) (new : ProgramReader) : Type 0 where
  keeps : (line : ProgramLine) → IsProgramLineMeaning old.role old.heap text line
      → new ≡ kept old line → HasTakenLine old text new
  blames : (reason : LineReason) → IsFirstLineReason (IsProgramLineFault old.role old.heap text) reason
      → new ≡ with_first_reason old reason → HasTakenLine old text new
