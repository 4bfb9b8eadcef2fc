use Rattle.std.proofs.Common.{◌≡◌, ◌-◌, ◌<◌, ◌≤◌, ◌++◌, List, ℕ, length}
use Rattle.mrpc_table.specs.declared.table.Table.{Table}
use Rattle.text_commands.specs.LineRanges.{AreLinesBetween}
use Rattle.text_commands.proofs.decoding.append_lines.Given as goal

-- the lines of the frames before an offset were appended
pub record Told (T : Table) (stream : List ℕ) (from place : ℕ) (old new : List ℕ) : Type 0 where
  pub text : List ℕ
  pub appended : new ≡ old ++ text
  pub tells : AreLinesBetween T stream from place text
  pub further : from ≤ place
  pub some : place < length stream

abbrev pub invariant-frames : goal.invariant-frames
invariant-frames l = Told l.table l.stream l.from l.place l.fn.lines l.lines

abbrev pub decreases-frames : goal.decreases-frames
decreases-frames l = length l.stream - l.place
