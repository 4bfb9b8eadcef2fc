use Rattle.std.proofs.Common.{◌≡◌, ◌-◌, ◌<◌, ◌≤◌, ◌++◌, List, ℕ, length}
use Rattle.mrpc_table.specs.declared.table.Table.{Table}
use Rattle.frame_view.specs.ViewRanges.{IsLinesOf}
use Rattle.frame_view.proofs.views.append_views.Given as goal

-- the views of the frames before an offset were appended
pub record Shown (T : Table) (stream : List ℕ) (from place : ℕ) (old new : List ℕ) : Type 0 where
  pub text : List ℕ
  pub appended : new ≡ old ++ text
  pub shows : IsLinesOf T stream from place text
  pub further : from ≤ place
  pub some : place < length stream

abbrev pub invariant-frames : goal.invariant-frames
invariant-frames l = Shown l.table l.stream l.from l.place l.fn.lines l.lines

abbrev pub decreases-frames : goal.decreases-frames
decreases-frames l = length l.stream - l.place
