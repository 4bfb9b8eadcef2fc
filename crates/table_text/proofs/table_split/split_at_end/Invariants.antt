use Rattle.std.proofs.Common.{length}
use Rattle.table_text.proofs.TableCuts.{Passed}
use Rattle.table_text.proofs.table_split.split_at_end.Given as goal

abbrev pub invariant-loop-line : goal.invariant-loop-line
invariant-loop-line l = Passed l.text l.rest

abbrev pub decreases-loop-line : goal.decreases-loop-line
decreases-loop-line l = length l.rest
