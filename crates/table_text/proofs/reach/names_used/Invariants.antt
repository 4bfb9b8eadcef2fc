-- The names that the lines so far use are kept.
use Rattle.std.proofs.Common.{length, []}
use Rattle.table_text.specs.Reach.{used_in}
use Rattle.table_text.proofs.NamesLemmas.{NamesSoFar}
use Rattle.table_text.proofs.reach.names_used.Given as goal

abbrev pub invariant-loop-line : goal.invariant-loop-line
invariant-loop-line l = NamesSoFar used_in [] l.fn.text l.rest l.names

abbrev pub decreases-loop-line : goal.decreases-loop-line
decreases-loop-line l = length l.rest
