-- The names of the lines so far are kept.
use Rattle.std.proofs.Common.{length, []}
use Rattle.std.specs.List.{filter_map}
use Rattle.table_text.specs.Lines.{without_prefix}
use Rattle.table_text.proofs.NamesLemmas.{NamesSoFar}
use Rattle.table_text.proofs.reach.names_with_prefix.Given as goal

abbrev pub invariant-loop-line : goal.invariant-loop-line
invariant-loop-line l = NamesSoFar (filter_map (without_prefix l.prefix)) [] l.fn.text l.rest l.names

abbrev pub decreases-loop-line : goal.decreases-loop-line
decreases-loop-line l = length l.rest
