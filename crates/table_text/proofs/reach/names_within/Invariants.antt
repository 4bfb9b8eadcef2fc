-- The names of the near lines are kept, and those of the far lines so far that are used.
use Rattle.std.proofs.Common.{ℕ, List, length}
use Rattle.std.specs.List.{filter_map}
use Rattle.mrpc_table.specs.Lines.{whole_lines}
use Rattle.table_text.specs.Lines.{without_prefix}
use Rattle.table_text.specs.NameIndex.{AreNames}
use Rattle.table_text.specs.Reach.{used_with_prefix}
use Rattle.table_text.proofs.NamesLemmas.{NamesSoFar}
use Rattle.table_text.proofs.reach.names_within.Given as goal

abbrev pub invariant-loop-line : goal.invariant-loop-line
invariant-loop-line l = (wanted : List (List ℕ)) → AreNames l.used wanted
    → NamesSoFar (filter_map (used_with_prefix wanted l.prefix)) (filter_map (without_prefix l.prefix) (whole_lines l.fn.near)) l.fn.far l.rest l.names

abbrev pub decreases-loop-line : goal.decreases-loop-line
decreases-loop-line l = length l.rest
