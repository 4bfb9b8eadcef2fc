-- All parts pass if those of the remainder do.
use Rattle.std.proofs.Common.{◌≡◌, ◌==◌, length}
use Rattle.std.specs.List.{list_all, slice_split}
use Rattle.mrpc_table.specs.Names.{is_short}
use Rattle.mrpc_table.proofs.words.has_short_parts.Given as goal

abbrev pub invariant-loop-part : goal.invariant-loop-part
invariant-loop-part l = list_all is_short (slice_split (λ c. c == 46) l.fn.word) ≡ list_all is_short (slice_split (λ c. c == 46) l.rest)

abbrev pub decreases-loop-part : goal.decreases-loop-part
decreases-loop-part l = length l.rest
