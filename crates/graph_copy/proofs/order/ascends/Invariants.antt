use Rattle.std.proofs.Common.{drop}
use Rattle.graph_copy.proofs.Inserting.{RiseFrom}
use Rattle.graph_copy.proofs.order.ascends.Given as goal

-- the numbers rise if the remaining ones do
abbrev pub invariant-loop-field : goal.invariant-loop-field
invariant-loop-field l = RiseFrom l.least (drop l.field-index l.field-items) → RiseFrom 0 l.field-items
