use Rattle.std.proofs.Common.{sym, subst}
use Rattle.schema_resolve.specs.Placing.{IsPermutationOfIndices}
use Rattle.schema_resolve.proofs.Orders.{order_all}
use Rattle.schema_resolve.proofs.placed.PlacedNames.new.Goals as goal

pub places-requires-clause-all : goal.places-requires-clause-all
places-requires-clause-all c =
    subst IsPermutationOfIndices (sym c.as_slice-2.ensures.value) (order_all _ _ c.in_ok-order.ensures)
