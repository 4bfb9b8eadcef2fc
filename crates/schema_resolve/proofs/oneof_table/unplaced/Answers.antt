use Rattle.schema_resolve.proofs.OneofTables.{unplaced_none, unplaced_more}
use Rattle.schema_resolve.proofs.oneof_table.unplaced.Goals as goal

pub loop-init : goal.loop-init
loop-init c = unplaced_none _ c.in_ok-places.ensures.items

pub loop-preserved : goal.loop-preserved
loop-preserved c = unplaced_more _ _ _ c.in_ok-push.ensures.items c.loop.invariant
