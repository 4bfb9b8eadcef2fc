use Rattle.schema_symbols.proofs.LastPlaces.{last_next}
use Rattle.schema_symbols.proofs.parts.last_places.Goals as goal

pub loop-i-preserved : goal.loop-i-preserved
loop-i-preserved c =
    last_next c.args.parts.now c.loop-i.i _ c.loop-i.places c.put_last.new.places c.loop-i-test.true c.loop-i.invariant c.in_ok-put_last.ensures
