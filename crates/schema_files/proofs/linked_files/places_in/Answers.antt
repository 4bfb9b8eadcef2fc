use Rattle.std.proofs.Common.{◌≤◌, ◌<◌, length, get_or, arith, refl}
use Rattle.std.proofs.lemmas.Option.{slice_get-get_or}
use Rattle.schema_files.proofs.Placed.{put_none, put_more, put_all}
use Rattle.schema_files.proofs.linked_files.places_in.Goals as goal

pub loop-place-init : goal.loop-place-init
loop-place-init c = put_none _ _ _ c.in_ok-places.ensures

pub loop-place-preserved : goal.loop-place-preserved
loop-place-preserved c =
    let order = c.args.order.now in
    let n = c.loop-place.place in
    let l : n < length order = omega arith in
    put_more order c.args.count n (get_or order n 0) _ _ c.requires.distinct (c.requires.within n 0 l)
    (slice_get-get_or order n 0 l) refl c.loop-place.invariant

pub returns : goal.returns
returns c =
    let l : length c.args.order.now ≤ c.loop-place.place = omega arith in
    put_all _ _ _ _ l c.loop-place.invariant
