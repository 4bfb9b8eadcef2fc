use Rattle.std.proofs.Common.{◌≡◌, ◌<◌, length, get_or, arith}
use Rattle.std.proofs.lemmas.Option.{slice_get-get_or}
use Rattle.schema_files.proofs.Placed.{placed_none, placed_more, placed_all}
use Rattle.schema_files.proofs.linked_files.placed.Goals as goal

pub loop-i-init : goal.loop-i-init
loop-i-init c = placed_none _ _ _ c.in_ok-all.ensures

pub loop-i-preserved : goal.loop-i-preserved
loop-i-preserved c =
    let some = c.args.some.now in
    let places = c.args.places.now in
    let l : c.loop-i.i-index < length some = omega arith in
    let i = get_or some c.loop-i.i-index 0 in
    placed_more places some c.loop-i.i-index i (get_or places i 0) _ _ (slice_get-get_or some c.loop-i.i-index 0 l)
    (slice_get-get_or places i 0 (c.requires c.loop-i.i-index 0 l)) c.in_ok-push.ensures.ok c.loop-i.invariant

pub returns : goal.returns
returns c =
    let e : c.loop-i.i-index ≡ length c.args.some.now = omega arith in
    placed_all _ _ _ _ e c.loop-i.invariant
