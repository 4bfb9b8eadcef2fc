use Rattle.std.proofs.Common.{Some, ap, ◌∙◌}
use Rattle.std.proofs.lemmas.Option.{slice_get-get_or}
use Rattle.proto_set.proofs.Seeing.{places_none, places_more, places_skip, places_those}
use Rattle.proto_set.proofs.seen.marked.Goals as goal
use Rattle.proto_set.proofs.seen.marked.Goals.{then-marks-i+in_ok-push, else-marks-i}

pub loop-i-init : goal.loop-i-init
loop-i-init c = places_none c.args.marks.now c.new-places.result c.new-places.ensures

pub loop-i-preserved : goal.loop-i-preserved
loop-i-preserved c =
    let marks = c.args.marks.now in
    let i = c.loop-i.i in
    elim c.if-marks-i.branch [
      | then-marks-i+in_ok-push w ↦
          places_more marks i c.loop-i.places c.if-marks-i.places
          (slice_get-get_or marks i _ c.loop-i-test.true ∙ ap Some w.if-marks-i.true)
          (w.places-is ∙ w.in_ok-push.ensures.ok) c.loop-i.invariant
      | else-marks-i w ↦
          places_skip marks i c.loop-i.places c.if-marks-i.places
          (slice_get-get_or marks i _ c.loop-i-test.true ∙ ap Some w.if-marks-i.false) w.places-is c.loop-i.invariant
    ]

pub returns-clause-those : goal.returns-clause-those
returns-clause-those c = places_those c.args.marks.now c.loop-i.i c.loop-i.places c.loop-i-test.false c.loop-i.invariant

pub returns-clause-ascend : goal.returns-clause-ascend
returns-clause-ascend c = c.loop-i.invariant.ascend
