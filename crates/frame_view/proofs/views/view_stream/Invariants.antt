use Rattle.std.proofs.Common.{◌≡◌, ◌-◌, length}
use Rattle.frame_view.specs.ViewRanges.{HasWrittenViews}
use Rattle.frame_view.proofs.views.view_stream.Given as goal

abbrev pub invariant-loop-place : goal.invariant-loop-place
invariant-loop-place g l =
    HasWrittenViews l.table l.stream l.place (g.K.Sink.written l.fn.out) (g.K.Sink.written l.out)
    × (g.K.Sink.failures l.out ≡ g.K.Sink.failures l.fn.out)

abbrev pub decreases-loop-place : goal.decreases-loop-place
decreases-loop-place g l = length l.stream - l.place
