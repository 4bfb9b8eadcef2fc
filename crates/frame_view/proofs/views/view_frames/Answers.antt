use Rattle.std.proofs.Common.{ℕ, List, drop}
use Rattle.frame_view.specs.Faults.{IsFaultOfNext}
use Rattle.frame_view.specs.Input.{IsInputTextFault}
use Rattle.frame_view.specs.ViewRanges.{HasWrittenViews}
use Rattle.frame_view.specs.Written.{HasViewedToFault, in_text, in_stream}
use Rattle.frame_view.proofs.KnownBytes.{appends-nothing}
use Rattle.frame_view.proofs.Viewing.{on_fault, if_stop}
use Rattle.frame_view.proofs.views.view_frames.Goals as goal

pub returns-in-Ok-clause-cut : goal.returns-in-Ok-clause-cut
returns-in-Ok-clause-cut g c =
    let T = c.in-Ok.table in
    let stream = c.in-Ok.stream.now in
    let old = g.K.Sink.written c.args.out.now in
    let new = g.K.Sink.written c.view_stream.new.out in
    let cut : (place : ℕ) (word : List ℕ)
    → (to : ℕ) × HasWrittenViews T stream to old new × IsFaultOfNext T to (drop to stream) place word
    → HasViewedToFault c.args.text.now old new place word =
    λ place word h. in_stream T stream h.1.text h.0 h.1.shows.frames c.in-Ok.ensures.read h.1.shows.stands h.1.shows.views h.2 h.1.written in
    if_stop _ _ _ cut c.view_stream.ensures.cut

pub returns-in-Err-clause-cut : goal.returns-in-Err-clause-cut
returns-in-Err-clause-cut g c =
    let out = g.K.Sink.written c.args.out.now in
    let cut : (place : ℕ) (word : List ℕ) → IsInputTextFault c.args.text.now place word → HasViewedToFault c.args.text.now out out place word =
    λ place word is. in_text is (appends-nothing out) in
    on_fault _ _ _ cut c.in-Err.ensures.fault
