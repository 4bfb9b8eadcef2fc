use Rattle.std.proofs.Common.{◌≡◌, ◌∙◌, [], ◌++◌, List, ℕ, drop, refl, ap, subst, arith}
use Rattle.std.specs.Io.KnownBytes.{Appends}
use Rattle.std.proofs.lemmas.Bool.{true≢false}
use Rattle.std.proofs.lemmas.Result.{err_from_is_err_and}
use Rattle.frame_view.specs.Faults.{IsFaultOfNext}
use Rattle.frame_view.specs.ViewRanges.{IsLinesOf, HasWrittenViews}
use Rattle.frame_view.proofs.KnownBytes.{appends-nothing, appends-more}
use Rattle.frame_view.proofs.Viewing.{WalkLaw, on_fault, shows_nothing, shows_more}
use Rattle.frame_view.proofs.views.view_stream.Goals as goal

pub loop-place-init : goal.loop-place-init
loop-place-init g c =
    let law : WalkLaw = record { none = c.frames_are_consecutive.ensures.none; one = c.frames_are_consecutive.ensures.one; more = c.frames_are_consecutive.ensures.more; all = c.frames_are_consecutive.ensures.all } in (
      record {
        text = [];
        shows = shows_nothing law c.args.table.now c.args.stream.now 0;
        written = appends-nothing (g.K.Sink.written c.args.out.now);
      },
      refl,
    )

pub returns-in_err-place-clause-cut : goal.returns-in_err-place-clause-cut
returns-in_err-place-clause-cut g c =
    let law : WalkLaw = record { none = c.frames_are_consecutive.ensures.none; one = c.frames_are_consecutive.ensures.one; more = c.frames_are_consecutive.ensures.more; all = c.frames_are_consecutive.ensures.all } in
    let T = c.args.table.now in
    let stream = c.args.stream.now in
    let before = c.loop-place.invariant.0 in
    let lines = c.append_views-told.new.lines in
    let cut : (place : ℕ) (word : List ℕ) → (to : ℕ) × (text : List ℕ) × (lines ≡ c.new-lines.result ++ text)
    × IsLinesOf T stream c.loop-place.place to text × IsFaultOfNext T to (drop to stream) place word
    → (to : ℕ) × HasWrittenViews T stream to (g.K.Sink.written c.args.out.now) (g.K.Sink.written c.write_all.new.out) × IsFaultOfNext T to (drop to stream) place word =
    λ place word h.
    let written : c.as_slice.result.now ≡ h.1 = c.as_slice.ensures ∙ h.2 ∙ ap (λ (bs : List ℕ). bs ++ h.1) c.new-lines.ensures in (
      h.0,
      record {
        text = before.text ++ h.1;
        shows = shows_more law _ _ _ _ _ _ _ before.shows h.3;
        written = appends-more _ _ _ _ _ before.written
            (subst (Appends (g.K.Sink.written c.loop-place.out) (g.K.Sink.written c.write_all.new.out)) written
            (c.if-not-write_all.ensures.done refl));
      },
      h.4,
    ) in
    let same = err_from_is_err_and c.from_residual.result c.from_residual.ensures.1 in
    rw (same.1, same.2) (on_fault _ _ _ cut c.in_err-place.ensures.fault)

pub loop-place-preserved : goal.loop-place-preserved
loop-place-preserved g c =
    let law : WalkLaw = record { none = c.frames_are_consecutive.ensures.none; one = c.frames_are_consecutive.ensures.one; more = c.frames_are_consecutive.ensures.more; all = c.frames_are_consecutive.ensures.all } in
    let before = c.loop-place.invariant in
    let told = c.in_ok-place.ensures.shown in
    let written : c.as_slice.result.now ≡ told.0 = c.as_slice.ensures ∙ told.1 ∙ ap (λ (bs : List ℕ). bs ++ told.0) c.new-lines.ensures in
    let same : g.K.Sink.failures c.write_all.new.out ≡ g.K.Sink.failures c.loop-place.out = c.if-not-write_all.ensures.cause.stays true≢false in (
      record {
        text = before.0.text ++ told.0;
        shows = shows_more law _ _ _ _ _ _ _ before.0.shows told.2;
        written = appends-more _ _ _ _ _ before.0.written
            (subst (Appends (g.K.Sink.written c.loop-place.out) (g.K.Sink.written c.write_all.new.out)) written
            (c.if-not-write_all.ensures.done refl));
      },
      same ∙ before.1,
    )

pub returns-clause-done : goal.returns-clause-done
returns-clause-done g c = (c.loop-place.place, omega arith, c.loop-place.invariant.0)
