use Rattle.std.proofs.Common.{◌≡◌, ◌∙◌, [], ◌++◌, List, ℕ, drop, sym, ap, append_assoc, append-nil, arith}
use Rattle.std.proofs.lemmas.Result.{err_from_is_err_and}
use Rattle.frame_view.specs.Faults.{IsFaultOfNext}
use Rattle.frame_view.specs.ViewRanges.{IsLinesOf}
use Rattle.frame_view.proofs.Viewing.{WalkLaw, on_fault, shows_nothing, shows_more}
use Rattle.frame_view.proofs.views.append_views.Goals as goal

pub frames-init : goal.frames-init
frames-init c =
    let law : WalkLaw = record { none = c.frames_are_consecutive.ensures.none; one = c.frames_are_consecutive.ensures.one; more = c.frames_are_consecutive.ensures.more; all = c.frames_are_consecutive.ensures.all } in
    record {
      text = [];
      appended = sym (append-nil c.args.lines.now);
      shows = shows_nothing law c.args.table.now c.args.stream.now c.args.from;
      further = omega arith;
      some = c.requires.some;
    }

pub returns-in_err-place-clause-fault : goal.returns-in_err-place-clause-fault
returns-in_err-place-clause-fault c =
    let T = c.args.table.now in
    let stream = c.args.stream.now in
    let from = c.args.from in
    let mid = c.frames.place in
    let before = c.frames.invariant in
    let lines = c.append_next_view.new.lines in
    let cut : (place : ℕ) (word : List ℕ) → (lines ≡ c.frames.lines) × IsFaultOfNext T mid (drop mid stream) place word
    → (to : ℕ) × (text : List ℕ) × (lines ≡ c.args.lines.now ++ text) × IsLinesOf T stream from to text × IsFaultOfNext T to (drop to stream) place word =
    λ place word h. (mid, before.text, h.0 ∙ before.appended, before.shows, h.1) in
    let same = err_from_is_err_and c.from_residual.result c.from_residual.ensures.1 in
    rw (same.1, same.2) (on_fault _ _ _ cut c.in_err-place.ensures.fault)

pub returns-then-place-stream-clause-shown : goal.returns-then-place-stream-clause-shown
returns-then-place-stream-clause-shown c =
    let law : WalkLaw = record { none = c.frames_are_consecutive.ensures.none; one = c.frames_are_consecutive.ensures.one; more = c.frames_are_consecutive.ensures.more; all = c.frames_are_consecutive.ensures.all } in
    let before = c.frames.invariant in
    let told = c.in_ok-place.ensures.shown in (
      before.text ++ told.0,
      told.1 ∙ ap (λ (bs : List ℕ). bs ++ told.0) before.appended ∙ append_assoc c.args.lines.now before.text told.0,
      shows_more law _ _ _ _ _ _ _ before.shows told.2,
    )

pub frames-preserved : goal.frames-preserved
frames-preserved c =
    let law : WalkLaw = record { none = c.frames_are_consecutive.ensures.none; one = c.frames_are_consecutive.ensures.one; more = c.frames_are_consecutive.ensures.more; all = c.frames_are_consecutive.ensures.all } in
    let before = c.frames.invariant in
    let told = c.in_ok-place.ensures.shown in record {
      text = before.text ++ told.0;
      appended = told.1 ∙ ap (λ (bs : List ℕ). bs ++ told.0) before.appended ∙ append_assoc c.args.lines.now before.text told.0;
      shows = shows_more law _ _ _ _ _ _ _ before.shows told.2;
      further = omega arith;
      some = omega arith;
    }
