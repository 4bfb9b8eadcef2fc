use Rattle.std.proofs.Common.{◌≡◌, ℕ, List, refl, drop, arith}
use Rattle.std.proofs.lemmas.Result.{err_from_is_err_and}
use Rattle.frame_transport.specs.FramesInPlace.{owned_frame}
use Rattle.frame_view.specs.Faults.{IsFaultOfNext, IsFaultOfFrame, IsFramingFault, of_framing, of_frame}
use Rattle.frame_view.proofs.Viewing.{WalkLaw, on_fault, shows_one}
use Rattle.frame_view.proofs.views.append_next_view.Goals as goal

pub returns-in_err-frame-clause-fault : goal.returns-in_err-frame-clause-fault
returns-in_err-frame-clause-fault c =
    let rest = drop c.args.from c.args.stream.now in
    let here : (place : ℕ) (word : List ℕ) → IsFramingFault c.args.from rest place word
    → (c.args.lines.now ≡ c.args.lines.now) × IsFaultOfNext c.args.table.now c.args.from rest place word =
    λ place word is. (refl, of_framing is) in
    let same = err_from_is_err_and c.from_residual.result c.from_residual.ensures.1 in
    rw (same.1, same.2) (on_fault _ _ _ here c.in_err-frame.ensures.fault)

pub returns-in_err-content-clause-fault : goal.returns-in_err-content-clause-fault
returns-in_err-content-clause-fault c =
    let rest = drop c.args.from c.args.stream.now in
    let f = owned_frame c.in_ok-frame.frame in
    let here : (place : ℕ) (word : List ℕ) → IsFaultOfFrame c.args.table.now f place word
    → (c.args.lines.now ≡ c.args.lines.now) × IsFaultOfNext c.args.table.now c.args.from rest place word =
    λ place word is. (refl, of_frame f c.in_ok-frame.ensures.frame is) in
    let same = err_from_is_err_and c.from_residual-in_err-content.result c.from_residual-in_err-content.ensures.1 in
    rw (same.1, same.2) (on_fault _ _ _ here c.in_err-content.ensures.fault)

pub returns-clause-shown : goal.returns-clause-shown
returns-clause-shown c =
    let law : WalkLaw = record { none = c.frames_are_consecutive.ensures.none; one = c.frames_are_consecutive.ensures.one; more = c.frames_are_consecutive.ensures.more; all = c.frames_are_consecutive.ensures.all } in
    let shown = c.in_ok-append_view.ensures in (
      shown.0,
      shown.2,
      shows_one law c.args.table.now c.args.stream.now c.args.from _ shown.0 (owned_frame c.in_ok-frame.frame) c.in_ok-frame.ensures.frame shown.1 (omega arith),
    )
