use Rattle.std.proofs.Common.{ℕ, ◌+◌, ◌<◌, List, length, drop, ap, arith, length-append}
use Rattle.std.proofs.lemmas.Result.{err_from_is_err_and}
use Rattle.frame_transport.specs.FramesInPlace.{owned_frame}
use Rattle.frame_view.specs.Faults.{IsFaultOfFrame, IsFramingFault, of_framing, of_frame}
use Rattle.script_view.specs.Unplayable.{IsUnplayable}
use Rattle.script_view.specs.ReplayRanges.{IsStopOfNext, at_fault, unplayable, call_counts_of}
use Rattle.script_view.specs.declared.limits.TheConstants.{MAX_BODY}
use Rattle.script_view.proofs.Making.{WalkLaw, on_fault, plays_one, large}
use Rattle.script_view.proofs.playing.put_frame.Goals as goal

pub returns-in_err-frame-clause-fault : goal.returns-in_err-frame-clause-fault
returns-in_err-frame-clause-fault c =
    let stops : (place : ℕ) (word : List ℕ) → IsFramingFault c.args.from (drop c.args.from c.args.stream.now) place word
    → IsStopOfNext c.args.table.now c.args.stream.now c.args.from (call_counts_of c.args.calls.now) (length c.args.body.now) place word =
    λ place word is. at_fault (of_framing is) in
    let same = err_from_is_err_and c.from_residual.result c.from_residual.ensures.1 in
    rw (same.1, same.2) (on_fault _ _ _ stops c.in_err-frame.ensures.fault)

pub returns-in_err-content-clause-fault : goal.returns-in_err-content-clause-fault
returns-in_err-content-clause-fault c =
    let f = owned_frame c.in_ok-frame.frame in
    let stops : (place : ℕ) (word : List ℕ) → IsFaultOfFrame c.args.table.now f place word
    → IsStopOfNext c.args.table.now c.args.stream.now c.args.from (call_counts_of c.args.calls.now) (length c.args.body.now) place word =
    λ place word is. at_fault (of_frame f c.in_ok-frame.ensures.frame is) in
    let same = err_from_is_err_and c.from_residual-in_err-content.result c.from_residual-in_err-content.ensures.1 in
    rw (same.1, same.2) (on_fault _ _ _ stops c.in_err-content.ensures.fault)

pub returns-in_err-put_content-clause-fault : goal.returns-in_err-put_content-clause-fault
returns-in_err-put_content-clause-fault c =
    let f = owned_frame c.in_ok-frame.frame in
    let stops : (place : ℕ) (word : List ℕ) → ((size : ℕ) → IsUnplayable c.args.table.now (call_counts_of c.args.calls.now) size f place word)
    → IsStopOfNext c.args.table.now c.args.stream.now c.args.from (call_counts_of c.args.calls.now) (length c.args.body.now) place word =
    λ place word is. unplayable f c.in_ok-frame.ensures.frame (is (length c.args.body.now)) in
    let same = err_from_is_err_and c.from_residual-in_err-put_content.result c.from_residual-in_err-put_content.ensures.1 in
    rw (same.1, same.2) (on_fault _ _ _ stops c.in_err-put_content.ensures.fault)

pub returns-clause-made : goal.returns-clause-made
returns-clause-made c =
    let law : WalkLaw = record { none = c.frames_are_consecutive.ensures.none; one = c.frames_are_consecutive.ensures.one; more = c.frames_are_consecutive.ensures.more; all = c.frames_are_consecutive.ensures.all } in
    let made = c.in_ok-put_content.ensures.made in (
      made.0,
      made.1,
      plays_one law c.args.table.now c.args.stream.now c.args.from _ (owned_frame c.in_ok-frame.frame)
          (call_counts_of c.args.calls.now) (call_counts_of c.put_content.new.calls) made.0 c.in_ok-frame.ensures.frame made.2
          (omega arith),
    )

pub returns-then-len-gt-MAX_BODY-clause-fault : goal.returns-then-len-gt-MAX_BODY-clause-fault
returns-then-len-gt-MAX_BODY-clause-fault c =
    let T = c.args.table.now in
    let before = call_counts_of c.args.calls.now in
    let f = owned_frame c.in_ok-frame.frame in
    let size = length c.args.body.now in
    let made = c.in_ok-put_content.ensures.made in
    let text = made.0 in
    let big : MAX_BODY < size + length text = omega (arith, c.len.ensures, c.if-len-gt-MAX_BODY.true, ap length made.1, length-append c.args.body.now text) in
    on_fault _ (IsStopOfNext T c.args.stream.now c.args.from before size) _
    (λ place word is. unplayable f c.in_ok-frame.ensures.frame
    (large T before (call_counts_of c.put_content.new.calls) size f text place word made.2 big (let at = is.0 in
    omega arith) is.1)) c.unplayable.ensures
