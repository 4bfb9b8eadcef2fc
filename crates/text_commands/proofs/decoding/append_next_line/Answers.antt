use Rattle.std.proofs.Common.{◌≡◌, [], List, ℕ, Some, None, length, drop, refl, subst, arith}
use Rattle.std.specs.List.{between}
use Rattle.std.proofs.lemmas.Result.{err_from_is_err_and}
use Rattle.std.proofs.lemmas.Slice.{between_to_end}
use Rattle.frame_transport.specs.Frames.{HasNoFrame}
use Rattle.frame_transport.specs.FramesInPlace.{IsFrameAt, owned_frame}
use Rattle.frame_transport.specs.declared.format.Frame.{Frame}
use Rattle.text_commands.specs.Decoding.{IsCutAt, IsFaultOfFrame, IsFaultOfHeader}
use Rattle.text_commands.proofs.Decodings.{on_fault, tells_one, cut_in_frame, cut_in_header, cut_short, some_left}
use Rattle.text_commands.proofs.decoding.append_next_line.Goals as goal

-- a frame in the remainder of a stream is in the stream, after the prefix
frame_behind : (stream : List ℕ) (from : ℕ) (f : Frame) → IsFrameAt from (between from (length stream) stream) f → IsFrameAt from (drop from stream) f
frame_behind stream from f h = subst (λ (bs : List ℕ). IsFrameAt from bs f) (between_to_end stream from (length stream) (omega arith)) h

pub append_frame_line-requires-clause-frame : goal.append_frame_line-requires-clause-frame
append_frame_line-requires-clause-frame c =
    let stands = rw c.in-Ok-Some.field-0-is at c.in-Ok-Some.ensures.frame in
    stands.frame

pub append_frame_line-requires-clause-near : goal.append_frame_line-requires-clause-near
append_frame_line-requires-clause-near c =
    let stands = rw c.in-Ok-Some.field-0-is at c.in-Ok-Some.ensures.frame in
    omega (arith, stands.stands)

pub returns-in_err-append_frame_line-in-Ok-Some-clause-cut : goal.returns-in_err-append_frame_line-in-Ok-Some-clause-cut
returns-in_err-append_frame_line-in-Ok-Some-clause-cut c =
    let T = c.args.table.now in
    let from = c.args.from in
    let rest = drop from c.args.stream.now in
    let f = owned_frame c.in-Ok-Some.frame in
    let lines = c.append_frame_line.new.lines in
    let stands = frame_behind c.args.stream.now from f (rw c.in-Ok-Some.field-0-is at c.in-Ok-Some.ensures.frame) in
    let cut : (place : ℕ) (word : List ℕ) → IsFaultOfFrame T f place word × (lines ≡ c.args.lines.now) → (lines ≡ c.args.lines.now) × IsCutAt T from rest [] place word =
    λ place word h. (h.1, cut_in_frame T from rest f place word stands h.0) in
    let same = err_from_is_err_and c.from_residual.result c.from_residual.ensures.1 in
    rw (same.1, same.2) (on_fault _ _ cut _ c.in_err-append_frame_line-in-Ok-Some.ensures.cut)

pub returns-in_ok-append_frame_line-in-Ok-Some-clause-told : goal.returns-in_ok-append_frame_line-in-Ok-Some-clause-told
returns-in_ok-append_frame_line-in-Ok-Some-clause-told c =
    let f = owned_frame c.in-Ok-Some.frame in
    let stands = frame_behind c.args.stream.now c.args.from f (rw c.in-Ok-Some.field-0-is at c.in-Ok-Some.ensures.frame) in
    let told = c.in_ok-append_frame_line-in-Ok-Some.ensures.told in
    (told.0, told.2, tells_one c.frame_law.ensures c.args.table.now c.args.stream.now c.args.from _ told.0 f stands told.1 (omega arith))

pub returns-in-Ok-None-clause-cut : goal.returns-in-Ok-None-clause-cut
returns-in-Ok-None-clause-cut c =
    let stream = c.args.stream.now in
    let from = c.args.from in
    let none : HasNoFrame from (drop from stream) None =
    subst (λ (bs : List ℕ). HasNoFrame from bs None) (between_to_end stream from (length stream) (omega arith)) (rw c.in-Ok-None.field-0-is at c.in-Ok-None.ensures.partial) in
    (refl, cut_short c.args.table.now from (drop from stream) from _ none (some_left from stream c.requires.some) refl refl)

pub returns-in-Err-clause-cut : goal.returns-in-Err-clause-cut
returns-in-Err-clause-cut c =
    let T = c.args.table.now in
    let stream = c.args.stream.now in
    let from = c.args.from in
    let fault = c.in-Err.fault in
    let none : HasNoFrame from (drop from stream) (Some fault) =
    subst (λ (bs : List ℕ). HasNoFrame from bs (Some fault)) (between_to_end stream from (length stream) (omega arith)) c.in-Err.ensures.fault in
    let cut : (place : ℕ) (word : List ℕ) → IsFaultOfHeader fault place word → (c.args.lines.now ≡ c.args.lines.now) × IsCutAt T from (drop from stream) [] place word =
    λ place word h. (refl, cut_in_header T from (drop from stream) fault place word none h) in
    on_fault _ _ cut _ c.header_error.ensures.fault
