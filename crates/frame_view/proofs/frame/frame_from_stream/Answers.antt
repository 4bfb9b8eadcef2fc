use Rattle.std.proofs.Common.{◌≢◌, ◌<◌, [], List, ℕ, Some, None, length, drop, ap, subst, arith}
use Rattle.std.specs.List.{between}
use Rattle.std.proofs.lemmas.List.{length-drop}
use Rattle.std.proofs.lemmas.Slice.{between_to_end}
use Rattle.frame_transport.specs.Frames.{IsFaultAt, long, no_kind, no_version}
use Rattle.frame_transport.specs.Frames.{HasNoFrame}
use Rattle.frame_transport.specs.FramesInPlace.{IsFrameAt, owned_frame}
use Rattle.frame_transport.specs.declared.fault.FeedFault.{FeedFault}
use Rattle.frame_transport.specs.declared.fault.FeedFault.TheVariants.{Memory as NoMemory}
use Rattle.frame_transport.specs.declared.format.Frame.{Frame}
use Rattle.frame_view.specs.Faults.{IsFaultOfHeader}
use Rattle.frame_view.specs.Faults.{IsFramingFault, in_header, too_short}
use Rattle.frame_view.specs.declared.fault.ReadFault.TheVariants.{Memory as NoRead}
use Rattle.frame_view.proofs.OnFaults.{on_fault}
use Rattle.frame_view.proofs.frame.frame_from_stream.Goals as goal

-- a frame in the remainder of a stream is in the stream, after the prefix
frame_behind : (stream : List ℕ) (from : ℕ) (f : Frame) → IsFrameAt from (between from (length stream) stream) f → IsFrameAt from (drop from stream) f
frame_behind stream from f h = subst (λ (bs : List ℕ). IsFrameAt from bs f) (between_to_end stream from (length stream) (omega arith)) h

-- the remainder has a byte
some_left : (from : ℕ) (stream : List ℕ) → from < length stream → drop from stream ≢ []
some_left from stream h none = omega (arith, h, length-drop from stream, ap length none)

pub returns-in-Ok-Some-clause-frame : goal.returns-in-Ok-Some-clause-frame
returns-in-Ok-Some-clause-frame c = frame_behind c.args.stream.now c.args.from (owned_frame c.in-Ok-Some.frame) (rw c.in-Ok-Some.field-0-is at c.in-Ok-Some.ensures.frame)

pub returns-in-Ok-None-clause-fault : goal.returns-in-Ok-None-clause-fault
returns-in-Ok-None-clause-fault c =
    let stream = c.args.stream.now in
    let from = c.args.from in
    let none : HasNoFrame from (drop from stream) None =
    subst (λ (bs : List ℕ). HasNoFrame from bs None) (between_to_end stream from (length stream) (omega arith)) (rw c.in-Ok-None.field-0-is at c.in-Ok-None.ensures.partial) in
    on_fault _ (IsFramingFault from (drop from stream)) _ (λ place word is. too_short none (some_left from stream c.requires.some) is.0 is.1) c.at.ensures.is

pub returns-in-Err-clause-fault : goal.returns-in-Err-clause-fault
returns-in-Err-clause-fault c =
    let stream = c.args.stream.now in
    let from = c.args.from in
    let fault = c.in-Err.fault in
    let none : HasNoFrame from (drop from stream) (Some fault) =
    subst (λ (bs : List ℕ). HasNoFrame from bs (Some fault)) (between_to_end stream from (length stream) (omega arith)) c.in-Err.ensures.fault in
    on_fault (IsFaultOfHeader fault) (IsFramingFault from (drop from stream)) _ (λ place word is. in_header fault none is) c.fault_of.ensures.is

-- the fault of a header is not `Memory`
fault_is_of_header : (place : ℕ) (bytes : List ℕ) (fault : FeedFault) → IsFaultAt place bytes fault → fault ≢ NoMemory
fault_is_of_header place bytes fault (long some much is) none = cc
fault_is_of_header place bytes fault (no_kind some short none is) memory = cc
fault_is_of_header place bytes fault (no_version some short kind none is) memory = cc

pub returns-in-Err-clause-not_memory : goal.returns-in-Err-clause-not_memory
returns-in-Err-clause-not_memory c =
    let of_header : c.in-Err.fault ≢ NoMemory = fault_is_of_header c.args.from _ c.in-Err.fault c.in-Err.ensures.fault.first in
    let kept : c.fault_of.result ≢ NoRead = c.fault_of.ensures.not_memory of_header in
    λ is. kept (cc)
