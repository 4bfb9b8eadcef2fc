-- What is at the start of the bytes of a stream.
use Rattle.std.proofs.Common.{◌≡◌, ℕ, ◌+◌, ◌<◌, ◌≤◌, List, ◌++◌, length, take, drop, Some, None, refl, sym, ap, subst, ◌∙◌, arith}
use Rattle.std.proofs.lemmas.List.{length-take, length-drop}
use Rattle.frame_transport.specs.Frames.{IsFrame, bytes_of_frame, length_field, IsFaultAt, HasHeaderFault}
use Rattle.frame_transport.specs.Frames.{HasNoFrame}
use Rattle.frame_transport.specs.Parts.{IsHeaderOf}
use Rattle.frame_transport.specs.FramesInPlace.{IsFrameAt}
use Rattle.frame_transport.specs.declared.format.Frame.{Frame}
use Rattle.frame_transport.specs.declared.header.FrameHeader.{FrameHeader}
use Rattle.frame_transport.specs.declared.fault.FeedFault.{FeedFault}
use Rattle.frame_transport.proofs.HeaderBytes.{AreBytes}
use Rattle.frame_transport.proofs.Splitting.{partial_of_short, partial_of_fault, frame_at, frame_at_front}

pub none_at_fault : (place : ℕ) (bs : List ℕ) (fault : FeedFault) → IsFaultAt place bs fault → HasNoFrame place bs (Some fault)
none_at_fault place bs fault h = record { partial = partial_of_fault place bs fault h; first = h }

-- less than a header
pub none_in_header : (place : ℕ) (bs : List ℕ) → HasHeaderFault place bs None → length bs < 16 → HasNoFrame place bs None
none_in_header place bs clean short = record { partial = partial_of_short bs (omega arith); first = clean }

-- less than the payload that the header requires
pub none_in_payload : (place : ℕ) (bs : List ℕ) (h : FrameHeader) → HasHeaderFault place bs None → IsHeaderOf bs h → length bs < 16 + h.length
    → HasNoFrame place bs None
none_in_payload place bs h clean header short = record { partial = partial_of_short bs (omega (arith, header.size)); first = clean }

-- a whole frame, read from its header and with its payload
pub stands : (place : ℕ) (bs : List ℕ) (h : FrameHeader) (payload : List ℕ) → AreBytes bs → HasHeaderFault place bs None → IsHeaderOf bs h
    → 16 + h.length ≤ length bs → payload ≡ take h.length (drop 16 bs)
    → IsFrameAt place bs (record { kind = h.kind; version = h.version; method = h.method; conn = h.conn; number = h.number; payload = payload; place = place })
stands place bs h payload b clean header enough payload_is =
    let size = header.size in
    let kind = header.kind in
    let version = header.version in
    let method = header.method in
    let conn = header.conn in
    let number = header.number in
    let read : payload ≡ take (length_field bs) (drop 16 bs) = payload_is ∙ ap (λ (n : ℕ). take n (drop 16 bs)) size in
    let count : length payload ≡ length_field bs = ap length read ∙ omega (arith, length-take {A = ℕ}, length-drop {A = ℕ}) in
    let front = frame_at_front place bs b clean (omega arith) in
    let f : Frame = record { kind = h.kind; version = h.version; method = h.method; conn = h.conn; number = h.number; payload = payload; place = place } in
    let same : f ≡ frame_at place bs = λ i. record { kind = kind i; version = version i; method = method i; conn = conn i; number = number i; payload = read i; place = place } in
    record {
      frame = subst IsFrame (sym same) front.0;
      stands = refl;
      whole = front.1 ∙ (λ i. bytes_of_frame (sym same i) ++ drop (16 + sym count i) bs);
    }
