-- The start of a stream in two parts.
use Rattle.std.proofs.Common.{true, false, ◌≡◌, ℕ, ◌+◌, ◌-◌, ◌<◌, ◌≤◌, List, ◌++◌, length, take, drop, slice_index}
use Rattle.std.proofs.Common.{get_or, Some, None, inl, inr, refl, sym, ap, subst, ◌∙◌, arith, length-append}
use Rattle.std.proofs.lemmas.Bool.{cases_lt}
use Rattle.std.proofs.lemmas.List.{length-take, length-drop, get_or-take, drop-take, drop_all, get_or-append_right}
use Rattle.std.proofs.Math.ListN.{get_or-append}
use Rattle.byteorder.specs.Endian.{big_number}
use Rattle.byteorder.specs.Numbers.{big_from-take}
use Rattle.frame_transport.specs.Frames.{IsFrame, bytes_of_frame, IsPartial, length_field, IsFaultAt, HasHeaderFault}
use Rattle.frame_transport.specs.Frames.{HasNoFrame}
use Rattle.frame_transport.specs.Parts.{IsHeaderOf, IsClear, IsFrameOfParts}
use Rattle.frame_transport.specs.declared.format.Frame.{Frame}
use Rattle.frame_transport.specs.declared.header.FrameHeader.{FrameHeader}
use Rattle.frame_transport.specs.declared.fault.FeedFault.{FeedFault}
use Rattle.frame_transport.proofs.HeaderBytes.{AreBytes}
use Rattle.frame_transport.proofs.FaultFacts.{has-of_take, fault-append, no_fault, length_in-append, length_in-take}
use Rattle.frame_transport.proofs.Joints.{drop-parts}
use Rattle.frame_transport.proofs.Splitting.{partial_of_short, partial_of_fault, frame_at, frame_at_front}

-- a fault in the first 16 bytes
pub front_fault : (place : ℕ) (bs : List ℕ) (fault : FeedFault) → IsFaultAt place (take 16 bs) fault → HasNoFrame place bs (Some fault)
front_fault place bs fault h =
    let whole : IsFaultAt place bs fault = has-of_take place 16 bs (Some fault) (omega arith) h in
    record { partial = partial_of_fault place bs fault whole; first = whole }

-- fewer than 16 bytes
pub front_short : (place : ℕ) (bs : List ℕ) → HasHeaderFault place (take 16 bs) None → length (take 16 bs) < 16 → HasNoFrame place bs None
front_short place bs h short =
    let len : length bs < 16 = omega (arith, length-take {A = ℕ}) in
    record { partial = partial_of_short bs (omega arith); first = has-of_take place 16 bs None (omega arith) h }

-- a partial frame is shorter than the whole
pub begun_short : (place : ℕ) (begun piece : List ℕ) → AreBytes begun → IsPartial begun → HasHeaderFault place (take 16 (begun ++ piece)) None
    → length begun < 16 + length_field (take 16 (begun ++ piece))
begun_short place begun piece b partial h = elim (cases_lt (length begun) 16) [
  | inl less ↦ omega arith
  | inr more ↦
      let whole : HasHeaderFault place (begun ++ piece) None = has-of_take place 16 (begun ++ piece) None (omega arith) h in
      let size : length_field (take 16 (begun ++ piece)) ≡ length_field begun =
      length_in-take 16 (begun ++ piece) (omega arith) ∙ length_in-append begun piece (omega arith) in
      elim (cases_lt (length begun) (16 + length_field begun)) [
        | inl short ↦ omega arith
        | inr enough ↦
            let front = frame_at_front place begun b (λ fault is. whole fault (fault-append place begun piece fault is)) enough in
            absurd (partial (frame_at place begun) (drop (16 + length_field begun) begun) front.0 front.1)
      ]
]

-- what isn't in the first part of a frame is in the second
behind_parts : (n : ℕ) (begun piece : List ℕ) → length begun ≤ n → drop n (begun ++ piece) ≡ drop (n - length begun) piece
behind_parts n begun piece h =
    drop-parts n begun piece ∙ ap (λ (bs : List ℕ). bs ++ drop (n - length begun) piece) (drop_all n begun h)

AreBytes-append : (xs ys : List ℕ) → AreBytes xs → AreBytes ys → AreBytes (xs ++ ys)
AreBytes-append xs ys a b i = elim (cases_lt i (length xs)) [
  | inl first ↦ let e : get_or (xs ++ ys) i 0 ≡ get_or xs i 0 = get_or-append xs ys 0 i first in omega (arith, e, a i)
  | inr second ↦ let e : get_or (xs ++ ys) i 0 ≡ get_or ys (i - length xs) 0 = get_or-append_right xs ys (length xs) i 0 refl second in omega (arith, e, b (i - length xs))
]

-- a whole frame, read from its header and with its payload
pub front_whole : (place : ℕ) (begun piece : List ℕ) (h : FrameHeader) (payload : List ℕ) → AreBytes begun → AreBytes piece → IsClear place begun piece h
    → 16 + h.length ≤ length begun + length piece → payload ≡ take h.length (drop 16 (begun ++ piece))
    → IsFrameOfParts place begun piece (record { kind = h.kind; version = h.version; method = h.method; conn = h.conn; number = h.number; payload = payload; place = place })
front_whole place begun piece h payload b b' is within payloadis =
    let long = is.long in
    let header = is.header in
    let bs : List ℕ = begun ++ piece in
    let enough : 16 ≤ length bs = omega (arith, length-take {A = ℕ}) in
    let clean : HasHeaderFault place bs None = has-of_take place 16 bs None (omega arith) is.clean in
    let size : h.length ≡ length_field bs = header.size ∙ length_in-take 16 bs (omega arith) in
    let kind : h.kind ≡ slice_index bs 4 = header.kind ∙ get_or-take 16 bs 4 0 (omega arith) in
    let version : h.version ≡ slice_index bs 5 = header.version ∙ get_or-take 16 bs 5 0 (omega arith) in
    let method : h.method ≡ big_number 2 (drop 6 bs) = header.method ∙ ap (big_number 2) (drop-take 6 10 bs) ∙ big_from-take 0 2 10 (drop 6 bs) (omega arith) in
    let conn : h.conn ≡ big_number 4 (drop 8 bs) = header.conn ∙ ap (big_number 4) (drop-take 8 8 bs) ∙ big_from-take 0 4 8 (drop 8 bs) (omega arith) in
    let number : h.number ≡ big_number 4 (drop 12 bs) = header.number ∙ ap (big_number 4) (drop-take 12 4 bs) ∙ big_from-take 0 4 4 (drop 12 bs) (omega arith) in
    let read : payload ≡ take (length_field bs) (drop 16 bs) = payloadis ∙ ap (λ (n : ℕ). take n (drop 16 bs)) size in
    let total : length bs ≡ length begun + length piece = length-append begun piece in
    let count : length payload ≡ length_field bs = ap length read ∙ omega (arith, length-take {A = ℕ}, length-drop {A = ℕ}) in
    let front = frame_at_front place bs (AreBytes-append begun piece b b') clean (omega arith) in
    let f : Frame = record { kind = h.kind; version = h.version; method = h.method; conn = h.conn; number = h.number; payload = payload; place = place } in
    let same : f ≡ frame_at place bs = λ i. record { kind = kind i; version = version i; method = method i; conn = conn i; number = number i; payload = read i; place = place } in
    let short = is.longer in
    let more : drop (16 + length_field bs) bs ≡ drop (16 + length payload - length begun) piece =
    behind_parts (16 + length_field bs) begun piece (omega arith) ∙ ap (λ (n : ℕ). drop (16 + n - length begun) piece) (sym count) in
    record {
      frame = subst IsFrame (sym same) front.0;
      stands = refl;
      longer = omega arith;
      within = omega arith;
      bytes = front.1 ∙ (λ i. bytes_of_frame (sym same i) ++ more i);
    }

pub not_less : (n m : ℕ) → (n < m → true ≡ false) → m ≤ n
not_less n m h = elim (cases_lt n m) [ inl less ↦ let e : true ≡ false = h less in absurd cc | inr more ↦ more ]

-- a whole header without a fault
pub clear : (place : ℕ) (begun piece seen : List ℕ) (h : FrameHeader) → AreBytes begun → IsPartial begun → seen ≡ take 16 (begun ++ piece)
    → HasHeaderFault place seen None → 16 ≤ length seen → IsHeaderOf seen h → IsClear place begun piece h
clear place begun piece seen h b partial e none long header =
    let clean : HasHeaderFault place (take 16 (begun ++ piece)) None = subst (λ (bs : List ℕ). HasHeaderFault place bs None) e none in
    let facts = no_fault place seen (omega arith) none in
    let short = begun_short place begun piece b partial clean in
    let same : length_field seen ≡ length_field (take 16 (begun ++ piece)) = ap length_field e in
    record {
      clean = clean;
      long = subst (λ (bs : List ℕ). 16 ≤ length bs) e long;
      header = subst (λ (bs : List ℕ). IsHeaderOf bs h) e header;
      small = omega (arith, header.size, facts.0);
      longer = omega (arith, header.size);
    }

-- fewer bytes than the frame has
pub front_partial : (place : ℕ) (begun piece : List ℕ) (h : FrameHeader) → IsClear place begun piece h → length piece < 16 + h.length - length begun
    → HasNoFrame place (begun ++ piece) None
front_partial place begun piece h is short =
    let size : h.length ≡ length_field (begun ++ piece) = is.header.size ∙ length_in-take 16 (begun ++ piece) (omega arith) in
    let total : length (begun ++ piece) ≡ length begun + length piece = length-append begun piece in
    record { partial = partial_of_short (begun ++ piece) (omega (arith, is.longer)); first = has-of_take place 16 (begun ++ piece) None (omega arith) is.clean }
