-- A stream starts with a whole frame, a fault or a partial frame, and only one of them. So it splits in at most one
-- way.
use Rattle.std.proofs.Common.{◌≡◌, ℕ, ◌+◌, ◌<◌, ◌≤◌, ◌^◌, List, [], ◌∷◌, ◌++◌, length, take, drop, slice_index}
use Rattle.std.proofs.Common.{Option, Some, None, ◌⊎◌, inl, inr, zero, suc, refl, sym, ap, subst, ◌∙◌, arith}
use Rattle.std.proofs.Common.{length-append, append_assoc}
use Rattle.std.proofs.lemmas.Bool.{cases_lt}
use Rattle.std.proofs.lemmas.List.{take_at, drop_at, length-drop, length-take, take-append-drop, drop-drop}
use Rattle.std.proofs.lemmas.List.Elements.{All-append, All-nil, All-cons, All-head, All-tail}
use Rattle.std.proofs.lemmas.List.Concat.{flat_map-append}
use Rattle.std.specs.Prelude.{All}
use Rattle.byteorder.specs.Endian.{big_number}
use Rattle.byteorder.specs.Numbers.{big_from-lt}
use Rattle.frame_transport.specs.Bytes.{header_bytes}
use Rattle.frame_transport.specs.Frames.{IsKind, HasVersion, IsFrame, bytes_of_frame, concat_frames, AreConsecutiveFrom, IsPartial}
use Rattle.frame_transport.specs.Frames.{length_field, IsFaultAt, HasHeaderFault, IsSplitOf, HasFaultSoFar, AllStreamsSplit, IsSplitUnique}
use Rattle.frame_transport.specs.Frames.{IsFaultStable, AllStreamsHaveFaultOrNone, IsPartialBounded}
use Rattle.frame_transport.specs.declared.format.Frame.{Frame}
use Rattle.frame_transport.specs.declared.fault.FeedFault.{FeedFault}
use Rattle.frame_transport.proofs.HeaderBytes.{length-header_bytes, length_in-header, kind-header, version-header}
use Rattle.frame_transport.proofs.HeaderBytes.{method-header, conn-header, number-header, drop-header, AreBytes}
use Rattle.frame_transport.proofs.HeaderBytes.{AreBytes-drop, read_header}
use Rattle.frame_transport.proofs.FaultFacts.{none_of_fields, no_fault, fault-append, fault_or_none, one_or_none, has_at}

pub length-bytes_of : (f : Frame) → length (bytes_of_frame f) ≡ 16 + length f.payload
length-bytes_of f =
    omega (
      arith,
      length-append (header_bytes (length f.payload) f.kind f.version f.method f.conn f.number) f.payload,
      length-header_bytes (length f.payload) f.kind f.version f.method f.conn f.number,
    )

-- a frame with more bytes after it is its header, followed by the payload and these bytes
in_front : (f : Frame) (more : List ℕ) → bytes_of_frame f ++ more ≡ header_bytes (length f.payload) f.kind f.version f.method f.conn f.number ++ (f.payload ++ more)
in_front f more = append_assoc (header_bytes (length f.payload) f.kind f.version f.method f.conn f.number) f.payload more

fits : (f : Frame) → IsFrame f → length f.payload < 2 ^ 32
fits f h = omega (arith, h.short)

pub length_in-frame : (f : Frame) (more : List ℕ) → IsFrame f → length_field (bytes_of_frame f ++ more) ≡ length f.payload
length_in-frame f more h = ap length_field (in_front f more) ∙ length_in-header (length f.payload) f.kind f.version f.method f.conn f.number (f.payload ++ more) (fits f h)

kind-frame : (f : Frame) (more : List ℕ) → slice_index (bytes_of_frame f ++ more) 4 ≡ f.kind
kind-frame f more = ap (λ (bs : List ℕ). slice_index bs 4) (in_front f more) ∙ kind-header (length f.payload) f.kind f.version f.method f.conn f.number (f.payload ++ more)

version-frame : (f : Frame) (more : List ℕ) → slice_index (bytes_of_frame f ++ more) 5 ≡ f.version
version-frame f more = ap (λ (bs : List ℕ). slice_index bs 5) (in_front f more) ∙ version-header (length f.payload) f.kind f.version f.method f.conn f.number (f.payload ++ more)

method-frame : (f : Frame) (more : List ℕ) → IsFrame f → big_number 2 (drop 6 (bytes_of_frame f ++ more)) ≡ f.method
method-frame f more h = ap (λ (bs : List ℕ). big_number 2 (drop 6 bs)) (in_front f more)
    ∙ method-header (length f.payload) f.kind f.version f.method f.conn f.number (f.payload ++ more) h.method

conn-frame : (f : Frame) (more : List ℕ) → IsFrame f → big_number 4 (drop 8 (bytes_of_frame f ++ more)) ≡ f.conn
conn-frame f more h = ap (λ (bs : List ℕ). big_number 4 (drop 8 bs)) (in_front f more)
    ∙ conn-header (length f.payload) f.kind f.version f.method f.conn f.number (f.payload ++ more) h.conn

number-frame : (f : Frame) (more : List ℕ) → IsFrame f → big_number 4 (drop 12 (bytes_of_frame f ++ more)) ≡ f.number
number-frame f more h = ap (λ (bs : List ℕ). big_number 4 (drop 12 bs)) (in_front f more)
    ∙ number-header (length f.payload) f.kind f.version f.method f.conn f.number (f.payload ++ more) h.number

drop-frame : (f : Frame) (more : List ℕ) → drop 16 (bytes_of_frame f ++ more) ≡ f.payload ++ more
drop-frame f more = ap (drop 16) (in_front f more) ∙ drop-header (length f.payload) f.kind f.version f.method f.conn f.number (f.payload ++ more)

-- a frame has no fault
pub none_in_frame : (place : ℕ) (f : Frame) (more : List ℕ) → IsFrame f → HasHeaderFault place (bytes_of_frame f ++ more) None
none_in_frame place f more h =
    let size = length_in-frame f more h in
    let kind : slice_index (bytes_of_frame f ++ more) 4 ≡ f.kind = kind-frame f more in
    let version : slice_index (bytes_of_frame f ++ more) 5 ≡ f.version = version-frame f more in
    none_of_fields place (bytes_of_frame f ++ more) (omega (arith, h.short)) (subst IsKind (sym kind) h.kind)
    (subst (HasVersion (slice_index (bytes_of_frame f ++ more) 4)) (sym version)
    (subst (λ (n : ℕ). HasVersion n f.version) (sym kind) h.version))

-- fewer bytes than the length at their start requires
pub partial_of_short : (bs : List ℕ) → length bs < 16 + length_field bs → IsPartial bs
partial_of_short bs short f more h e =
    let size : length_field bs ≡ length f.payload = ap length_field e ∙ length_in-frame f more h in
    let whole : length bs ≡ length (bytes_of_frame f) + length more = ap length e ∙ length-append (bytes_of_frame f) more in
    omega (arith, length-bytes_of f)

-- bytes with a fault
pub partial_of_fault : (place : ℕ) (bs : List ℕ) (fault : FeedFault) → IsFaultAt place bs fault → IsPartial bs
partial_of_fault place bs fault found f more h e =
    none_in_frame place f more h fault (subst (λ (xs : List ℕ). IsFaultAt place xs fault) e found)

pub partial_of_nothing : IsPartial []
partial_of_nothing = partial_of_short [] (omega arith)

-- the frame whose numbers are read at the start of the bytes
abbrev pub frame_at : ℕ → List ℕ → Frame
frame_at place bs = record {
  kind = slice_index bs 4;
  version = slice_index bs 5;
  method = big_number 2 (drop 6 bs);
  conn = big_number 4 (drop 8 bs);
  number = big_number 4 (drop 12 bs);
  payload = take (length_field bs) (drop 16 bs);
  place = place;
}

-- two frames at the start of the same bytes, at the same offset, are equal
pub frame_unique : (f g : Frame) (a b : List ℕ) → IsFrame f → IsFrame g → bytes_of_frame f ++ a ≡ bytes_of_frame g ++ b → f.place ≡ g.place → (f ≡ g) × (a ≡ b)
frame_unique f g a b hf hg e p =
    let size : length f.payload ≡ length g.payload = sym (length_in-frame f a hf) ∙ ap length_field e ∙ length_in-frame g b hg in
    let kind : f.kind ≡ g.kind = sym (kind-frame f a) ∙ ap (λ (bs : List ℕ). slice_index bs 4) e ∙ kind-frame g b in
    let version : f.version ≡ g.version = sym (version-frame f a) ∙ ap (λ (bs : List ℕ). slice_index bs 5) e ∙ version-frame g b in
    let method : f.method ≡ g.method = sym (method-frame f a hf) ∙ ap (λ (bs : List ℕ). big_number 2 (drop 6 bs)) e ∙ method-frame g b hg in
    let conn : f.conn ≡ g.conn = sym (conn-frame f a hf) ∙ ap (λ (bs : List ℕ). big_number 4 (drop 8 bs)) e ∙ conn-frame g b hg in
    let number : f.number ≡ g.number = sym (number-frame f a hf) ∙ ap (λ (bs : List ℕ). big_number 4 (drop 12 bs)) e ∙ number-frame g b hg in
    let rest : f.payload ++ a ≡ g.payload ++ b = sym (drop-frame f a) ∙ ap (drop 16) e ∙ drop-frame g b in
    let payload : f.payload ≡ g.payload = sym (take_at f.payload a (length f.payload) refl) ∙ ap (take (length f.payload)) rest ∙ take_at g.payload b (length f.payload) (sym size) in
    let behind : a ≡ b = sym (drop_at f.payload a (length f.payload) refl) ∙ ap (drop (length f.payload)) rest ∙ drop_at g.payload b (length f.payload) (sym size) in
    ((λ i. record { kind = kind i; version = version i; method = method i; conn = conn i; number = number i; payload = payload i; place = p i }), behind)

-- if the fields have no fault and all bytes are there, the bytes start with a whole frame
pub frame_at_front : (place : ℕ) (bs : List ℕ) → AreBytes bs → HasHeaderFault place bs None → 16 + length_field bs ≤ length bs
    → IsFrame (frame_at place bs) × (bs ≡ bytes_of_frame (frame_at place bs) ++ drop (16 + length_field bs) bs)
frame_at_front place bs b none enough =
    let facts = no_fault place bs (omega arith) none in
    let payload_len : length (take (length_field bs) (drop 16 bs)) ≡ length_field bs = omega (arith, length-take {A = ℕ}, length-drop {A = ℕ}) in
    let header = read_header bs (omega arith) b in
    let cut : take (length_field bs) (drop 16 bs) ++ drop (16 + length_field bs) bs ≡ drop 16 bs =
    ap (λ (ys : List ℕ). take (length_field bs) (drop 16 bs) ++ ys) (sym (drop-drop (length_field bs) 16 bs)) ∙ take-append-drop (length_field bs) (drop 16 bs) in
    let method : big_number 2 (drop 6 bs) < 256 ^ 2 = big_from-lt 0 2 (drop 6 bs) (AreBytes-drop 6 bs b) in
    let conn : big_number 4 (drop 8 bs) < 256 ^ 4 = big_from-lt 0 4 (drop 8 bs) (AreBytes-drop 8 bs b) in
    let number : big_number 4 (drop 12 bs) < 256 ^ 4 = big_from-lt 0 4 (drop 12 bs) (AreBytes-drop 12 bs b) in (
      record { kind = facts.1; version = facts.2; short = omega (arith, facts.0); method = method; conn = conn; number = number },
      sym header
          ∙ (λ i. header_bytes (sym payload_len i) (slice_index bs 4) (slice_index bs 5) (big_number 2 (drop 6 bs)) (big_number 4 (drop 8 bs)) (big_number 4 (drop 12 bs)) ++ sym cut i)
          ∙ sym (in_front (frame_at place bs) (drop (16 + length_field bs) bs)),
    )

once : (place : ℕ) (stream : List ℕ) (fs gs : List Frame) (rest more : List ℕ)
    → stream ≡ concat_frames fs ++ rest → All IsFrame fs → AreConsecutiveFrom place fs → IsPartial rest
    → stream ≡ concat_frames gs ++ more → All IsFrame gs → AreConsecutiveFrom place gs → IsPartial more
    → (fs ≡ gs) × (rest ≡ more)
once place stream [] [] rest more e a p q e' a' p' q' = (refl, sym e ∙ e')
once place stream [] (g ∷ gs) rest more e a p q e' a' p' q' =
    absurd (q g (concat_frames gs ++ more) (All-head IsFrame g gs a') (sym e ∙ e' ∙ append_assoc (bytes_of_frame g) (concat_frames gs) more))
once place stream (f ∷ fs) [] rest more e a p q e' a' p' q' =
    absurd (q' f (concat_frames fs ++ rest) (All-head IsFrame f fs a) (sym e' ∙ e ∙ append_assoc (bytes_of_frame f) (concat_frames fs) rest))
once place stream (f ∷ fs) (g ∷ gs) rest more e a p q e' a' p' q' =
    let here : bytes_of_frame f ++ (concat_frames fs ++ rest) ≡ bytes_of_frame g ++ (concat_frames gs ++ more) =
    sym (append_assoc (bytes_of_frame f) (concat_frames fs) rest) ∙ sym e ∙ e' ∙ append_assoc (bytes_of_frame g) (concat_frames gs) more in
    let same = frame_unique f g (concat_frames fs ++ rest) (concat_frames gs ++ more) (All-head IsFrame f fs a) (All-head IsFrame g gs a') here (p.0 ∙ sym p'.0) in
    let next : AreConsecutiveFrom (place + length (bytes_of_frame f)) gs = subst (λ (h : Frame). AreConsecutiveFrom (place + length (bytes_of_frame h)) gs) (sym same.0) p'.1 in
    let others = once (place + length (bytes_of_frame f)) (concat_frames fs ++ rest) fs gs rest more
    refl (All-tail IsFrame f fs a) p.1 q same.1 (All-tail IsFrame g gs a') next q' in
    ((λ i. same.0 i ∷ others.0 i), others.1)

pub splits_once : IsSplitUnique
splits_once place stream frames others rest more a b =
    once place stream frames others rest more a.whole a.each a.places a.partial b.whole b.each b.places b.partial

pub fault_stays : IsFaultStable
fault_stays place stream more frames rest fault s first =
    let later = fault-append (place + length (concat_frames frames)) rest more fault first in (
      record {
        whole = ap (λ (bs : List ℕ). bs ++ more) s.whole ∙ append_assoc (concat_frames frames) rest more;
        each = s.each;
        places = s.places;
        partial = partial_of_fault (place + length (concat_frames frames)) (rest ++ more) fault later;
      },
      later,
    )

-- a stream ends in at most one way
pub ends_once : (place : ℕ) (stream : List ℕ) (a b : Option FeedFault) → HasFaultSoFar place stream a → HasFaultSoFar place stream b → a ≡ b
ends_once place stream a b x y =
    let same = splits_once place stream x.frames y.frames x.rest y.rest x.splits y.splits in
    let first : HasHeaderFault (place + length (concat_frames y.frames)) y.rest a =
    has_at (place + length (concat_frames x.frames)) (place + length (concat_frames y.frames)) x.rest y.rest a (ap (λ (fs : List Frame). place + length (concat_frames fs)) same.0) same.1 x.first in
    one_or_none (place + length (concat_frames y.frames)) y.rest a b first y.first

-- the first fault of a stream stays the first one
pub ends_stays : (place : ℕ) (stream more : List ℕ) (fault : FeedFault) → HasFaultSoFar place stream (Some fault) → HasFaultSoFar place (stream ++ more) (Some fault)
ends_stays place stream more fault x =
    let later = fault_stays place stream more x.frames x.rest fault x.splits x.first in
    record { frames = x.frames; rest = x.rest ++ more; splits = later.0; first = later.1 }

-- frames after others
pub StandFrom-append : (place : ℕ) (fs gs : List Frame) → AreConsecutiveFrom place fs → AreConsecutiveFrom (place + length (concat_frames fs)) gs → AreConsecutiveFrom place (fs ++ gs)
StandFrom-append place [] gs a b = let e : place + length (concat_frames []) ≡ place = omega arith in subst (λ (p : ℕ). AreConsecutiveFrom p gs) e b
StandFrom-append place (f ∷ fs) gs a b =
    let e : place + length (concat_frames (f ∷ fs)) ≡ place + length (bytes_of_frame f) + length (concat_frames fs) = omega (arith, length-append (bytes_of_frame f) (concat_frames fs)) in
    (a.0, StandFrom-append (place + length (bytes_of_frame f)) fs gs a.1 (subst (λ (p : ℕ). AreConsecutiveFrom p gs) e b))

pub length-joined : (fs gs : List Frame) → length (concat_frames (fs ++ gs)) ≡ length (concat_frames fs) + length (concat_frames gs)
length-joined fs gs = ap length (flat_map-append bytes_of_frame fs gs) ∙ length-append (concat_frames fs) (concat_frames gs)

-- frames before a stream that splits
pub splits_behind : (place : ℕ) (fs gs : List Frame) (stream rest : List ℕ) → All IsFrame fs → AreConsecutiveFrom place fs
    → IsSplitOf (place + length (concat_frames fs)) stream gs rest → IsSplitOf place (concat_frames fs ++ stream) (fs ++ gs) rest
splits_behind place fs gs stream rest each places s = record {
  whole = ap (λ (bs : List ℕ). concat_frames fs ++ bs) s.whole ∙ sym (append_assoc (concat_frames fs) (concat_frames gs) rest) ∙ ap (λ (bs : List ℕ). bs ++ rest) (sym (flat_map-append bytes_of_frame fs gs));
  each = All-append IsFrame fs gs each s.each;
  places = StandFrom-append place fs gs places s.places;
  partial = s.partial;
}

-- ---- each stream of bytes splits

none_or : {A : Type 0} (o : Option A) → (o ≡ None) ⊎ ((x : A) × (o ≡ Some x))
none_or None = inl refl
none_or (Some x) = inr (x, refl)

-- a stream that doesn't start with a whole frame
splits_nowhere : (place : ℕ) (stream : List ℕ) → IsPartial stream → (frames : List Frame) × (rest : List ℕ) × IsSplitOf place stream frames rest
splits_nowhere place stream partial = ([], stream, record { whole = refl; each = All-nil IsFrame; places = tt; partial = partial })

-- a frame before a stream that splits
splits_next : (place : ℕ) (f : Frame) (stream more : List ℕ) → IsFrame f → f.place ≡ place → stream ≡ bytes_of_frame f ++ more
    → (frames : List Frame) × (rest : List ℕ) × IsSplitOf (place + length (bytes_of_frame f)) more frames rest
    → (frames : List Frame) × (rest : List ℕ) × IsSplitOf place stream frames rest
splits_next place f stream more is stands whole s = (
  f ∷ s.0,
  s.1,
  record {
    whole = whole ∙ ap (λ (bs : List ℕ). bytes_of_frame f ++ bs) s.2.whole ∙ sym (append_assoc (bytes_of_frame f) (concat_frames s.0) s.1);
    each = All-cons IsFrame f s.0 is s.2.each;
    places = (stands, s.2.places);
    partial = s.2.partial;
  },
)

-- a stream of at most this many bytes
splits_within : (most place : ℕ) (stream : List ℕ) → length stream ≤ most → AreBytes stream → (frames : List Frame) × (rest : List ℕ) × IsSplitOf place stream frames rest
splits_within zero place stream few b = splits_nowhere place stream (partial_of_short stream (omega (arith, few)))
splits_within (suc most) place stream few b = elim (cases_lt (length stream) (16 + length_field stream)) [
  | inl short ↦ splits_nowhere place stream (partial_of_short stream short)
  | inr enough ↦
      let found = fault_or_none place stream in
      elim (none_or found.0) [
        | inr some ↦ splits_nowhere place stream (partial_of_fault place stream some.0 (subst (HasHeaderFault place stream) some.1 found.1))
        | inl none ↦
            let front = frame_at_front place stream b (subst (HasHeaderFault place stream) none found.1) enough in
            splits_next place (frame_at place stream) stream (drop (16 + length_field stream) stream) front.0 refl front.1
            (splits_within most (place + length (bytes_of_frame (frame_at place stream))) (drop (16 + length_field stream) stream)
            (omega (arith, few, length-drop (16 + length_field stream) stream))
            (AreBytes-drop (16 + length_field stream) stream b))
      ]
]

are_bytes : (bs : List ℕ) → All (λ (byte : ℕ). byte < 256) bs → AreBytes bs
are_bytes [] h i = omega arith
are_bytes (b ∷ bs) h zero = All-head (λ (byte : ℕ). byte < 256) b bs h
are_bytes (b ∷ bs) h (suc i) = are_bytes bs (All-tail (λ (byte : ℕ). byte < 256) b bs h) i

pub always_splits : AllStreamsSplit
always_splits place stream h = splits_within (length stream) place stream (omega arith) (are_bytes stream h)

pub always_ends : AllStreamsHaveFaultOrNone
always_ends place stream h =
    let s = always_splits place stream h in
    let first = fault_or_none (place + length (concat_frames s.0)) s.1 in
    (first.0, record { frames = s.0; rest = s.1; splits = s.2; first = first.1 })

-- bytes of a partial frame without a fault
pub stays_short : IsPartialBounded
stays_short place bs h partial none = elim (cases_lt (length bs) 16) [
  | inl less ↦ omega arith
  | inr more ↦
      let facts = no_fault place bs (omega arith) none in
      elim (cases_lt (length bs) (16 + length_field bs)) [
        | inl short ↦ omega (arith, facts.0)
        | inr enough ↦
            let front = frame_at_front place bs (are_bytes bs h) none enough in
            absurd (partial (frame_at place bs) (drop (16 + length_field bs) bs) front.0 front.1)
      ]
]
