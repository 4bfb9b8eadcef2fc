-- Consecutive frames of a stream, line by line.
use Rattle.std.proofs.Common.{◌≡◌, ◌≢◌, ℕ, ◌+◌, ◌<◌, ◌≤◌, List, [], ◌∷◌, ◌++◌, length, drop, codes, Option, Some}
use Rattle.std.proofs.Common.{None, refl, sym, ap, subst, ◌∙◌, arith, append_assoc, append-nil}
use Rattle.std.specs.Prelude.{All}
use Rattle.std.proofs.lemmas.List.{drop_all, drop-drop, length-drop}
use Rattle.std.proofs.lemmas.List.Elements.{All-append, All-nil, All-cons}
use Rattle.std.proofs.lemmas.List.Concat.{flat_map-append}
use Rattle.mrpc_table.specs.declared.table.Table.{Table}
use Rattle.wire_decode.specs.Faults.{IsFirstDecodeFault}
use Rattle.wire_decode.specs.Reason.{decode_reason_word}
use Rattle.wire_decode.specs.declared.fault.DecodeReason.{DecodeReason}
use Rattle.frame_transport.specs.Frames.{IsFrame, bytes_of_frame, concat_frames, AreConsecutiveFrom, IsPartial, HasHeaderFault, IsSplitOf}
use Rattle.frame_transport.specs.Frames.{HasNoFrame}
use Rattle.frame_transport.specs.FramesInPlace.{IsFrameAt}
use Rattle.frame_transport.specs.declared.format.Frame.{Frame}
use Rattle.frame_transport.specs.declared.format.TheConstants.{HELLO}
use Rattle.frame_transport.specs.declared.fault.FeedFault.{FeedFault}
use Rattle.text_commands.specs.DecodeInput.{OnFault}
use Rattle.text_commands.specs.Decoding.{IsLineOfFrame, AreLinesOf, IsFaultOfFrame, in_payload, IsFaultOfHeader, IsDecoded, IsCutAt, in_frame, in_header, in_short_frame}
use Rattle.frame_transport.specs.Messages.{payload_message}
use Rattle.text_commands.specs.declared.decoding.DecodeError.{DecodeError}
use Rattle.text_commands.specs.declared.decoding.DecodeError.TheVariants.{Fault, Memory as NoMemory, Out}
use Rattle.text_commands.specs.LineRanges.{AreLinesBetween}
use Rattle.text_commands.specs.Laws.{FrameLaw}

-- a property of each fault
pub on_fault : (P Q : ℕ → List ℕ → Type 0) → ((place : ℕ) (word : List ℕ) → P place word → Q place word) → (cut : DecodeError) → OnFault P cut → OnFault Q cut
on_fault P Q h (Fault place word) p = h place word.now p
on_fault P Q h NoMemory p = tt
on_fault P Q h Out p = tt

pub fault_of_payload : (T : Table) (f : Frame) (message : ℕ) (word : List ℕ) (reason : DecodeReason) (at place : ℕ)
    → f.kind ≢ HELLO → f.method < length T.methods → message ≡ payload_message T f
    → IsFirstDecodeFault T message f.payload reason at → place ≡ f.place + (16 + at) → word ≡ decode_reason_word reason
    → IsFaultOfFrame T f place word
fault_of_payload T f message word reason at place call known m first place_is word_is =
    in_payload reason at call known (subst (λ (n : ℕ). IsFirstDecodeFault T n f.payload reason at) m first) (omega (arith, place_is)) word_is

-- the lines of frames, followed by the lines of the next frames
pub lines-append : (T : Table) (fs gs : List Frame) (a b : List ℕ) → AreLinesOf T fs a → AreLinesOf T gs b → AreLinesOf T (fs ++ gs) (a ++ b)
lines-append T [] gs a b p q = subst (λ (x : List ℕ). AreLinesOf T gs (x ++ b)) (sym p) q
lines-append T (f ∷ fs) gs a b p q = (p.0, p.1 ++ b, p.2, lines-append T fs gs p.1 b p.3 q, ap (λ (x : List ℕ). x ++ b) p.4 ∙ append_assoc p.0 p.1 b)

line_alone : (T : Table) (f : Frame) (line : List ℕ) → IsLineOfFrame T f line → AreLinesOf T (f ∷ []) line
line_alone T f line h = (line, [], h, refl, sym (append-nil line))

pub joined-append : (fs gs : List Frame) (more : List ℕ) → concat_frames (fs ++ gs) ++ more ≡ concat_frames fs ++ (concat_frames gs ++ more)
joined-append fs gs more = ap (λ (bs : List ℕ). bs ++ more) (flat_map-append bytes_of_frame fs gs) ∙ append_assoc (concat_frames fs) (concat_frames gs) more

joined_alone : (f : Frame) → concat_frames (f ∷ []) ≡ bytes_of_frame f
joined_alone f = append-nil (bytes_of_frame f)

-- the fault of the same bytes at the same offset
fault_of : (place other : ℕ) (bytes : List ℕ) (fault : Option FeedFault) → place ≡ other → HasHeaderFault place bytes fault → HasHeaderFault other bytes fault
fault_of place other bytes fault p h = subst (λ (n : ℕ). HasHeaderFault n bytes fault) p h

-- ---- the next frame at an offset

-- a frame
pub tells_one : FrameLaw → (T : Table) (stream : List ℕ) (from to : ℕ) (line : List ℕ) (f : Frame)
    → IsFrameAt from (drop from stream) f → IsLineOfFrame T f line → to ≡ from + (16 + length f.payload)
    → AreLinesBetween T stream from to line
tells_one law T stream from to line f h is behind =
    let rest : drop (16 + length f.payload) (drop from stream) ≡ drop to stream =
    drop-drop (16 + length f.payload) from stream ∙ ap (λ (n : ℕ). drop n stream) (sym behind) in
    record {
      frames = f ∷ [];
      lines = line_alone T f line is;
      each = All-cons IsFrame f [] h.frame (All-nil IsFrame);
      places = (h.stands, tt);
      whole = h.whole ∙ (λ i. sym (joined_alone f) i ++ rest i);
      end = omega (arith, behind, ap length (joined_alone f), law.size_of_one f);
    }

-- a frame at fault
pub cut_in_frame : (T : Table) (start : ℕ) (bytes : List ℕ) (f : Frame) (place : ℕ) (word : List ℕ)
    → IsFrameAt start bytes f → IsFaultOfFrame T f place word → IsCutAt T start bytes [] place word
cut_in_frame T start bytes f place word h fault = in_frame [] f
    (record {
      more = drop (16 + length f.payload) bytes;
      whole = h.whole ∙ ap (λ (bs : List ℕ). bs ++ drop (16 + length f.payload) bytes) (sym (joined_alone f));
      each = All-cons IsFrame f [] h.frame (All-nil IsFrame);
      places = (h.stands, tt);
    })
    refl
    fault

no_frame : (start : ℕ) (bytes : List ℕ) → IsPartial bytes → IsSplitOf start bytes [] bytes
no_frame start bytes partial = record { whole = refl; each = All-nil IsFrame; places = tt; partial = partial }

at_start : (start : ℕ) → start ≡ start + length (concat_frames [])
at_start start = omega arith

-- a header at fault
pub cut_in_header : (T : Table) (start : ℕ) (bytes : List ℕ) (fault : FeedFault) (place : ℕ) (word : List ℕ)
    → HasNoFrame start bytes (Some fault) → IsFaultOfHeader fault place word → IsCutAt T start bytes [] place word
cut_in_header T start bytes fault place word h is =
    in_header [] bytes fault (no_frame start bytes h.partial) refl (fault_of start (start + length (concat_frames [])) bytes (Some fault) (at_start start) h.first) is

-- less than a frame
pub cut_short : (T : Table) (start : ℕ) (bytes : List ℕ) (place : ℕ) (word : List ℕ) → HasNoFrame start bytes None
    → bytes ≢ [] → place ≡ start → word ≡ codes "Short" → IsCutAt T start bytes [] place word
cut_short T start bytes place word h some at short =
    in_short_frame [] bytes (no_frame start bytes h.partial) refl (fault_of start (start + length (concat_frames [])) bytes None (at_start start) h.first) some (at ∙ at_start start) short

-- the remainder has a byte
pub some_left : (from : ℕ) (stream : List ℕ) → from < length stream → drop from stream ≢ []
some_left from stream h none = omega (arith, h, length-drop from stream, ap length none)

-- ---- consecutive frames

pub tells_nothing : (T : Table) (stream : List ℕ) (from : ℕ) → AreLinesBetween T stream from from []
tells_nothing T stream from = record { frames = []; lines = refl; each = All-nil IsFrame; places = tt; whole = refl; end = at_start from }

pub tells_more : FrameLaw → (T : Table) (stream : List ℕ) (from mid to : ℕ) (text more : List ℕ) → AreLinesBetween T stream from mid text → AreLinesBetween T stream mid to more
    → AreLinesBetween T stream from to (text ++ more)
tells_more law T stream from mid to text more x y = record {
  frames = x.frames ++ y.frames;
  lines = lines-append T x.frames y.frames text more x.lines y.lines;
  each = All-append IsFrame x.frames y.frames x.each y.each;
  places = law.places from x.frames y.frames x.places (subst (λ (p : ℕ). AreConsecutiveFrom p y.frames) x.end y.places);
  whole = x.whole ∙ ap (λ (bs : List ℕ). concat_frames x.frames ++ bs) y.whole ∙ sym (joined-append x.frames y.frames (drop to stream));
  end = omega (arith, x.end, y.end, law.size_of_all x.frames y.frames);
}

-- the decoded frames, followed by the other frames of the stream
pub splits_more : FrameLaw
    → (T : Table) (stream : List ℕ) (from mid : ℕ) (text : List ℕ) (gs : List Frame) (rest : List ℕ)
    (x : AreLinesBetween T stream from mid text) → IsSplitOf mid (drop mid stream) gs rest
    → IsSplitOf from (drop from stream) (x.frames ++ gs) rest
splits_more law T stream from mid text gs rest x s =
    subst (λ (bs : List ℕ). IsSplitOf from bs (x.frames ++ gs) rest) (sym x.whole)
    (law.splits from x.frames gs (drop mid stream) rest x.each x.places (subst (λ (p : ℕ). IsSplitOf p (drop mid stream) gs rest) x.end s))

place_more : FrameLaw → (T : Table) (stream : List ℕ) (from mid : ℕ) (text : List ℕ) (gs : List Frame) (x : AreLinesBetween T stream from mid text)
    → mid + length (concat_frames gs) ≡ from + length (concat_frames (x.frames ++ gs))
place_more law T stream from mid text gs x = omega (arith, x.end, law.size_of_all x.frames gs)

-- a fault after the decoded frames is the first fault of the whole stream
pub cut_behind : FrameLaw
    → (T : Table) (stream : List ℕ) (from mid : ℕ) (text behind : List ℕ) (place : ℕ) (word : List ℕ)
    → AreLinesBetween T stream from mid text → IsCutAt T mid (drop mid stream) behind place word
    → IsCutAt T from (drop from stream) (text ++ behind) place word
cut_behind law T stream from mid text behind place word x (in_frame before f stand lines fault) = in_frame (x.frames ++ before) f
    (record {
      more = stand.more;
      whole = x.whole ∙ ap (λ (bs : List ℕ). concat_frames x.frames ++ bs) stand.whole ∙ sym (joined-append x.frames (before ++ f ∷ []) stand.more)
          ∙ ap (λ (fs : List Frame). concat_frames fs ++ stand.more) (sym (append_assoc x.frames before (f ∷ [])));
      each = subst (All IsFrame) (sym (append_assoc x.frames before (f ∷ []))) (All-append IsFrame x.frames (before ++ f ∷ []) x.each stand.each);
      places = subst (AreConsecutiveFrom from) (sym (append_assoc x.frames before (f ∷ [])))
          (law.places from x.frames (before ++ f ∷ []) x.places (subst (λ (p : ℕ). AreConsecutiveFrom p (before ++ f ∷ [])) x.end stand.places));
    })
    (lines-append T x.frames before text behind x.lines lines)
    fault
cut_behind law T stream from mid text behind place word x (in_header frames rest fault splits lines first header) = in_header (x.frames ++ frames) rest fault
    (splits_more law T stream from mid text frames rest x splits)
    (lines-append T x.frames frames text behind x.lines lines)
    (fault_of _ _ rest (Some fault) (place_more law T stream from mid text frames x) first)
    header
cut_behind law T stream from mid text behind place word x (in_short_frame frames rest splits lines none some at short) = in_short_frame (x.frames ++ frames) rest
    (splits_more law T stream from mid text frames rest x splits)
    (lines-append T x.frames frames text behind x.lines lines)
    (fault_of _ _ rest None (place_more law T stream from mid text frames x) none)
    some
    (at ∙ place_more law T stream from mid text frames x)
    short

-- all of the stream was decoded
pub all_told : FrameLaw → (T : Table) (stream : List ℕ) (to : ℕ) (text : List ℕ) → AreLinesBetween T stream 0 to text → length stream ≤ to → IsDecoded T stream text
all_told law T stream to text x end = record {
  frames = x.frames;
  splits = record {
    whole = x.whole ∙ ap (λ (bs : List ℕ). concat_frames x.frames ++ bs) (drop_all to stream end);
    each = x.each;
    places = x.places;
    partial = law.nothing;
  };
  lines = x.lines;
}
