-- A text before a stream has a table or a fault, and a stream is decoded or cut.
use Rattle.std.proofs.Common.{◌≡◌, ◌≢◌, ℕ, ◌+◌, ◌<◌, ◌⊎◌, inl, inr, List, [], ◌∷◌, ◌++◌, length, Option, Some, None}
use Rattle.std.proofs.Common.{refl, sym, ap, subst, ◌∙◌, append_assoc}
use Rattle.std.specs.Prelude.{All, codes}
use Rattle.std.proofs.lemmas.Bool.{cases_eq, cases_lt}
use Rattle.std.proofs.lemmas.List.Elements.{All-cons, All-head, All-nil, All-tail}
use Rattle.mrpc_table.specs.Lines.{line_count}
use Rattle.mrpc_table.specs.Text.{table_text}
use Rattle.mrpc_table.specs.declared.table.Table.{Table}
use Rattle.table_text.specs.Faults.{IsFirstTableFault as IsTableFault}
use Rattle.table_text.specs.Reason.{table_reason_word as table_word}
use Rattle.table_text.specs.TableText.{HasTableAfter, IsEndless, IsTableAfter}
use Rattle.table_text.specs.declared.fault.TableReason.{TableReason}
use Rattle.frame_transport.specs.Frames.{IsFrame, bytes_of_frame, concat_frames, AreConsecutiveFrom, IsFaultAt, long, no_kind, no_version, IsSplitOf, HasFaultSoFar}
use Rattle.frame_transport.specs.declared.format.Frame.{Frame}
use Rattle.frame_transport.specs.declared.format.TheConstants.{HEADER_LEN, HELLO, METHOD_PLACE}
use Rattle.frame_transport.specs.declared.fault.FeedFault.{FeedFault}
use Rattle.frame_transport.specs.declared.fault.FeedFault.TheVariants.{Version, Kind, TooLong, Memory}
use Rattle.wire_base.specs.Encoding.{encoding}
use Rattle.wire_decode.specs.Reason.{decode_reason_word}
use Rattle.text_commands.specs.DecodeInput.{IsInputOf, IsInputTextFault, decode_header, table_keyword, decode_preamble}
use Rattle.text_commands.specs.DecodeInput.IsInputTextFault.{no_first_line, no_second_line, in_table, no_end}
use Rattle.text_commands.specs.Decoding.{hello_line, call_line, IsLineOfFrame, AreLinesOf, IsFaultOfFrame, IsFaultOfHeader, AreFirstFrames, IsDecoded, IsCutAt}
use Rattle.frame_transport.specs.Messages.{payload_message}
use Rattle.text_commands.specs.Decoding.IsLineOfFrame.{line_of_hello, line_of_call}
use Rattle.text_commands.specs.Decoding.IsFaultOfFrame.{no_method, in_payload}
use Rattle.text_commands.specs.Decoding.IsCutAt.{in_frame, in_header, in_short_frame}
use Rattle.text_commands.specs.Laws.{TextLaw, MeaningLaw}
use Rattle.text_commands.proofs.Decodings.{joined-append}

-- ---- the text

abbrev BeginsWith : List ℕ → List ℕ → Type 0
BeginsWith front text = (rest : List ℕ) × (text ≡ front ++ rest)

begins_or_not : (front text : List ℕ) → BeginsWith front text ⊎ ((rest : List ℕ) → text ≢ front ++ rest)
begins_or_not [] text = inl (text, refl)
begins_or_not (x ∷ xs) [] = inr (λ rest e. cc)
begins_or_not (x ∷ xs) (y ∷ ys) =
    elim (cases_eq y x) [
      | inl same ↦ begins_on x y xs ys same (begins_or_not xs ys)
      | inr other ↦ inr (λ rest e.
          let same : y ≡ x = cc in
          other same)
    ]
  where
    begins_on : (x y : ℕ) (xs ys : List ℕ) → y ≡ x → BeginsWith xs ys ⊎ ((rest : List ℕ) → ys ≢ xs ++ rest)
        → BeginsWith (x ∷ xs) (y ∷ ys) ⊎ ((rest : List ℕ) → y ∷ ys ≢ (x ∷ xs) ++ rest)
    begins_on x y xs ys same (inl (rest, e)) =
        let whole : y ∷ ys ≡ x ∷ (xs ++ rest) = cc in
        inl (rest, whole)
    begins_on x y xs ys same (inr none) = inr (λ rest e.
        let tail : ys ≡ xs ++ rest = cc in
        none rest tail)

abbrev IsHeldOrFaulty : List ℕ → Type 0
IsHeldOrFaulty text = ((T : Table) × (stream : List ℕ) × IsInputOf text T stream)
    ⊎ ((line : ℕ) × (word : List ℕ) × IsInputTextFault text line word)

-- what follows the first two lines
table_behind : TextLaw → (text body : List ℕ) → text ≡ decode_preamble ++ body
    → ((table : List ℕ) × (rest : List ℕ) × HasTableAfter decode_preamble text table rest) ⊎ IsEndless decode_preamble text body
table_behind law text body e =
    subst (λ (t : List ℕ). ((table : List ℕ) × (rest : List ℕ) × HasTableAfter decode_preamble t table rest) ⊎ IsEndless decode_preamble t body)
    (sym e) (law.table_or_endless decode_preamble body)

table_fault : (text table : List ℕ) (at : ℕ) (reason : TableReason) → IsTableAfter decode_preamble text table
    → IsTableFault table at reason → IsInputTextFault text (at + 2) (table_word reason)
table_fault text table at reason behind first = in_table table behind (record {
  at = at;
  reason = reason;
  first = first;
  line_is = refl;
  word_is = refl;
})

held_of_table : TextLaw → (text table rest : List ℕ) → HasTableAfter decode_preamble text table rest → IsHeldOrFaulty text
held_of_table law text table rest has =
    elim (law.table_or_fault table) [
      | inl t ↦
          let parts : HasTableAfter decode_preamble text (table_text t.0) rest =
          subst (λ (x : List ℕ). HasTableAfter decode_preamble text x rest) t.2 has in
          inl (t.0, rest, record { valid = t.1; parts = parts })
      | inr e ↦ inr (e.0 + 2, table_word e.1, table_fault text table e.0 e.1 (inl (rest, has)) e.2)
    ]

fault_of_endless : TextLaw → (text table : List ℕ) → IsEndless decode_preamble text table → IsHeldOrFaulty text
fault_of_endless law text table is =
    elim (law.table_or_fault table) [
      | inl t ↦
          let endless : IsEndless decode_preamble text (table_text t.0) = subst (λ (x : List ℕ). IsEndless decode_preamble text x) t.2 is in
          inr (line_count text + 1, codes "Word", no_end t.0 t.1 endless refl refl)
      | inr e ↦ inr (e.0 + 2, table_word e.1, table_fault text table e.0 e.1 (inr is) e.2)
    ]

behind_head : TextLaw → (text body : List ℕ) → text ≡ decode_preamble ++ body → IsHeldOrFaulty text
behind_head law text body e =
    elim (table_behind law text body e) [
      | inl has ↦ held_of_table law text has.0 has.1 has.2
      | inr is ↦ fault_of_endless law text body is
    ]

behind_first_line : TextLaw → (text rest : List ℕ) → text ≡ decode_header ++ rest → IsHeldOrFaulty text
behind_first_line law text rest first =
    elim (begins_or_not table_keyword rest) [
      | inl second ↦
          behind_head law text second.0
          (first ∙ ap (λ (t : List ℕ). decode_header ++ t) second.1)
      | inr none ↦ inr (2, codes "Word", no_second_line rest first none refl refl)
    ]

pub held_or_faulty : TextLaw → (text : List ℕ) → IsHeldOrFaulty text
held_or_faulty law text =
    elim (begins_or_not decode_header text) [
      | inl first ↦ behind_first_line law text first.0 first.1
      | inr none ↦ inr (1, codes "Header", no_first_line none refl refl)
    ]

-- ---- the frames

abbrev HasLineOrFault : Table → Frame → Type 0
HasLineOrFault T f = ((line : List ℕ) × IsLineOfFrame T f line) ⊎ ((place : ℕ) × (word : List ℕ) × IsFaultOfFrame T f place word)

call_line_or_fault : MeaningLaw → (T : Table) (f : Frame) → f.kind ≢ HELLO → f.method < length T.methods → HasLineOrFault T f
call_line_or_fault law T f call known =
    elim (law.either T (payload_message T f) f.payload) [
      | inl t ↦ inl (call_line f (encoding T (payload_message T f) t.0), line_of_call t.0 call known t.1 refl)
      | inr e ↦ inr (f.place + HEADER_LEN + e.1, decode_reason_word e.0, in_payload e.0 e.1 call known e.2 refl refl)
    ]

line_or_fault : MeaningLaw → (T : Table) (f : Frame) → HasLineOrFault T f
line_or_fault law T f =
    elim (cases_eq f.kind HELLO) [
      | inl is ↦ inl (hello_line f, line_of_hello is refl)
      | inr call ↦ elim (cases_lt f.method (length T.methods)) [
        | inl known ↦ call_line_or_fault law T f call known
        | inr lacks ↦ inr (f.place + METHOD_PLACE, codes "NoMethod", no_method call lacks refl refl)
      ]
    ]

-- the first frame at fault among these, and the lines of the frames before it
record FirstFaulty (T : Table) (fs : List Frame) : Type 0 where
  before : List Frame
  frame : Frame
  others : List Frame
  whole : fs ≡ before ++ frame ∷ others
  text : List ℕ
  lines : AreLinesOf T before text
  place : ℕ
  word : List ℕ
  fault : IsFaultOfFrame T frame place word

lines_on : (T : Table) (f : Frame) (fs : List Frame) (line : List ℕ) → IsLineOfFrame T f line
    → ((text : List ℕ) × AreLinesOf T fs text) ⊎ FirstFaulty T fs
    → ((text : List ℕ) × AreLinesOf T (f ∷ fs) text) ⊎ FirstFaulty T (f ∷ fs)
lines_on T f fs line is (inl (text, lines)) = inl (line ++ text, (line, text, is, lines, refl))
lines_on T f fs line is (inr u) = inr (record {
  before = f ∷ u.before;
  frame = u.frame;
  others = u.others;
  whole = ap (λ (gs : List Frame). f ∷ gs) u.whole;
  text = line ++ u.text;
  lines = (line, u.text, is, u.lines, refl);
  place = u.place;
  word = u.word;
  fault = u.fault;
})

all_lines : MeaningLaw → (T : Table) (fs : List Frame) → ((text : List ℕ) × AreLinesOf T fs text) ⊎ FirstFaulty T fs
all_lines law T [] = inl ([], refl)
all_lines law T (f ∷ fs) =
    let rest = all_lines law T fs in
    elim (line_or_fault law T f) [
      | inl line ↦ lines_on T f fs line.0 line.1 rest
      | inr e ↦ inr (record {
        before = [];
        frame = f;
        others = fs;
        whole = refl;
        text = [];
        lines = refl;
        place = e.0;
        word = e.1;
        fault = e.2;
      })
    ]

-- ---- the stream

front_each : (before : List Frame) (f : Frame) (others : List Frame) → All IsFrame (before ++ f ∷ others)
    → All IsFrame (before ++ f ∷ [])
front_each [] f others h = All-cons IsFrame f [] (All-head IsFrame f others h) (All-nil IsFrame)
front_each (g ∷ gs) f others h =
    All-cons IsFrame g (gs ++ f ∷ []) (All-head IsFrame g (gs ++ f ∷ others) h)
    (front_each gs f others (All-tail IsFrame g (gs ++ f ∷ others) h))

front_places : (start : ℕ) (before : List Frame) (f : Frame) (others : List Frame) → AreConsecutiveFrom start (before ++ f ∷ others)
    → AreConsecutiveFrom start (before ++ f ∷ [])
front_places start [] f others h = (h.0, tt)
front_places start (g ∷ gs) f others h = (h.0, front_places (start + length (bytes_of_frame g)) gs f others h.1)

front_of : (start : ℕ) (stream : List ℕ) (before : List Frame) (f : Frame) (others : List Frame) (rest : List ℕ)
    → IsSplitOf start stream (before ++ f ∷ others) rest → AreFirstFrames start stream (before ++ f ∷ [])
front_of start stream before f others rest s = record {
  more = concat_frames others ++ rest;
  whole = s.whole ∙ ap (λ (fs : List Frame). concat_frames fs ++ rest) (sym (append_assoc before (f ∷ []) others))
      ∙ joined-append (before ++ f ∷ []) others rest;
  each = front_each before f others s.each;
  places = front_places start before f others s.places;
}

-- the stream, whose first byte has this offset, is frames to its end, and the text is their lines
pub record IsDecodedFrom (T : Table) (start : ℕ) (stream text : List ℕ) : Type 0 where
  pub frames : List Frame
  pub splits : IsSplitOf start stream frames []
  pub lines : AreLinesOf T frames text

abbrev pub IsToldOrCut : Table → ℕ → List ℕ → Type 0
IsToldOrCut T start stream = ((told : List ℕ) × IsDecodedFrom T start stream told)
    ⊎ ((told : List ℕ) × (place : ℕ) × (word : List ℕ) × IsCutAt T start stream told place word)

no_memory_at : (place : ℕ) (bytes : List ℕ) → IsFaultAt place bytes Memory → ⊥
no_memory_at place bytes (long there past is) = cc
no_memory_at place bytes (no_kind there short none is) = cc
no_memory_at place bytes (no_version there short kind none is) = cc

header_word : (place : ℕ) (bytes : List ℕ) (fault : FeedFault) → IsFaultAt place bytes fault
    → (at : ℕ) × (word : List ℕ) × IsFaultOfHeader fault at word
header_word place bytes (Version at value) first = (at, codes "Version", (refl, refl))
header_word place bytes (Kind at value) first = (at, codes "Kind", (refl, refl))
header_word place bytes (TooLong at value) first = (at, codes "TooLong", (refl, refl))
header_word place bytes Memory first = absurd (no_memory_at place bytes first)

empty_or_not : (bytes : List ℕ) → (bytes ≡ []) ⊎ (bytes ≢ [])
empty_or_not [] = inl refl
empty_or_not (x ∷ xs) = inr (λ e. cc)

-- if each whole frame has a line
told_to_end : (T : Table) (start : ℕ) (stream : List ℕ) (fault : Option FeedFault) (e : HasFaultSoFar start stream fault) (text : List ℕ)
    → AreLinesOf T e.frames text → IsToldOrCut T start stream
told_to_end T start stream (Some fault) e text lines =
    let header = header_word (start + length (concat_frames e.frames)) e.rest fault e.first in
    inr (text, header.0, header.1, in_header e.frames e.rest fault e.splits lines e.first header.2)
told_to_end T start stream None e text lines =
    elim (empty_or_not e.rest) [
      | inl none ↦
          let splits : IsSplitOf start stream e.frames [] = subst (λ (r : List ℕ). IsSplitOf start stream e.frames r) none e.splits in
          inl (text, record { frames = e.frames; splits = splits; lines = lines })
      | inr some ↦ inr (
        text,
        start + length (concat_frames e.frames),
        codes "Short",
        in_short_frame e.frames e.rest e.splits lines e.first some refl refl,
      )
    ]

cut_in_front : (T : Table) (start : ℕ) (stream : List ℕ) (fs : List Frame) (rest : List ℕ) → IsSplitOf start stream fs rest → FirstFaulty T fs
    → IsToldOrCut T start stream
cut_in_front T start stream fs rest s u =
    let splits : IsSplitOf start stream (u.before ++ u.frame ∷ u.others) rest =
    subst (λ (gs : List Frame). IsSplitOf start stream gs rest) u.whole s in
    inr (
      u.text,
      u.place,
      u.word,
      in_frame u.before u.frame (front_of start stream u.before u.frame u.others rest splits) u.lines u.fault,
    )

-- from an offset on, the bytes of a stream are decoded or cut
pub told_or_cut_from : MeaningLaw → (T : Table) (start : ℕ) (stream : List ℕ) → All (λ byte. byte < 256) stream
    → IsToldOrCut T start stream
told_or_cut_from law T start stream bytes =
    let ends = law.frames.ends start stream bytes in
    elim (all_lines law T ends.1.frames) [
      | inl told ↦ told_to_end T start stream ends.0 ends.1 told.0 told.1
      | inr faulty ↦ cut_in_front T start stream ends.1.frames ends.1.rest ends.1.splits faulty
    ]

pub told_or_cut : MeaningLaw → (T : Table) (stream : List ℕ) → All (λ byte. byte < 256) stream
    → ((told : List ℕ) × IsDecoded T stream told)
    ⊎ ((told : List ℕ) × (place : ℕ) × (word : List ℕ) × IsCutAt T 0 stream told place word)
told_or_cut law T stream bytes =
    elim (told_or_cut_from law T 0 stream bytes) [
      | inl d ↦ inl (d.0, record { frames = d.1.frames; splits = d.1.splits; lines = d.1.lines })
      | inr cut ↦ inr cut
    ]
