-- A text that consists of a table's text and whole frames has no fault.
use Rattle.std.proofs.Common.{◌≡◌, ℕ, ◌+◌, List, [], ◌∷◌, ◌++◌, length, refl, sym, ap, subst, ◌∙◌, append_assoc, arith}
use Rattle.std.proofs.lemmas.List.Elements.{All-head, All-tail}
use Rattle.mrpc_table.specs.declared.table.Table.{Table}
use Rattle.frame_transport.specs.Frames.{IsFrame, bytes_of_frame, concat_frames, AreConsecutiveFrom, IsPartial, IsSplitOf, IsFaultAt}
use Rattle.frame_transport.specs.declared.format.Frame.{Frame}
use Rattle.frame_transport.specs.declared.fault.FeedFault.{FeedFault}
use Rattle.text_commands.specs.Decoding.{IsLineOfFrame, AreLinesOf, IsFaultOfFrame, AreFirstFrames, IsDecoded, IsCutAt}
use Rattle.frame_transport.specs.Messages.{payload_message}
use Rattle.text_commands.specs.Decoding.IsLineOfFrame.{line_of_hello, line_of_call}
use Rattle.text_commands.specs.Decoding.IsFaultOfFrame.{no_method, in_payload}
use Rattle.text_commands.specs.Decoding.IsCutAt.{in_frame, in_header, in_short_frame}
use Rattle.text_commands.specs.Laws.{MeaningLaw}

-- ---- the frames

pub no_fault_in : MeaningLaw → (T : Table) (f : Frame) (line : List ℕ) (place : ℕ) (word : List ℕ) → IsLineOfFrame T f line → IsFaultOfFrame T f place word → ⊥
no_fault_in law T f line place word (line_of_hello kind is) (no_method other lacks at is') = other kind
no_fault_in law T f line place word (line_of_hello kind is) (in_payload reason at other known first at_is is') = other kind
no_fault_in law T f line place word (line_of_call t other known means is) (no_method other' lacks at is') = omega (arith, known, lacks)
no_fault_in law T f line place word (line_of_call t other known means is)
    (in_payload reason at other' known' first at_is is') =
    law.not_both T (payload_message T f) f.payload t reason at means first

-- a stream that splits into whole frames has them as a prefix
pub whole_front : (start : ℕ) (stream : List ℕ) (fs : List Frame) (rest : List ℕ) → IsSplitOf start stream fs rest → AreFirstFrames start stream fs
whole_front start stream fs rest s = record { more = rest; whole = s.whole; each = s.each; places = s.places }

-- the frames after the first one are a prefix of what follows it
pub behind : (start : ℕ) (stream : List ℕ) (h : Frame) (hs : List Frame) (a : AreFirstFrames start stream (h ∷ hs))
    → AreFirstFrames (start + length (bytes_of_frame h)) (concat_frames hs ++ a.more) hs
behind start stream h hs a = record { more = a.more; whole = refl; each = All-tail IsFrame h hs a.each; places = a.places.1 }

pub next : MeaningLaw → (start : ℕ) (stream : List ℕ) (h g : Frame) (hs gs : List Frame) (a : AreFirstFrames start stream (h ∷ hs))
    → AreFirstFrames start stream (g ∷ gs) → (h ≡ g) × AreFirstFrames (start + length (bytes_of_frame h)) (concat_frames hs ++ a.more) gs
next law start stream h g hs gs a b =
    let here : bytes_of_frame h ++ (concat_frames hs ++ a.more) ≡ bytes_of_frame g ++ (concat_frames gs ++ b.more) =
    sym (append_assoc (bytes_of_frame h) (concat_frames hs) a.more) ∙ sym a.whole ∙ b.whole ∙ append_assoc (bytes_of_frame g) (concat_frames gs) b.more in
    let same = law.frames.frame_is_unique h g (concat_frames hs ++ a.more) (concat_frames gs ++ b.more) (All-head IsFrame h hs a.each) (All-head IsFrame g gs b.each) here (a.places.0 ∙ sym b.places.0) in (
      same.0,
      record {
        more = b.more;
        whole = same.1;
        each = All-tail IsFrame g gs b.each;
        places = subst (λ (k : Frame). AreConsecutiveFrom (start + length (bytes_of_frame k)) gs) (sym same.0) b.places.1;
      },
    )

none_in_front : (start : ℕ) (stream : List ℕ) (g : Frame) (gs : List Frame) (a : AreFirstFrames start stream []) → IsPartial a.more → AreFirstFrames start stream (g ∷ gs) → ⊥
none_in_front start stream g gs a partial b = partial g (concat_frames gs ++ b.more) (All-head IsFrame g gs b.each) (sym a.whole ∙ b.whole ∙ append_assoc (bytes_of_frame g) (concat_frames gs) b.more)

-- if all whole frames of a stream have lines, each frame of a prefix has one
line_of_frame : MeaningLaw → (T : Table) (start : ℕ) (stream text : List ℕ) (fs before : List Frame) (f : Frame) (a : AreFirstFrames start stream fs)
    → IsPartial a.more → AreLinesOf T fs text → AreFirstFrames start stream (before ++ f ∷ []) → (line : List ℕ) × IsLineOfFrame T f line
unfolding behind
line_of_frame law T start stream text [] [] f a partial l b = absurd (none_in_front start stream f [] a partial b)
line_of_frame law T start stream text [] (g ∷ gs) f a partial l b = absurd (none_in_front start stream g (gs ++ f ∷ []) a partial b)
line_of_frame law T start stream text (h ∷ hs) [] f a partial l b = (l.0, subst (λ (k : Frame). IsLineOfFrame T k l.0) (next law start stream h f hs [] a b).0 l.2)
line_of_frame law T start stream text (h ∷ hs) (g ∷ gs) f a partial l b =
    line_of_frame law T (start + length (bytes_of_frame h)) (concat_frames hs ++ a.more) l.1 hs gs f (behind start stream h hs a) partial l.3 (next law start stream h g hs (gs ++ f ∷ []) a b).1

-- so none of them is at fault
pub no_fault_in_front : MeaningLaw → (T : Table) (start : ℕ) (stream text : List ℕ) (fs before : List Frame) (rest : List ℕ) (f : Frame) (place : ℕ) (word : List ℕ)
    → IsSplitOf start stream fs rest → AreLinesOf T fs text → AreFirstFrames start stream (before ++ f ∷ []) → IsFaultOfFrame T f place word → ⊥
unfolding whole_front
no_fault_in_front law T start stream text fs before rest f place word s l b fault =
    let line = line_of_frame law T start stream text fs before f (whole_front start stream fs rest s) s.partial l b in
    no_fault_in law T f line.0 place word line.1 fault

nothing_at_fault : MeaningLaw → (place : ℕ) (rest : List ℕ) (fault : FeedFault) → rest ≡ [] → IsFaultAt place rest fault → ⊥
nothing_at_fault law place rest fault none first = law.frames.short place rest (omega (arith, ap length none)) fault first

pub no_stream_fault : MeaningLaw → (T : Table) (stream lines text : List ℕ) (place : ℕ) (word : List ℕ) → IsDecoded T stream lines → IsCutAt T 0 stream text place word → ⊥
no_stream_fault law T stream lines text place word d (in_frame before f stand told fault) =
    no_fault_in_front law T 0 stream lines d.frames before [] f place word d.splits d.lines stand fault
no_stream_fault law T stream lines text place word d (in_header frames rest fault splits told first is) =
    nothing_at_fault law (0 + length (concat_frames frames)) rest fault (law.frames.split_is_unique 0 stream frames d.frames rest [] splits d.splits).1 first
no_stream_fault law T stream lines text place word d (in_short_frame frames rest splits told clean some at is) =
    some (law.frames.split_is_unique 0 stream frames d.frames rest [] splits d.splits).1
