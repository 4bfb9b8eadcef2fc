-- A stream is decoded in one way.
use Rattle.std.proofs.Common.{◌≡◌, ℕ, ◌+◌, List, [], ◌∷◌, ◌++◌, length, Option, Some, None, refl, sym, ap, subst, ◌∙◌, arith}
use Rattle.std.proofs.lemmas.Option.{same_Some}
use Rattle.mrpc_table.specs.Node.{Node}
use Rattle.mrpc_table.specs.declared.table.Table.{Table}
use Rattle.frame_transport.specs.Frames.{bytes_of_frame, concat_frames, IsSplitOf, HasHeaderFault}
use Rattle.frame_transport.specs.declared.format.Frame.{Frame}
use Rattle.frame_transport.specs.declared.fault.FeedFault.{FeedFault}
use Rattle.frame_transport.specs.declared.fault.FeedFault.TheVariants.{Version, Kind, TooLong, Memory}
use Rattle.wire_base.specs.Encoding.{encoding}
use Rattle.wire_decode.specs.Reason.{decode_reason_word}
use Rattle.text_commands.specs.Decoding.{IsLineOfFrame, AreLinesOf, IsFaultOfFrame, IsFaultOfHeader, AreFirstFrames, IsDecoded, IsCutAt, call_line}
use Rattle.frame_transport.specs.Messages.{payload_message}
use Rattle.text_commands.specs.Decoding.IsLineOfFrame.{line_of_hello, line_of_call}
use Rattle.text_commands.specs.Decoding.IsFaultOfFrame.{no_method, in_payload}
use Rattle.text_commands.specs.Decoding.IsCutAt.{in_frame, in_header, in_short_frame}
use Rattle.text_commands.specs.Laws.{MeaningLaw}
use Rattle.text_commands.proofs.DecodeAnswers.{no_fault_in, no_fault_in_front, behind, next}

-- ---- lines

one_line : MeaningLaw → (T : Table) (f : Frame) (a b : List ℕ) → IsLineOfFrame T f a → IsLineOfFrame T f b → a ≡ b
one_line law T f a b (line_of_hello kind is) (line_of_hello kind' is') = is ∙ sym is'
one_line law T f a b (line_of_hello kind is) (line_of_call u other known means is') = absurd (other kind)
one_line law T f a b (line_of_call t other known means is) (line_of_hello kind is') = absurd (other kind)
one_line law T f a b (line_of_call t other known means is) (line_of_call u other' known' means' is') =
    let same : t ≡ u = law.meaning_is_unique T (payload_message T f) f.payload t u means means' in
    is ∙ ap (λ (n : Node). call_line f (encoding T (payload_message T f) n)) same ∙ sym is'

one_text : MeaningLaw → (T : Table) (fs : List Frame) (a b : List ℕ) → AreLinesOf T fs a → AreLinesOf T fs b → a ≡ b
one_text law T [] a b h k = h ∙ sym k
one_text law T (f ∷ fs) a b h k =
    let first = one_line law T f h.0 k.0 h.2 k.2 in
    let rest = one_text law T fs h.1 k.1 h.3 k.3 in
    h.4 ∙ (λ i. first i ++ rest i) ∙ sym k.4

text_of : MeaningLaw → (T : Table) (fs gs : List Frame) (a b : List ℕ) → fs ≡ gs → AreLinesOf T fs a → AreLinesOf T gs b → a ≡ b
text_of law T fs gs a b same h k = one_text law T gs a b (subst (λ (hs : List Frame). AreLinesOf T hs a) same h) k

pub one_decoded : MeaningLaw → (T : Table) (stream a b : List ℕ) → IsDecoded T stream a → IsDecoded T stream b → a ≡ b
one_decoded law T stream a b d e = text_of law T d.frames e.frames a b (law.frames.split_is_unique 0 stream d.frames e.frames [] [] d.splits e.splits).0 d.lines e.lines

-- ---- a stream with a fault

-- one frame is the first at fault
one_faulty : MeaningLaw → (T : Table) (start : ℕ) (stream a b : List ℕ) (fs gs : List Frame) (f g : Frame) (p q : ℕ) (w v : List ℕ)
    → AreFirstFrames start stream (fs ++ f ∷ []) → AreLinesOf T fs a → IsFaultOfFrame T f p w
    → AreFirstFrames start stream (gs ++ g ∷ []) → AreLinesOf T gs b → IsFaultOfFrame T g q v → (fs ≡ gs) × (f ≡ g)
one_faulty law T start stream a b [] [] f g p q w v s h m s' k n = (refl, (next law start stream f g [] [] s s').0)
one_faulty law T start stream a b [] (l ∷ ls) f g p q w v s h m s' k n =
    let same : f ≡ l = (next law start stream f l [] (ls ++ g ∷ []) s s').0 in
    absurd (no_fault_in law T l k.0 p w k.2 (subst (λ (x : Frame). IsFaultOfFrame T x p w) same m))
one_faulty law T start stream a b (l ∷ ls) [] f g p q w v s h m s' k n =
    let same : l ≡ g = (next law start stream l g (ls ++ f ∷ []) [] s s').0 in
    absurd (no_fault_in law T l h.0 q v h.2 (subst (λ (x : Frame). IsFaultOfFrame T x q v) (sym same) n))
one_faulty law T start stream a b (l ∷ ls) (r ∷ rs) f g p q w v s h m s' k n =
    let on = next law start stream l r (ls ++ f ∷ []) (rs ++ g ∷ []) s s' in
    let others = one_faulty law T (start + length (bytes_of_frame l)) (concat_frames (ls ++ f ∷ []) ++ s.more) h.1 k.1 ls rs f g p q w v (behind start stream l (ls ++ f ∷ []) s) h.3 m on.1 k.3 n in
    ((λ i. on.0 i ∷ others.0 i), others.1)

one_place : MeaningLaw → (T : Table) (f : Frame) (p q : ℕ) (w v : List ℕ) → IsFaultOfFrame T f p w → IsFaultOfFrame T f q v → (p ≡ q) × (w ≡ v)
one_place law T f p q w v (no_method other lacks at is) (no_method other' lacks' at' is') = (at ∙ sym at', is ∙ sym is')
one_place law T f p q w v (no_method other lacks at is) (in_payload reason place other' known first at' is') = absurd (omega (arith, lacks, known))
one_place law T f p q w v (in_payload reason place other known first at is) (no_method other' lacks at' is') = absurd (omega (arith, lacks, known))
one_place law T f p q w v (in_payload reason place other known first at is) (in_payload why there other' known' first' at' is') =
    let same = law.fault_is_unique T (payload_message T f) f.payload reason why place there first first' in
    (at ∙ ap (λ (n : ℕ). f.place + 16 + n) same.1 ∙ sym at', is ∙ ap decode_reason_word same.0 ∙ sym is')

one_header : (fault : FeedFault) (p q : ℕ) (w v : List ℕ) → IsFaultOfHeader fault p w → IsFaultOfHeader fault q v → (p ≡ q) × (w ≡ v)
one_header (Version at value) p q w v h k = (h.0 ∙ sym k.0, h.1 ∙ sym k.1)
one_header (Kind at value) p q w v h k = (h.0 ∙ sym k.0, h.1 ∙ sym k.1)
one_header (TooLong at value) p q w v h k = (h.0 ∙ sym k.0, h.1 ∙ sym k.1)
one_header Memory p q w v h k = absurd h

-- after the whole frames there is one fault of a header, or none
one_behind : MeaningLaw → (start : ℕ) (stream : List ℕ) (fs gs : List Frame) (rest more : List ℕ) (fault other : Option FeedFault)
    → IsSplitOf start stream fs rest → HasHeaderFault (start + length (concat_frames fs)) rest fault
    → IsSplitOf start stream gs more → HasHeaderFault (start + length (concat_frames gs)) more other → (fs ≡ gs) × (fault ≡ other)
one_behind law start stream fs gs rest more fault other s first s' first' = (
  (law.frames.split_is_unique start stream fs gs rest more s s').0,
  law.frames.ends_once start stream fault other
      (record { frames = fs; rest = rest; splits = s; first = first })
      (record { frames = gs; rest = more; splits = s'; first = first' }),
)

header_or_short : (fault : FeedFault) → Some fault ≡ None → ⊥
header_or_short fault clash = absurd cc

pub one_cut : MeaningLaw → (T : Table) (start : ℕ) (stream a b : List ℕ) (p q : ℕ) (w v : List ℕ)
    → IsCutAt T start stream a p w → IsCutAt T start stream b q v → (p ≡ q) × (w ≡ v) × (a ≡ b)
one_cut law T start stream a b p q w v (in_frame fs f s h m) (in_frame gs g s' k n) =
    let same = one_faulty law T start stream a b fs gs f g p q w v s h m s' k n in
    let one = one_place law T g p q w v (subst (λ (x : Frame). IsFaultOfFrame T x p w) same.1 m) n in
    (one.0, one.1, text_of law T fs gs a b same.0 h k)
one_cut law T start stream a b p q w v (in_frame fs f s h m) (in_header gs rest fault s' k first is) = absurd (no_fault_in_front law T start stream b gs fs rest f p w s' k s m)
one_cut law T start stream a b p q w v (in_frame fs f s h m) (in_short_frame gs rest s' k clean some at is) = absurd (no_fault_in_front law T start stream b gs fs rest f p w s' k s m)
one_cut law T start stream a b p q w v (in_header fs rest fault s h first is) (in_frame gs g s' k n) = absurd (no_fault_in_front law T start stream a fs gs rest g q v s h s' n)
one_cut law T start stream a b p q w v (in_header fs rest fault s h first is) (in_header gs more other s' k first' is') =
    let same = one_behind law start stream fs gs rest more (Some fault) (Some other) s first s' first' in
    let one = one_header other p q w v (subst (λ (x : FeedFault). IsFaultOfHeader x p w) (same_Some fault other same.1) is) is' in
    (one.0, one.1, text_of law T fs gs a b same.0 h k)
one_cut law T start stream a b p q w v (in_header fs rest fault s h first is) (in_short_frame gs more s' k clean some at is') =
    absurd (header_or_short fault (one_behind law start stream fs gs rest more (Some fault) None s first s' clean).1)
one_cut law T start stream a b p q w v (in_short_frame fs rest s h clean some at is) (in_frame gs g s' k n) = absurd (no_fault_in_front law T start stream a fs gs rest g q v s h s' n)
one_cut law T start stream a b p q w v (in_short_frame fs rest s h clean some at is) (in_header gs more fault s' k first is') =
    absurd (header_or_short fault (sym (one_behind law start stream fs gs rest more None (Some fault) s clean s' first).1))
one_cut law T start stream a b p q w v (in_short_frame fs rest s h clean some at is) (in_short_frame gs more s' k clean' some' at' is') =
    let same = (law.frames.split_is_unique start stream fs gs rest more s s').0 in
    (at ∙ ap (λ (hs : List Frame). start + length (concat_frames hs)) same ∙ sym at', is ∙ sym is', text_of law T fs gs a b same h k)
