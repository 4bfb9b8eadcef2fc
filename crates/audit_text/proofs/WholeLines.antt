-- Lines with their line feeds, and their words.
use Rattle.std.proofs.Common.{◌≡◌, ◌≢◌, ℕ, List, [], ◌∷◌, ◌++◌, refl, ap, sym, ◌∙◌, Some, None, Option, Ok, Err, Result}
use Rattle.std.specs.Prelude.{IfOk, IfSome}
use Rattle.std.proofs.lemmas.List.Splits.{join_with_byte-slice_split}
use Rattle.mrpc_table.specs.Lines.{words_of}
use Rattle.mrpc_table.specs.Text.{spaced}
use Rattle.mrpc_table.specs.Valid.{IsValid}
use Rattle.mrpc_table.specs.declared.memory.Memory.{Memory}
use Rattle.mrpc_table.specs.declared.table.Table.{Table}
use Rattle.call_history.specs.declared.happening.ConnectionEvent.{ConnectionEvent}
use Rattle.policy_declarations.specs.Declarations.{Declared}
use Rattle.audit_text.specs.Lines.{IsSplitInto, audit_line, happening_words, stands_words, stands_line}
use Rattle.audit_text.specs.Writable.{IsWritablePendingCall, IsWritable}
use Rattle.audit_text.specs.declared.holding.Holding.{Holding}
use Rattle.audit_text.specs.LineWords.{line_words}
use Rattle.audit_text.specs.Reading.{IsExactReading}
use Rattle.audit_text.specs.LineBytes.{IsWritableLine, bytes_of_line}
use Rattle.audit_text.specs.declared.line.AuditLine.{AuditLine}
use Rattle.audit_text.specs.declared.line.AuditLine.TheVariants as lines

-- what the laws of the text state
abbrev pub OneHappening : Type 0
OneHappening = (T : Table) (declared : Declared) (x y : ConnectionEvent) (a b : List ℕ) → IsValid T → IsWritable T declared x
    → IsWritable T declared y → audit_line T x ++ a ≡ audit_line T y ++ b → (x ≡ y) × (a ≡ b)

abbrev pub Apart : Type 0
Apart = (T : Table) (x : ConnectionEvent) (conn seq position : ℕ) (name : List ℕ) (holding : Option Holding) → stands_line conn seq position name holding ≢ audit_line T x

abbrev pub OneStanding : Type 0
OneStanding = (conn seq position conn' seq' position' : ℕ) (name name' : List ℕ) (holding holding' : Option Holding)
    → IsWritablePendingCall conn seq position name holding → IsWritablePendingCall conn' seq' position' name' holding'
    → stands_line conn seq position name holding ≡ stands_line conn' seq' position' name' holding'
    → (conn ≡ conn') × (seq ≡ seq') × (position ≡ position') × (name ≡ name') × (holding ≡ holding')

abbrev pub CutHappening : Type 0
CutHappening = (T : Table) (declared : Declared) (x : ConnectionEvent) → IsValid T → IsWritable T declared x → IsSplitInto (happening_words T x.conn x.what)

abbrev pub CutStanding : Type 0
CutStanding = (conn seq position : ℕ) (name : List ℕ) (holding : Option Holding)
    → IsWritablePendingCall conn seq position name holding → IsSplitInto (stands_words conn seq position name holding)

pub bytes-line : (T : Table) (x : AuditLine) → bytes_of_line T x ≡ spaced (line_words T x) ++ 10 ∷ []
bytes-line T (lines.Happened x) = refl
bytes-line T (lines.Stands conn seq position name holding) = refl

cut-of : CutHappening → CutStanding → (T : Table) → IsValid T → (declared : Declared) (x : AuditLine)
    → IsWritableLine T declared x → words_of (spaced (line_words T x)) ≡ line_words T x
cut-of happening standing T valid declared (lines.Happened x) h = (happening T declared x valid h).cut
cut-of happening standing T valid declared (lines.Stands conn seq position name holding) h = (standing conn seq position name holding h).cut

line-same : OneHappening → Apart → OneStanding → (T : Table) → IsValid T → (declared : Declared) (x y : AuditLine)
    → IsWritableLine T declared x → IsWritableLine T declared y → bytes_of_line T x ≡ bytes_of_line T y → x ≡ y
line-same one apart stands T valid declared (lines.Happened x) (lines.Happened y) h k e =
    ap lines.Happened (one T declared x y [] [] valid h k (ap (λ l. l ++ []) e)).0
line-same one apart stands T valid declared (lines.Happened x) (lines.Stands conn seq position name holding) h k e = absurd (apart T x conn seq position name holding (sym e))
line-same one apart stands T valid declared (lines.Stands conn seq position name holding) (lines.Happened x) h k e = absurd (apart T x conn seq position name holding e)
line-same one apart stands T valid declared (lines.Stands conn seq position name holding) (lines.Stands conn' seq' position' name' holding') h k e =
    let same = stands conn seq position conn' seq' position' name name' holding holding' h k e in cc (same.0, same.1, same.2, same.3, same.4)

-- a list without its last element
abbrev front : List ℕ → List ℕ
front [] = []
front (x ∷ []) = []
front (x ∷ y ∷ l) = x ∷ front (y ∷ l)

front-of : (a : List ℕ) → front (a ++ 10 ∷ []) ≡ a
front-of [] = refl
front-of (x ∷ []) = refl
front-of (x ∷ y ∷ a) = ap (λ l. x ∷ l) (front-of (y ∷ a))

front-same : (a b : List ℕ) → a ++ 10 ∷ [] ≡ b ++ 10 ∷ [] → a ≡ b
front-same a b e = sym (front-of a) ∙ ap front e ∙ front-of b

text-words : (text : List ℕ) → text ≡ spaced (words_of text)
text-words text = sym (join_with_byte-slice_split 32 text)

pub bytes-told : (T : Table) (all text : List ℕ) (x : AuditLine) → all ≡ text ++ 10 ∷ [] → words_of text ≡ line_words T x → all ≡ bytes_of_line T x
bytes-told T all text x is e = is ∙ ap (λ l. l ++ 10 ∷ []) (text-words text ∙ ap spaced e) ∙ sym (bytes-line T x)

pub whole-told : (T : Table) (declared : Declared) (all text : List ℕ) (r : Result (Option AuditLine) Memory)
    → all ≡ text ++ 10 ∷ [] → IsExactReading (IsWritableLine T declared) (line_words T) (words_of text) r
    → IfOk r (λ r. IfSome r (λ x. all ≡ bytes_of_line T x))
whole-told T declared all text (Ok (Some x)) is h = bytes-told T all text x is h.1
whole-told T declared all text (Ok None) is h = tt
whole-told T declared all text (Err e) is h = tt

pub whole-only : CutHappening → CutStanding → OneHappening → Apart → OneStanding → (T : Table) → IsValid T
    → (declared : Declared) (all text : List ℕ) (r : Result (Option AuditLine) Memory) → all ≡ text ++ 10 ∷ []
    → IsExactReading (IsWritableLine T declared) (line_words T) (words_of text) r
    → (x : AuditLine) → IsWritableLine T declared x → all ≡ bytes_of_line T x → IfOk r (λ r. r ≡ Some x)
whole-only happening standing one apart stands T valid declared all text (Ok (Some y)) is h x holds e =
    ap (λ z. Some z) (line-same one apart stands T valid declared y x h.0 holds (sym (bytes-told T all text y is h.1) ∙ e))
whole-only happening standing one apart stands T valid declared all text (Ok None) is h x holds e =
    let front : text ≡ spaced (line_words T x) = front-same text (spaced (line_words T x)) (sym is ∙ e ∙ bytes-line T x) in
    absurd (h x holds (ap words_of front ∙ cut-of happening standing T valid declared x holds))
whole-only happening standing one apart stands T valid declared all text (Err m) is h x holds e = tt
