-- A line at the start of a text.
use Rattle.std.proofs.Common.{◌≡◌, ℕ, List, [], ◌∷◌, ◌++◌, refl, ap, sym, ◌∙◌, append_assoc}
use Rattle.std.specs.Fmt.{decimal}
use Rattle.mrpc_table.specs.Text.{line, spaced}
use Rattle.mrpc_table.specs.declared.table.Table.{Table}
use Rattle.call_history.specs.declared.happening.Happening.{Happening}
use Rattle.call_history.specs.declared.happening.Happening.TheVariants.{Charged, Counted, Drawn, Sent}
use Rattle.audit_text.specs.HappeningRefs.{event_of_ref}
use Rattle.audit_text.specs.Prefixes.{line_with_remainder}
use Rattle.audit_text.specs.LineWords.{line_kind_of, kind_word, tail_words}
use Rattle.audit_text.specs.Lines.{WordList, audit_line}
use Rattle.audit_text.specs.declared.short_line.HappeningRef.{HappeningRef}
use Rattle.audit_text.specs.declared.short_line.HappeningRef.TheVariants as briefs
use Rattle.audit_text.specs.declared.event_words.LineKind.{LineKind}
use Rattle.audit_text.proofs.LineParts.{told-words}

-- words and a line feed are their line
fed-line : (w : List ℕ) (ws : WordList) (rest : List ℕ) → line_with_remainder (w ∷ ws) rest ≡ line (w ∷ ws) ++ rest
fed-line w [] rest = sym (append_assoc w (10 ∷ []) rest)
fed-line w (v ∷ ws) rest =
    ap (λ l. w ++ 32 ∷ l) (fed-line v ws rest)
    ∙ sym (append_assoc w (32 ∷ line (v ∷ ws)) rest)
    ∙ ap (λ l. l ++ rest) (sym (append_assoc w (32 ∷ spaced (v ∷ ws)) (10 ∷ [])))

-- the word of a kind, a connection, and the words after it are the line of an event
line-told : (T : Table) (conn : ℕ) (kind : LineKind) (x : Happening) (w : List ℕ) (ws : WordList) (text at behind rest : List ℕ) → line_kind_of x ≡ kind
    → tail_words T x ≡ w ∷ ws → text ≡ kind_word kind ++ 32 ∷ at → at ≡ decimal conn ++ 32 ∷ behind
    → behind ≡ line_with_remainder (tail_words T x) rest → text ≡ audit_line T (record { conn = conn; what = x }) ++ rest
line-told T conn kind x w ws text at behind rest is tail e f g =
    e
    ∙ ap (λ l. kind_word kind ++ 32 ∷ l) (f ∙ ap (λ l. decimal conn ++ 32 ∷ l) (g ∙ ap (λ words. line_with_remainder words rest) tail))
    ∙ fed-line (kind_word kind) (decimal conn ∷ w ∷ ws) rest
    ∙ ap (λ words. line (kind_word kind ∷ decimal conn ∷ words) ++ rest) (sym tail)
    ∙ ap (λ k. line (kind_word k ∷ decimal conn ∷ tail_words T x) ++ rest) (sym is)
    ∙ ap (λ words. line words ++ rest) (sym (told-words T conn x))

pub brief-told : (T : Table) (conn : ℕ) (kind : LineKind) (b : HappeningRef) (text at behind rest : List ℕ) → line_kind_of (event_of_ref b) ≡ kind
    → text ≡ kind_word kind ++ 32 ∷ at → at ≡ decimal conn ++ 32 ∷ behind → behind ≡ line_with_remainder (tail_words T (event_of_ref b)) rest
    → text ≡ audit_line T (record { conn = conn; what = event_of_ref b }) ++ rest
brief-told T conn kind (briefs.Charged seq name level) text at behind rest is e f g =
    line-told T conn kind (Charged seq name.now level) (decimal seq) (name.now ∷ decimal level ∷ []) text at behind rest is refl e f g
brief-told T conn kind (briefs.Drawn seq name window ticket) text at behind rest is e f g =
    line-told T conn kind (Drawn seq name.now window ticket) (decimal seq) (name.now ∷ decimal window ∷ decimal ticket ∷ []) text at behind rest is refl e f g
brief-told T conn kind (briefs.Counted seq name) text at behind rest is e f g =
    line-told T conn kind (Counted seq name.now) (decimal seq) (name.now ∷ []) text at behind rest is refl e f g
brief-told T conn kind (briefs.Sent seq bytes) text at behind rest is e f g =
    line-told T conn kind (Sent seq bytes) (decimal seq) (decimal bytes ∷ []) text at behind rest is refl e f g
