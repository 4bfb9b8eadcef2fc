-- A word with the digits of an encoding, as the whole remainder.
use Rattle.std.proofs.Common.{◌≡◌, ℕ, List, [], ◌∷◌, ap, sym, ◌∙◌, Some, None, Option, Ok, Err}
use Rattle.std.specs.Prelude.{Result}
use Rattle.std.specs.List.{join_with_byte}
use Rattle.std.proofs.lemmas.List.Splits.{join_with_byte-slice_split}
use Rattle.hex.specs.Hex.{IsBytes}
use Rattle.mrpc_table.specs.Lines.{words_of}
use Rattle.mrpc_table.specs.Node.{Node}
use Rattle.mrpc_table.specs.Valid.{IsValid}
use Rattle.mrpc_table.specs.declared.memory.Memory.{Memory}
use Rattle.mrpc_table.specs.declared.table.Table.{Table}
use Rattle.wire_base.specs.Encoding.{encoding}
use Rattle.audit_text.specs.Copies.{HasShortEncoding}
use Rattle.audit_text.specs.Lines.{WordList, hex_word}
use Rattle.audit_text.specs.Reading.{IsExactReading}
use Rattle.audit_text.proofs.Bytes.{bytes-each}
use Rattle.audit_text.proofs.Digits.{digits-tell}
use Rattle.audit_text.proofs.EncodedBytes.{encoding-bytes}
use Rattle.audit_text.proofs.Telling.{hex-word}
use Rattle.audit_text.proofs.Words.{cut-none}

abbrev pub ReadsTree : Table → ℕ → WordList → Result (Option Node) Memory → Type 0
ReadsTree T msg words r = IsExactReading (HasShortEncoding T msg) (λ t. hex_word (encoding T msg t) ∷ []) words r

hex-cut : (T : Table) → IsValid T → (msg : ℕ) (t : Node) → HasShortEncoding T msg t → words_of (hex_word (encoding T msg t)) ≡ hex_word (encoding T msg t) ∷ []
hex-cut T valid msg t h = cut-none 32 (hex_word (encoding T msg t)) (hex-word (encoding T msg t) (encoding-bytes T msg t valid h.normal h.short))

first-same : (x y : List ℕ) → ◌≡◌ {A = WordList} (x ∷ []) (y ∷ []) → x ≡ y
first-same x y e = cc

-- a space is no digit, so a remainder that spells an encoding is one word
pub read-alone : (T : Table) → IsValid T → (msg : ℕ) (text : List ℕ) (r : Result (Option Node) Memory) → ReadsTree T msg (text ∷ []) r → ReadsTree T msg (words_of text) r
read-alone T valid msg text (Ok (Some t)) h = (h.0, ap words_of (first-same text (hex_word (encoding T msg t)) h.1) ∙ hex-cut T valid msg t h.0)
read-alone T valid msg text (Ok None) none = λ t holds e.
    let digits = hex_word (encoding T msg t) in
    let same : text ≡ digits = sym (join_with_byte-slice_split 32 text) ∙ ap (join_with_byte 32) (e ∙ sym (hex-cut T valid msg t holds)) ∙ join_with_byte-slice_split 32 digits in
    none t holds (ap (λ (w : List ℕ). w ∷ []) same)
read-alone T valid msg text (Err fault) h = tt

-- ---- the bytes of a word

abbrev pub ReadsBytes : Table → ℕ → List ℕ → Result (Option Node) Memory → Type 0
ReadsBytes T msg bytes r = IsExactReading (HasShortEncoding T msg) (λ t. encoding T msg t ∷ []) (bytes ∷ []) r

-- a word is read as the bytes of its digits are
pub by-bytes : (T : Table) → IsValid T → (msg : ℕ) (word bytes : List ℕ) (r : Result (Option Node) Memory) → IsBytes bytes → word ≡ hex_word bytes
    → ReadsBytes T msg bytes r → ReadsTree T msg (word ∷ []) r
by-bytes T valid msg word bytes (Ok (Some t)) are is h =
    (h.0, ap (λ (w : List ℕ). w ∷ []) (is ∙ ap hex_word (first-same bytes (encoding T msg t) h.1)))
by-bytes T valid msg word bytes (Ok None) are is none = λ t holds e.
    let digits : hex_word bytes ≡ hex_word (encoding T msg t) = sym is ∙ first-same word (hex_word (encoding T msg t)) e in
    let other = bytes-each (encoding T msg t) (encoding-bytes T msg t valid holds.normal holds.short) in
    none t holds (ap (λ (b : List ℕ). b ∷ []) (digits-tell bytes (encoding T msg t) are other digits))
by-bytes T valid msg word bytes (Err fault) are is h = tt

-- a word that spells no bytes has no message
pub spells-nothing : (T : Table) → IsValid T → (msg : ℕ) (word : List ℕ) → ((bytes : List ℕ) → IsBytes bytes → word ≡ hex_word bytes → ⊥)
    → ReadsTree T msg (word ∷ []) (Ok None)
spells-nothing T valid msg word none = λ t holds e.
    let bytes = encoding T msg t in
    none bytes (bytes-each bytes (encoding-bytes T msg t valid holds.normal holds.short)) (first-same word (hex_word bytes) e)
