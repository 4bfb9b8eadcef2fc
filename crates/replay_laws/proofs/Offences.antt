-- Each word of a role is invalid or valid, and an invalid word has a first reason.
use Rattle.std.proofs.Common.{◌≡◌, ◌≢◌, ◌⊎◌, inl, inr, ℕ, ◌+◌, ◌*◌, ◌/◌, ◌<◌, ◌≤◌, ◌^◌, ◌==◌, Bool, true, false, cond}
use Rattle.std.proofs.Common.{List, ◌++◌, take, refl, sym, ap, ◌∙◌, subst, arith}
use Rattle.std.specs.Prelude.{IsTrue, Option, Some, None}
use Rattle.std.specs.Str.{IsUtf8, is_utf8}
use Rattle.std.proofs.lemmas.Bool.{cases_lt, cases_eq, true≢false}
use Rattle.std.proofs.lemmas.Str.{IsUtf8-from_is_utf8, is_utf8-from_IsUtf8}
use Rattle.mrpc_table.specs.Normal.{field_at}
use Rattle.mrpc_table.specs.Words.{IsSigned32, IsWordForm}
use Rattle.mrpc_table.specs.declared.limits.TheConstants.{MAX_DEPTH}
use Rattle.mrpc_table.specs.declared.table.Field.{Field}
use Rattle.mrpc_table.specs.declared.table.Kind.{Kind}
use Rattle.mrpc_table.specs.declared.table.Kind.TheVariants.{Int32, Int64, Uint32, Uint64, Sint32, Sint64}
use Rattle.mrpc_table.specs.declared.table.Kind.TheVariants.{Bool as TheBool, Fixed32, Fixed64, Sfixed32, Sfixed64}
use Rattle.mrpc_table.specs.declared.table.Kind.TheVariants.{Float, Double, Text, Octets, Message, Choice}
use Rattle.mrpc_table.specs.declared.table.Label.{Label}
use Rattle.mrpc_table.specs.declared.table.Label.TheVariants.{Plain, Optional, Repeated, Packed, Map, Member}
use Rattle.mrpc_table.specs.declared.table.Table.{Table}
use Rattle.graph_form.specs.declared.reason.Reason.{Reason}
use Rattle.graph_form.specs.declared.reason.Reason.TheVariants.{Address, Presence, Case, Length, Utf8, Narrow, Depth, Loads, NoMethod}
use Rattle.graph_form.specs.Roles.{WordRole, value, presence, run_length, run_presence, run_address, run_word, link}
use Rattle.graph_form.specs.Roles.{count, elements_address, entry_count, entries_address, case_word, element_words}
use Rattle.graph_form.specs.Roles.{run_words, size_words, word_bytes}
use Rattle.graph_form.specs.Placed.{IsSpanInHeap, IsInvalidWord, IsValidWord}
use Rattle.graph_form.specs.Malformed.{IsInvalidFirst, reason_rank}

-- ---- decidable facts

abbrev pub Holds : Type 0 → Type 0
Holds P = P ⊎ (P → ⊥)

both : (P Q : Type 0) → Holds P → Holds Q → Holds (P × Q)
both P Q (inl p) (inl q) = inl (p, q)
both P Q (inl p) (inr never) = inr (λ h. never h.1)
both P Q (inr never) q = inr (λ h. never h.0)

either : (P Q : Type 0) → Holds P → Holds Q → Holds (P ⊎ Q)
either P Q (inl p) q = inl (inl p)
either P Q (inr never) (inl q) = inl (inr q)
either P Q (inr never) (inr not) = inr (λ h. elim h [ inl p ↦ never p | inr q ↦ not q ])

other : (P : Type 0) → Holds P → Holds (P → ⊥)
other P (inl p) = inr (λ never. never p)
other P (inr never) = inl never

pub below : (a b : ℕ) → Holds (a < b)
below a b = elim (cases_lt a b) [ inl lt ↦ inl lt | inr le ↦ inr (λ (lt : a < b). absurd (omega arith)) ]

pub up-to : (a b : ℕ) → Holds (a ≤ b)
up-to a b = elim (cases_lt b a) [ inl lt ↦ inr (λ (le : a ≤ b). absurd (omega arith)) | inr le ↦ inl le ]

-- ---- words

signed-holds : (n : ℕ) → Holds (IsSigned32 n)
signed-holds n = either (n < 2 ^ 31) ((2 ^ 64 ≤ n + 2 ^ 31) × (n < 2 ^ 64)) (below n (2 ^ 31)) (both (2 ^ 64 ≤ n + 2 ^ 31) (n < 2 ^ 64) (up-to (2 ^ 64) (n + 2 ^ 31)) (below n (2 ^ 64)))

form-holds : (k : Kind) (n : ℕ) → Holds (IsWordForm k n)
form-holds Int32 n = signed-holds n
form-holds Sint32 n = signed-holds n
form-holds Sfixed32 n = signed-holds n
form-holds (Choice i) n = signed-holds n
form-holds Int64 n = below n (2 ^ 64)
form-holds Sint64 n = below n (2 ^ 64)
form-holds Uint64 n = below n (2 ^ 64)
form-holds Fixed64 n = below n (2 ^ 64)
form-holds Sfixed64 n = below n (2 ^ 64)
form-holds Double n = below n (2 ^ 64)
form-holds Uint32 n = below n (2 ^ 32)
form-holds Fixed32 n = below n (2 ^ 32)
form-holds Float n = below n (2 ^ 32)
form-holds TheBool n = below n 2
form-holds Text n = inr (λ h. h)
form-holds Octets n = inr (λ h. h)
form-holds (Message i) n = inr (λ h. h)

utf8-by : (bytes : List ℕ) (b : Bool) → is_utf8 bytes ≡ b → Holds (IsUtf8 bytes)
utf8-by bytes true is = inl (IsUtf8-from_is_utf8 bytes is)
utf8-by bytes false is = inr (λ utf8. true≢false (sym (is_utf8-from_IsUtf8 bytes utf8) ∙ is))

pub lies-holds : (H place words : ℕ) → Holds (IsSpanInHeap H place words)
lies-holds H place words = elim (both (1 ≤ place) (place + words ≤ H) (up-to 1 place) (up-to (place + words) H)) [
  | inl h ↦ inl (record { from_one = h.0; to_end = h.1 })
  | inr never ↦ inr (λ lies. never (lies.from_one, lies.to_end))
]

-- ---- members of a oneof

abbrev IsNoMember : List Field → ℕ → ℕ → Type 0
IsNoMember fs oneof v = (f : Field) → field_at fs v ≡ Some f → f.label ≡ Member oneof → ⊥

same-field : (f g : Field) → Some f ≡ Some g → f ≡ g
same-field f g e = cc

label-holds : (oneof : ℕ) (l : Label) → Holds (l ≡ Member oneof)
label-holds oneof Plain = inr (λ e. cc)
label-holds oneof Optional = inr (λ e. cc)
label-holds oneof Repeated = inr (λ e. cc)
label-holds oneof Packed = inr (λ e. cc)
label-holds oneof (Map key) = inr (λ e. cc)
label-holds oneof (Member o) = elim (cases_eq o oneof) [
  | inl same ↦ inl (ap (λ n. Member n) same)
  | inr never ↦ inr (λ (e : Member o ≡ Member oneof). never cc)
]

member-by : (fs : List Field) (oneof v : ℕ) (found : Option Field) → field_at fs v ≡ found → Holds (IsNoMember fs oneof v)
member-by fs oneof v None is = inl (λ f at label. let never : None ≡ Some f = sym is ∙ at in absurd cc)
member-by fs oneof v (Some g) is = elim (label-holds oneof g.label) [
  | inl own ↦ inr (λ never. never g is own)
  | inr not ↦ inl (λ f at label. not (ap (λ (h : Field). h.label) (same-field g f (sym is ∙ at)) ∙ label))
]

needed-holds : (b : Bool) → Holds (IsTrue b)
needed-holds true = inl refl
needed-holds false = inr (λ h. true≢false (sym h))

not-zero : (v : ℕ) → Holds (v ≢ 0)
not-zero v = elim (cases_eq v 0) [ inl same ↦ inr (λ never. never same) | inr never ↦ inl never ]

-- ---- reasons

abbrev Offence : Table → ℕ → WordRole → ℕ → Reason → Type 0
Offence T H role v reason = Holds (IsInvalidWord T H role v reason)

module _ (T : Table) (H : ℕ) where
  none : Holds ⊥
  none = inr (λ h. h)

  text-utf8 : (k : Kind) (left : ℕ) (before : List ℕ) (v : ℕ) → Offence T H (run_word k left before) v Utf8
  text-utf8 Text left before v = both (left ≤ 8) (IsUtf8 (before ++ take left (word_bytes v)) → ⊥) (up-to left 8)
      (other (IsUtf8 (before ++ take left (word_bytes v))) (utf8-by (before ++ take left (word_bytes v)) (is_utf8 (before ++ take left (word_bytes v))) refl))
  text-utf8 k left before v = none

  offence : (role : WordRole) (v : ℕ) (reason : Reason) → Offence T H role v reason
  offence (value k) v Narrow = other (IsWordForm k v) (form-holds k v)
  offence (presence k) v Presence = below 1 v
  offence (run_length k) v Length = up-to H (run_words v)
  offence (run_presence k) v Length = up-to H ((v + 6) / 8)
  offence (run_address k bytes) v Address = other (IsSpanInHeap H v (run_words bytes)) (lies-holds H v (run_words bytes))
  offence (run_word k left before) v Narrow = both (left < 8) (2 ^ (8 * left) ≤ v) (below left 8) (up-to (2 ^ (8 * left)) v)
  offence (run_word k left before) v Utf8 = text-utf8 k left before v
  offence (link m depth needed) v Address =
      both ((v ≢ 0) ⊎ IsTrue needed) (IsSpanInHeap H v (size_words T m) → ⊥) (either (v ≢ 0) (IsTrue needed) (not-zero v) (needed-holds needed))
      (other (IsSpanInHeap H v (size_words T m)) (lies-holds H v (size_words T m)))
  offence (link m depth needed) v Depth = both (v ≢ 0) (MAX_DEPTH ≤ depth) (not-zero v) (up-to MAX_DEPTH depth)
  offence (count k depth) v Length = up-to H (v * element_words k)
  offence (elements_address k elements depth) v Address =
      other (IsSpanInHeap H v (elements * element_words k)) (lies-holds H v (elements * element_words k))
  offence (entry_count key k depth) v Length = up-to H (4 * v)
  offence (entries_address key k entries depth) v Address = other (IsSpanInHeap H v (4 * entries)) (lies-holds H v (4 * entries))
  offence (case_word fs oneof depth) v Case =
      both (v ≢ 0) (IsNoMember fs oneof v) (not-zero v) (member-by fs oneof v (field_at fs v) refl)
  offence role v reason = none

-- ---- the first reason

reason_at : ℕ → Reason
reason_at n = cond (n == 1) Presence (cond (n == 2) Case (cond (n == 3) Length (cond (n == 4) Narrow (cond (n == 5) Utf8
    (cond (n == 6) Address (cond (n == 7) Depth (cond (n == 8) Loads NoMethod)))))))

at-its-place : (q : Reason) → reason_at (reason_rank q) ≡ q
unfolding reason_at
at-its-place Presence = refl
at-its-place Case = refl
at-its-place Length = refl
at-its-place Narrow = refl
at-its-place Utf8 = refl
at-its-place Address = refl
at-its-place Depth = refl
at-its-place Loads = refl
at-its-place NoMethod = refl

from-one : (q : Reason) → 1 ≤ reason_rank q
from-one Presence = omega arith
from-one Case = omega arith
from-one Length = omega arith
from-one Narrow = omega arith
from-one Utf8 = omega arith
from-one Address = omega arith
from-one Depth = omega arith
from-one Loads = omega arith
from-one NoMethod = omega arith

to-nine : (q : Reason) → reason_rank q < 10
to-nine Presence = omega arith
to-nine Case = omega arith
to-nine Length = omega arith
to-nine Narrow = omega arith
to-nine Utf8 = omega arith
to-nine Address = omega arith
to-nine Depth = omega arith
to-nine Loads = omega arith
to-nine NoMethod = omega arith

module _ (P : Reason → Type 0) where
  abbrev NoneBelow : ℕ → Type 0
  NoneBelow n = (q : Reason) → reason_rank q < n → P q → ⊥

  abbrev IsFirst : Reason → Type 0
  IsFirst r = P r × ((q : Reason) → P q → reason_rank r ≤ reason_rank q)

  is-first : (r : Reason) → NoneBelow (reason_rank r) → P r → IsFirst r
  is-first r never p = (p, λ q x. elim (cases_lt (reason_rank q) (reason_rank r)) [ inl lt ↦ absurd (never q lt x) | inr le ↦ le ])

  none-further : (r : Reason) (n : ℕ) → reason_rank r ≡ n → NoneBelow n → (P r → ⊥) → NoneBelow (n + 1)
  none-further r n at never not q low p = elim (cases_lt (reason_rank q) n) [
    | inl lt ↦ never q lt p
    | inr le ↦
        let here : reason_rank q ≡ reason_rank r = omega arith in
        not (subst P (sym (at-its-place q) ∙ ap reason_at here ∙ at-its-place r) p)
  ]

  abbrev Told : Type 0
  Told = ((q : Reason) → P q → ⊥) ⊎ ((r : Reason) × IsFirst r)

  told-from : (r : Reason) (n : ℕ) → reason_rank r ≡ n → Holds (P r) → (NoneBelow (n + 1) → Told) → NoneBelow n → Told
  told-from r n at (inl p) others never = inr (r, is-first r (λ q low. never q (subst (λ m. reason_rank q < m) at low)) p)
  told-from r n at (inr not) others never = others (none-further r n at never not)

  first-of : ((q : Reason) → Holds (P q)) → Told
  first-of holds =
      told-from Presence 1 refl (holds Presence) (told-from Case 2 refl (holds Case) (told-from Length 3 refl (holds Length)
      (told-from Narrow 4 refl (holds Narrow) (told-from Utf8 5 refl (holds Utf8) (told-from Address 6 refl (holds Address)
      (told-from Depth 7 refl (holds Depth) (told-from Loads 8 refl (holds Loads) (told-from NoMethod 9 refl (holds NoMethod)
      (λ never. inl (λ q. never q (to-nine q)))))))))))
      (λ q low p. let least : 1 ≤ reason_rank q = from-one q in absurd (omega arith))

-- a word is valid, or has a first reason
abbrev pub IsJudged : Table → ℕ → WordRole → ℕ → Type 0
IsJudged T H role v = IsValidWord T H role v ⊎ ((reason : Reason) × IsInvalidFirst T H role v reason)

pub judged : (T : Table) (H : ℕ) (role : WordRole) (v : ℕ) → IsJudged T H role v
judged T H role v = elim (first-of (IsInvalidWord T H role v) (offence T H role v)) [
  | inl fine ↦ inl fine
  | inr found ↦ inr (found.0, record { offends = found.1.0; first = found.1.1 })
]
