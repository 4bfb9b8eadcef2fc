-- Header lines at the start of bytes.
use Rattle.std.proofs.Common.{◌≡◌, ◌≢◌, ℕ, ◌==◌, Bool, true, false, List, [], ◌∷◌, ◌++◌, length, take, drop, codes}
use Rattle.std.proofs.Common.{Option, Some, None, ◌⊎◌, inl, inr, refl, ap, sym, subst, ◌∙◌, arith, append_assoc}
use Rattle.std.specs.Prelude.{option_map}
use Rattle.std.specs.List.{AllByRecursion}
use Rattle.std.specs.Cmp.Lexicographic.{pointwise}
use Rattle.std.proofs.lemmas.Bool.Decides.{Decides-eqb}
use Rattle.std.proofs.lemmas.List.Elements.{recursion_from_All, All-from_recursion}
use Rattle.std.proofs.lemmas.Slice.Eq.{starts_is}
use Rattle.mrpc_table.specs.Lines.{number_of, in_64_bits}
use Rattle.mrpc_table.specs.declared.words.Decimal.{Decimal}
use Rattle.proto_set.specs.Bundle.{decimal_word, header_line, IsPathWord}
use Rattle.proto_set.specs.BundleFaults.{HasNoHeader}
use Rattle.proto_set.specs.ReaderParts.{HasHeader}
use Rattle.proto_set.proofs.Cuts.{Lacks, Lacks-append, cut_once, cut_nowhere, IsCut, cut_or_not}
use Rattle.proto_set.proofs.Decimals.{number_of-decimal_word, decimal_word-from, decimal_word-once, decimal_word-lacks}

-- ---- the parts of a header line

word_lacks_by : (word : List ℕ) → AllByRecursion (λ c. (c ≢ 32) × (c ≢ 10)) word → Lacks 32 word × Lacks 10 word
word_lacks_by [] h = (tt, tt)
word_lacks_by (c ∷ cs) h = let rest = word_lacks_by cs h.1 in ((h.0.0, rest.0), (h.0.1, rest.1))

pub word_lacks : (word : List ℕ) → IsPathWord word → Lacks 32 word × Lacks 10 word
word_lacks word w = word_lacks_by word (recursion_from_All (λ c. (c ≢ 32) × (c ≢ 10)) word w.bytes)

both_lacks : (word : List ℕ) → Lacks 32 word → Lacks 10 word → AllByRecursion (λ c. (c ≢ 32) × (c ≢ 10)) word
both_lacks [] h k = tt
both_lacks (c ∷ cs) h k = ((h.0, k.0), both_lacks cs h.1 k.1)

pub is_word : (word : List ℕ) → word ≢ [] → Lacks 32 word → Lacks 10 word → IsPathWord word
is_word word some h k = record { some = some; bytes = All-from_recursion (λ c. (c ≢ 32) × (c ≢ 10)) word (both_lacks word h k) }

-- the line after `file `, without its line feed
abbrev pub words : List ℕ → ℕ → List ℕ
words path size = path ++ 32 ∷ decimal_word size

pub header_line-behind : (path : List ℕ) (size : ℕ) (rest : List ℕ) → header_line path size ++ rest ≡ (codes "file " ++ words path size) ++ 10 ∷ rest
header_line-behind path size rest = append_assoc (codes "file " ++ words path size) (10 ∷ []) rest

words_lack : (path : List ℕ) (size : ℕ) → IsPathWord path → Lacks 10 (words path size)
words_lack path size w = Lacks-append 10 path (32 ∷ decimal_word size) (word_lacks path w).1 ((λ e. omega (arith, e)), decimal_word-lacks 10 size refl)

line_lacks : (path : List ℕ) (size : ℕ) → IsPathWord path → Lacks 10 (codes "file " ++ words path size)
line_lacks path size w = Lacks-append 10 (codes "file ") (words path size) (
  (λ e. omega (arith, e)),
  ((λ e. omega (arith, e)), ((λ e. omega (arith, e)), ((λ e. omega (arith, e)), ((λ e. omega (arith, e)), tt)))),
)
    (words_lack path size w)

-- bytes start with at most one header line
pub header_once : (path other : List ℕ) (size count : ℕ) (rest more : List ℕ) → IsPathWord path → IsPathWord other
    → header_line path size ++ rest ≡ header_line other count ++ more → (path ≡ other) × (size ≡ count) × (rest ≡ more)
header_once path other size count rest more w v e =
    let lines = cut_once 10 (codes "file " ++ words path size) (codes "file " ++ words other count) rest more (line_lacks path size w) (line_lacks other count v)
    (sym (header_line-behind path size rest) ∙ e ∙ header_line-behind other count more) in
    let same : words path size ≡ words other count = cc (lines.0) in
    let parts = cut_once 32 path other (decimal_word size) (decimal_word count) (word_lacks path w).0 (word_lacks other v).0 same in
    (parts.0, decimal_word-once size count parts.1, lines.1)

-- ---- from the parts of bytes to a header line

-- what a header line implies for the first line of the bytes
pub first_line_is : (bytes line behind path : List ℕ) (size : ℕ) (rest : List ℕ) → IsCut 10 bytes line behind → IsPathWord path
    → bytes ≡ header_line path size ++ rest → line ≡ codes "file " ++ words path size
first_line_is bytes line behind path size rest k w e =
    (cut_once 10 line (codes "file " ++ words path size) behind rest k.lacks (line_lacks path size w) (sym k.text_is ∙ e ∙ header_line-behind path size rest)).0

-- the words of a line after `file `
pub record AreWords (line words_in : List ℕ) : Type 0 where
  pub text_is : line ≡ codes "file " ++ words_in

drop_lacks : (c : ℕ) (front rest : List ℕ) → Lacks c (front ++ rest) → Lacks c rest
drop_lacks c [] rest h = h
drop_lacks c (x ∷ front) rest h = drop_lacks c front rest h.1

keep_lacks : (c : ℕ) (front rest : List ℕ) → Lacks c (front ++ rest) → Lacks c front
keep_lacks c [] rest h = tt
keep_lacks c (x ∷ front) rest h = (h.0, keep_lacks c front rest h.1)

pub words_are : (bytes line behind found path : List ℕ) (size : ℕ) (rest : List ℕ) → IsCut 10 bytes line behind → line ≡ codes "file " ++ found → IsPathWord path
    → bytes ≡ header_line path size ++ rest → found ≡ words path size
words_are bytes line behind found path size rest k is w e =
    let same : codes "file " ++ found ≡ codes "file " ++ words path size = sym is ∙ first_line_is bytes line behind path size rest k w e in
    cc (same)

-- the words, and so the path and its size
pub path_is : (found word digits path : List ℕ) (size : ℕ) → IsCut 32 found word digits → IsPathWord path
    → found ≡ words path size → (word ≡ path) × (digits ≡ decimal_word size)
path_is found word digits path size k w e = cut_once 32 word path digits (decimal_word size) k.lacks (word_lacks path w).0 (sym k.text_is ∙ e)

pub header_from : (bytes line behind found word digits : List ℕ) (size : ℕ) → IsCut 10 bytes line behind
    → line ≡ codes "file " ++ found → IsCut 32 found word digits → word ≢ []
    → number_of digits ≡ Some size → IsPathWord word × (bytes ≡ header_line word size ++ behind)
header_from bytes line behind found word digits size k is j some number =
    let digits_are : digits ≡ decimal_word size = decimal_word-from digits size number in
    let found_is : found ≡ words word size = j.text_is ∙ ap (λ (d : List ℕ). word ++ 32 ∷ d) digits_are in
    let line_is : line ≡ codes "file " ++ words word size = is ∙ ap (λ (f : List ℕ). codes "file " ++ f) found_is in
    let found_lacks : Lacks 10 found = drop_lacks 10 (codes "file ") found (subst (Lacks 10) is k.lacks) in
    let lacks : Lacks 10 word = keep_lacks 10 word (32 ∷ digits) (subst (Lacks 10) j.text_is found_lacks) in (
      is_word word some j.lacks lacks,
      k.text_is ∙ ap (λ (l : List ℕ). l ++ 10 ∷ behind) line_is ∙ sym (header_line-behind word size behind),
    )

-- ---- why the bytes start with no header line

pub none_without_feed : (bytes : List ℕ) → Lacks 10 bytes → HasNoHeader bytes
none_without_feed bytes h path size rest w e = cut_nowhere 10 bytes (codes "file " ++ words path size) rest h (e ∙ header_line-behind path size rest)

pub none_without_file : (bytes line behind : List ℕ) → IsCut 10 bytes line behind → ((found : List ℕ) → line ≡ codes "file " ++ found → ⊥) → HasNoHeader bytes
none_without_file bytes line behind k none path size rest w e = none (words path size) (first_line_is bytes line behind path size rest k w e)

pub none_without_space : (bytes line behind found : List ℕ) → IsCut 10 bytes line behind → line ≡ codes "file " ++ found → Lacks 32 found → HasNoHeader bytes
none_without_space bytes line behind found k is none path size rest w e =
    cut_nowhere 32 found path (decimal_word size) none (words_are bytes line behind found path size rest k is w e)

pub none_without_path : (bytes line behind found word digits : List ℕ) → IsCut 10 bytes line behind
    → line ≡ codes "file " ++ found → IsCut 32 found word digits → word ≡ [] → HasNoHeader bytes
none_without_path bytes line behind found word digits k is j none path size rest w e =
    w.some (sym (path_is found word digits path size j w (words_are bytes line behind found path size rest k is w e)).0 ∙ none)

pub none_without_number : (bytes line behind found word digits : List ℕ) → IsCut 10 bytes line behind
    → line ≡ codes "file " ++ found → IsCut 32 found word digits → number_of digits ≡ None → HasNoHeader bytes
none_without_number bytes line behind found word digits k is j none path size rest w e =
    let same = (path_is found word digits path size j w (words_are bytes line behind found path size rest k is w e)).1 in
    let read : Some size ≡ None = sym (number_of-decimal_word size) ∙ ap number_of (sym same) ∙ none in absurd cc

-- ---- the bytes start with a header line, or with none

pub record Header (bytes : List ℕ) : Type 0 where
  pub path : List ℕ
  pub size : ℕ
  pub behind : List ℕ
  pub word : IsPathWord path
  pub text : bytes ≡ header_line path size ++ behind

number_or_none : (digits : List ℕ) (o : Option ℕ) → number_of digits ≡ o → ((size : ℕ) × (number_of digits ≡ Some size)) ⊎ (number_of digits ≡ None)
number_or_none digits None e = inr e
number_or_none digits (Some size) e = inl (size, e)

header_behind : (bytes line behind found : List ℕ) → IsCut 10 bytes line behind → line ≡ codes "file " ++ found → Header bytes ⊎ HasNoHeader bytes
header_behind bytes line behind found k is = elim (cut_or_not 32 found) [
  | inr none ↦ inr (none_without_space bytes line behind found k is none)
  | inl parts ↦ in_parts parts.0 parts.1 parts.2
]
  where
    in_parts : (word digits : List ℕ) → IsCut 32 found word digits → Header bytes ⊎ HasNoHeader bytes
    in_parts [] digits j = inr (none_without_path bytes line behind found [] digits k is j refl)
    in_parts (c ∷ cs) digits j = elim (number_or_none digits (number_of digits) refl) [
      | inr none ↦ inr (none_without_number bytes line behind found (c ∷ cs) digits k is j none)
      | inl some ↦
          let h = header_from bytes line behind found (c ∷ cs) digits some.0 k is j (λ e. cc) some.1 in
          inl (record { path = c ∷ cs; size = some.0; behind = behind; word = h.0; text = h.1 })
    ]

pub header_or_none : (bytes : List ℕ) → Header bytes ⊎ HasNoHeader bytes
header_or_none bytes = elim (cut_or_not 10 bytes) [
  | inr none ↦ inr (none_without_feed bytes none)
  | inl cut ↦ in_line cut.0 cut.1 cut.2 (pointwise (λ a b. a == b) (codes "file ") (take (length (codes "file ")) cut.0)) refl
]
  where
    in_line : (line behind : List ℕ) → IsCut 10 bytes line behind → (b : Bool)
        → b ≡ pointwise (λ a b. a == b) (codes "file ") (take (length (codes "file ")) line)
        → Header bytes ⊎ HasNoHeader bytes
    in_line line behind k true e = header_behind bytes line behind (drop (length (codes "file ")) line) k ((starts_is Decides-eqb line (codes "file ") true e).0 refl)
    in_line line behind k false e = inr (none_without_file bytes line behind k (λ found is. let yes = (starts_is Decides-eqb line (codes "file ") false e).1 found is in cc))

-- the count of a number that was read
counted : (o : Option ℕ) (count : Decimal) → option_map in_64_bits o ≡ Some count → (size : ℕ) × (o ≡ Some size) × (count ≡ in_64_bits size)
counted None count e = absurd cc
counted (Some size) count e = (size, refl, cc)

pub not_counted : (o : Option ℕ) → option_map in_64_bits o ≡ None → o ≡ None
not_counted None e = refl
not_counted (Some size) e = absurd cc

pub header_found : (bytes line behind found word digits : List ℕ) (count : Decimal) → IsCut 10 bytes line behind
    → line ≡ codes "file " ++ found → IsCut 32 found word digits → word ≢ []
    → option_map in_64_bits (number_of digits) ≡ Some count → HasHeader bytes word count behind
header_found bytes line behind found word digits count k is j some e =
    let n = counted (number_of digits) count e in
    let h = header_from bytes line behind found word digits n.0 k is j some n.1 in
    record { size = n.0; counted = n.2; word = h.0; text = h.1 }
