-- The origin of a declaration of the joined files: its file, and its form there.
use Rattle.std.proofs.Common.{◌≡◌, ℕ, zero, suc, ◌+◌, ◌<◌, ◌≤◌, ◌⊎◌, inl, inr, List, [], ◌∷◌, ◌++◌, length, get_or}
use Rattle.std.proofs.Common.{map, take, All, Contains, Some, slice_get, refl, ap, sym, ◌∙◌, subst, arith}
use Rattle.std.proofs.Common.{length-append}
use Rattle.std.proofs.lemmas.Bool.{cases_order}
use Rattle.std.proofs.lemmas.Option.{none-some, same_Some, slice_get_within, slice_get-get_or, get_or_from_slice_get}
use Rattle.std.proofs.lemmas.List.{length-map}
use Rattle.std.proofs.lemmas.List.Sums.{sum_by-cons}
use Rattle.proto_set.specs.declared.linked_file.LinkedFile.{LinkedFile}
use Rattle.proto_set.specs.declared.linked_file.FileBase.{FileBase}
use Rattle.proto_set.specs.Joining.{before_first_file, after_file, gathered, sizes_of}
use Rattle.proto_set.specs.Texts.{base_at}

-- ---- the index of a file's first item among those of all files

abbrev pub start : (LinkedFile → ℕ) → List LinkedFile → ℕ → ℕ
start f [] j = 0
start f (p ∷ ps) zero = 0
start f (p ∷ ps) (suc j) = f p + start f ps j

pub start-zero : (f : LinkedFile → ℕ) (ps : List LinkedFile) → start f ps 0 ≡ 0
start-zero f [] = refl
start-zero f (p ∷ ps) = refl

pub start-suc : (f : LinkedFile → ℕ) (ps : List LinkedFile) (j : ℕ) (p : LinkedFile) → slice_get ps j ≡ Some p → start f ps (suc j) ≡ start f ps j + f p
start-suc f [] j p e = absurd (none-some p e)
start-suc f (q ∷ ps) zero p e = omega (arith, ap f (same_Some q p e), start-zero f ps)
start-suc f (q ∷ ps) (suc j) p e = omega (arith, start-suc f ps j p e)

pub start-le : (f : LinkedFile → ℕ) (ps : List LinkedFile) (i j : ℕ) → i ≤ j → start f ps i ≤ start f ps j
start-le f [] i j h = omega arith
start-le f (p ∷ ps) zero j h = omega arith
start-le f (p ∷ ps) (suc i) zero h = absurd (omega arith)
start-le f (p ∷ ps) (suc i) (suc j) h = omega (arith, start-le f ps i j (omega arith))

-- the items of an earlier file come before those of a later one
pub start-apart : (f : LinkedFile → ℕ) (ps : List LinkedFile) (j k : ℕ) (p : LinkedFile) → slice_get ps j ≡ Some p → j < k
    → start f ps j + f p ≤ start f ps k
start-apart f ps j k p e h = omega (arith, start-suc f ps j p e, start-le f ps (suc j) k (omega arith))

-- items with the same index are of one file, and have one index there
pub one_start : (f : LinkedFile → ℕ) (ps : List LinkedFile) (j k : ℕ) (p q : LinkedFile) (a b : ℕ) → slice_get ps j ≡ Some p → slice_get ps k ≡ Some q
    → a < f p → b < f q → start f ps j + a ≡ start f ps k + b → (j ≡ k) × (a ≡ b)
one_start f ps j k p q a b at_j at_k in_p in_q same = elim (cases_order j k) [
  | inl e ↦ (e, omega (arith, ap (λ n. start f ps n) e))
  | inr o ↦ elim o [
    | inl l ↦ absurd (omega (arith, start-apart f ps j k p at_j l))
    | inr l ↦ absurd (omega (arith, start-apart f ps k j q at_k l))
  ]
]

-- items in order are of files in order, or of one file and in order there
pub start_order : (f : LinkedFile → ℕ) (ps : List LinkedFile) (j k : ℕ) (p q : LinkedFile) (a b : ℕ) → slice_get ps j ≡ Some p → slice_get ps k ≡ Some q
    → a < f p → b < f q → start f ps j + a < start f ps k + b → (j < k) ⊎ ((j ≡ k) × (a < b))
start_order f ps j k p q a b at_j at_k in_p in_q less = elim (cases_order j k) [
  | inl e ↦ inr (e, omega (arith, ap (λ n. start f ps n) e))
  | inr o ↦ elim o [
    | inl l ↦ inl l
    | inr l ↦ absurd (omega (arith, start-apart f ps k j q at_k l))
  ]
]

pub start-one : (ps : List LinkedFile) (j : ℕ) (p : LinkedFile) → slice_get ps j ≡ Some p → start (λ q. 1) ps j ≡ j
start-one [] j p e = absurd (none-some p e)
start-one (q ∷ ps) zero p e = refl
start-one (q ∷ ps) (suc j) p e = omega (arith, start-one ps j p e)

-- ---- what precedes the file with an index

abbrev pub before_at : FileBase → List LinkedFile → ℕ → FileBase
before_at b [] j = b
before_at b (p ∷ ps) zero = b
before_at b (p ∷ ps) (suc j) = before_at (after_file b p) ps j

abbrev pub size_of : LinkedFile → ℕ
size_of p = p.size

abbrev pub messages_of : LinkedFile → ℕ
messages_of p = length p.file.messages

pub before-files : (b : FileBase) (ps : List LinkedFile) (j : ℕ) (p : LinkedFile) → slice_get ps j ≡ Some p → (before_at b ps j).files ≡ b.files + j
before-files b [] j p e = absurd (none-some p e)
before-files b (q ∷ ps) zero p e = omega arith
before-files b (q ∷ ps) (suc j) p e = omega (arith, before-files (after_file b q) ps j p e)

pub before-bytes : (b : FileBase) (ps : List LinkedFile) (j : ℕ) → (before_at b ps j).bytes ≡ b.bytes + start size_of ps j
before-bytes b [] j = omega arith
before-bytes b (q ∷ ps) zero = omega arith
before-bytes b (q ∷ ps) (suc j) = omega (arith, before-bytes (after_file b q) ps j)

pub before-messages : (b : FileBase) (ps : List LinkedFile) (j : ℕ) → (before_at b ps j).messages ≡ b.messages + start messages_of ps j
before-messages b [] j = omega arith
before-messages b (q ∷ ps) zero = omega arith
before-messages b (q ∷ ps) (suc j) = omega (arith, before-messages (after_file b q) ps j)

pub bytes_here : (ps : List LinkedFile) (j : ℕ) → (before_at before_first_file ps j).bytes ≡ start size_of ps j
bytes_here ps j = omega (arith, before-bytes before_first_file ps j)

pub base_at-sizes : (ps : List LinkedFile) (j : ℕ) → base_at (sizes_of ps) j ≡ start size_of ps j
base_at-sizes [] zero = refl
base_at-sizes [] (suc j) = refl
base_at-sizes (p ∷ ps) zero = refl
base_at-sizes (p ∷ ps) (suc j) = omega (arith, sum_by-cons (λ x. x) p.size (take j (sizes_of ps)), base_at-sizes ps j)

-- ---- items of lists

pub got_of_all : {X : Type 0} (P : X → Type 0) (xs : List X) (i : ℕ) (x : X) → All P xs → slice_get xs i ≡ Some x → P x
got_of_all P xs i x all at = subst P (get_or_from_slice_get xs i x x at) (all i x (slice_get_within xs i x at))

pub all_of_got : {X : Type 0} (P : X → Type 0) (xs : List X) → ((i : ℕ) (x : X) → slice_get xs i ≡ Some x → P x) → All P xs
all_of_got P xs h = λ i d l. h i (get_or xs i d) (slice_get-get_or xs i d l)

pub got_of_contains : {X : Type 0} (xs : List X) (x : X) → Contains xs x → (i : ℕ) × (slice_get xs i ≡ Some x)
got_of_contains xs x c = (c.0, slice_get-get_or xs c.0 x c.1 ∙ ap Some c.2)

pub got_of_map : {X Y : Type 0} (f : X → Y) (xs : List X) (i : ℕ) (y : Y) → slice_get (map f xs) i ≡ Some y
    → (x : X) × (slice_get xs i ≡ Some x) × (y ≡ f x)
got_of_map f [] i y e = absurd (none-some y e)
got_of_map f (x ∷ xs) zero y e = (x, refl, sym (same_Some (f x) y e))
got_of_map f (x ∷ xs) (suc i) y e = got_of_map f xs i y e

got_of_append : {X Y : Type 0} (f : X → Y) (xs : List X) (rest : List Y) (i : ℕ) (y : Y) → slice_get (map f xs ++ rest) i ≡ Some y
    → ((x : X) × (slice_get xs i ≡ Some x) × (y ≡ f x)) ⊎ ((k : ℕ) × (i ≡ length xs + k) × (slice_get rest k ≡ Some y))
got_of_append f [] rest i y e = inr (i, omega arith, e)
got_of_append f (x ∷ xs) rest zero y e = inl (x, refl, sym (same_Some (f x) y e))
got_of_append f (x ∷ xs) rest (suc i) y e = elim (got_of_append f xs rest i y e) [
  | inl h ↦ inl (h.0, h.1, h.2)
  | inr h ↦ inr (h.0, omega (arith, h.1), h.2)
]

-- ---- which file an item comes from

pub record Found {X Y : Type 0} (shift : FileBase → X → Y) (declares : LinkedFile → List X) (b : FileBase) (ps : List LinkedFile) (i : ℕ) (y : Y) : Type 0 where
  pub file : ℕ
  pub part : LinkedFile
  pub place : ℕ
  pub own : X
  pub there : slice_get ps file ≡ Some part
  pub item : slice_get (declares part) place ≡ Some own
  pub stands : i ≡ start (λ q. length (declares q)) ps file + place
  pub is : y ≡ shift (before_at b ps file) own

pub found : {X Y : Type 0} (shift : FileBase → X → Y) (declares : LinkedFile → List X) (b : FileBase) (ps : List LinkedFile) (i : ℕ) (y : Y)
    → slice_get (gathered shift declares b ps) i ≡ Some y → Found shift declares b ps i y
found shift declares b [] i y e = absurd (none-some y e)
found shift declares b (p ∷ ps) i y e = elim (got_of_append (shift b) (declares p) (gathered shift declares (after_file b p) ps) i y e) [
  | inl h ↦ record {
    file = 0;
    part = p;
    place = i;
    own = h.0;
    there = refl;
    item = h.1;
    stands = omega arith;
    is = h.2;
  }
  | inr h ↦
      let r = found shift declares (after_file b p) ps h.0 y h.2 in
      record {
        file = suc r.file;
        part = r.part;
        place = r.place;
        own = r.own;
        there = r.there;
        item = r.item;
        stands = omega (arith, r.stands, h.1);
        is = r.is;
      }
]

pub length-gathered : {X Y : Type 0} (shift : FileBase → X → Y) (declares : LinkedFile → List X) (b : FileBase) (ps : List LinkedFile)
    → length (gathered shift declares b ps) ≡ start (λ q. length (declares q)) ps (length ps)
length-gathered shift declares b [] = refl
length-gathered shift declares b (p ∷ ps) =
    omega (
      arith,
      length-append (map (shift b) (declares p)) (gathered shift declares (after_file b p) ps),
      length-map (declares p) (shift b),
      length-gathered shift declares (after_file b p) ps,
    )

-- one index has one file
pub one_part : (ps : List LinkedFile) (j k : ℕ) (p q : LinkedFile) → slice_get ps j ≡ Some p → slice_get ps k ≡ Some q → j ≡ k → p ≡ q
one_part ps j k p q at_j at_k same = same_Some p q (sym at_j ∙ ap (λ n. slice_get ps n) same ∙ at_k)
