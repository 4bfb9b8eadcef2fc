-- The indices of files by path.
use Rattle.std.proofs.Common.{◌≡◌, ℕ, ◌+◌, ◌<◌, ◌≤◌, Bool, true, false, cond, List, [], inl, inr, length, get_or, refl, sym, ap, ◌∙◌, subst, arith}
use Rattle.std.specs.Prelude.{MatchOption, Option, Some, None}
use Rattle.std.specs.Borrow.{Bor}
use Rattle.std.specs.Map.{lookup}
use Rattle.std.specs.Ordering.{nat_cmp, is_eq}
use Rattle.std.specs.Cmp.{Equal-is}
use Rattle.std.specs.Cmp.Lexicographic.{slice_cmp}
use Rattle.std.proofs.lemmas.Bool.{cases_lt}
use Rattle.std.proofs.lemmas.Cmp.{tied_itself, nat_list_cmp_total}
use Rattle.std.proofs.lemmas.Map.Lookups.{exact_bytes}
use Rattle.std.proofs.lemmas.Option.{slice_get-get_or, slice_get_within, same_Some}
use Rattle.proto_set.specs.Importing.{HasPath}
use Rattle.proto_set.specs.Linking.{index_of_path, KnowsPaths}
use Rattle.proto_set.specs.declared.set.ParsedFile.{ParsedFile}
use Rattle.proto_set.specs.declared.paths.Paths.{Paths}

pub same_bytes : (x q : List ℕ) → is_eq (slice_cmp nat_cmp x q) ≡ true → x ≡ q
same_bytes x q e = exact_bytes x q ((Equal-is (slice_cmp nat_cmp x q)).0 e)

bytes_same : (x q : List ℕ) → x ≡ q → is_eq (slice_cmp nat_cmp x q) ≡ true
bytes_same x q e =
    subst (λ (y : List ℕ). is_eq (slice_cmp nat_cmp x y) ≡ true) e (ap is_eq (tied_itself nat_list_cmp_total x))

pub other_bytes : (x q : List ℕ) → is_eq (slice_cmp nat_cmp x q) ≡ false → x ≡ q → ⊥
other_bytes x q e same = let t : is_eq (slice_cmp nat_cmp x q) ≡ true = bytes_same x q same in let bad : true ≡ false = sym t ∙ e in cc

-- the indices of the files before i
abbrev Places : List ParsedFile → ℕ → List ℕ → Option ℕ → Type 0
Places set i path o = MatchOption o ((j : ℕ) → j < i → HasPath set j path → ⊥) (λ j. HasPath set j path)

pub record KnowsBefore (set : List ParsedFile) (i : ℕ) (paths : Paths) : Type 0 where
  pub each : (path : List ℕ) → Places set i path (index_of_path paths path)

none_before : (set : List ParsedFile) (path : List ℕ) (o : Option ℕ) → o ≡ None → Places set 0 path o
none_before set path None e = λ j l h. absurd (omega arith)
none_before set path (Some x) e = absurd cc

pub before_none : (set : List ParsedFile) (paths : Paths) → paths.by.entries ≡ [] → KnowsBefore set 0 paths
before_none set paths none = record {
  each = λ path. none_before set path (index_of_path paths path)
      (ap (λ es. lookup (λ (key : Bor (List ℕ)). is_eq (slice_cmp nat_cmp path key.now)) es) none);
}

pub path_of : (set : List ParsedFile) (i : ℕ) (d : ParsedFile) → i < length set → HasPath set i (get_or set i d).path
path_of set i d l = record { member = get_or set i d; member_at = slice_get-get_or set i d l; path_is = refl }

path_at : (set : List ParsedFile) (i : ℕ) (d : ParsedFile) (path : List ℕ) → i < length set → HasPath set i path → (get_or set i d).path ≡ path
path_at set i d path l h =
    let same : get_or set i d ≡ h.member = same_Some (get_or set i d) h.member (sym (slice_get-get_or set i d l) ∙ h.member_at) in
    ap (λ (m : ParsedFile). m.path) same ∙ h.path_is

older : (set : List ParsedFile) (i : ℕ) (d : ParsedFile) (path : List ℕ) (o : Option ℕ) → i < length set
    → ((get_or set i d).path ≡ path → ⊥) → Places set i path o → Places set (i + 1) path o
older set i d path None l other h = λ j m at. elim (cases_lt j i) [
  | inl old ↦ h j old at
  | inr new ↦ let e : j ≡ i = omega arith in other (path_at set i d path l (subst (λ (k : ℕ). HasPath set k path) e at))
]
older set i d path (Some j) l other h = h

choose : (set : List ParsedFile) (i : ℕ) (d : ParsedFile) (path : List ℕ) (b : Bool) (o p : Option ℕ) → i < length set
    → is_eq (slice_cmp nat_cmp (get_or set i d).path path) ≡ b → p ≡ cond b (Some i) o → Places set i path o
    → Places set (i + 1) path p
choose set i d path true o p l is e h =
    let same : (get_or set i d).path ≡ path = same_bytes (get_or set i d).path path is in
    let at : HasPath set i path = subst (HasPath set i) same (path_of set i d l) in
    subst (Places set (i + 1) path) (sym e) at
choose set i d path false o p l is e h =
    let other : (get_or set i d).path ≡ path → ⊥ =
    λ same. (let t : is_eq (slice_cmp nat_cmp (get_or set i d).path path) ≡ true = bytes_same (get_or set i d).path path same in cc) in
    subst (Places set (i + 1) path) (sym e) (older set i d path o l other h)

pub before_more : (set : List ParsedFile) (i : ℕ) (d : ParsedFile) (old new : Paths) → i < length set
    → ((path : List ℕ) → index_of_path new path ≡ cond (is_eq (slice_cmp nat_cmp (get_or set i d).path path)) (Some i)
    (index_of_path old path)) → KnowsBefore set i old → KnowsBefore set (i + 1) new
before_more set i d old new l changed known = record {
  each = λ path. choose set i d path (is_eq (slice_cmp nat_cmp (get_or set i d).path path)) (index_of_path old path) (index_of_path new path) l refl (changed path) (known.each path);
}

all_before : (set : List ParsedFile) (i : ℕ) (path : List ℕ) (o : Option ℕ) → length set ≤ i → Places set i path o
    → MatchOption o ((j : ℕ) → HasPath set j path → ⊥) (λ j. HasPath set j path)
all_before set i path None l h = λ j at. h j (omega (arith, slice_get_within set j at.member at.member_at)) at
all_before set i path (Some j) l h = h

pub before_all : (set : List ParsedFile) (i : ℕ) (paths : Paths) → length set ≤ i → KnowsBefore set i paths → KnowsPaths set paths
before_all set i paths l known = record { each = λ path. all_before set i path (index_of_path paths path) l (known.each path) }
