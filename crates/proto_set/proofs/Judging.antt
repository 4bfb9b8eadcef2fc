-- Which import is at fault first.
use Rattle.std.proofs.Common.{◌≡◌, ℕ, ◌+◌, ◌<◌, ◌≤◌, true, false, List, inl, inr, length, get_or, refl, sym, ap, ◌∙◌, subst, arith}
use Rattle.std.specs.Prelude.{slice_get, MatchOption, Option, Some, None, IsSome, is_some}
use Rattle.std.proofs.lemmas.Bool.{cases_lt, cases_order}
use Rattle.std.proofs.lemmas.Option.{slice_get-get_or, slice_get_within, same_Some}
use Rattle.proto_ast.specs.declared.file.Import.{Import}
use Rattle.proto_set.specs.Importing.{HasImport, HasPath}
use Rattle.proto_set.specs.Visiting.{at_cycle, IsRootVisit}
use Rattle.proto_set.specs.ImportFaults.{IsImportFault, missing, twice, cycle, import_reason_rank, IsNoLaterFault, by_reason, by_file, by_statement, HasImportFault, IsFaultOf}
use Rattle.proto_set.specs.Linking.{index_of_path, KnowsPaths, HasNoFaultOfAt, HasNoFaultOf, IsFirstFaultOfFile, IsFirstOrMemory}
use Rattle.proto_set.specs.declared.set.ParsedFile.{ParsedFile}
use Rattle.proto_set.specs.declared.paths.Paths.{Paths}
use Rattle.proto_set.specs.declared.import_fault.ImportReason.{ImportReason}
use Rattle.proto_set.specs.declared.import_fault.ImportReason.TheVariants.{Missing, Twice, Cycle}
use Rattle.proto_set.specs.declared.import_fault.ImportFault.{ImportFault}
use Rattle.proto_set.specs.declared.import_fault.ImportFault.TheVariants as fault
use Rattle.proto_set.proofs.Visited.{ArePathsApart, root_one, import_one}

-- ---- the imports of a file

pub record AreImports (set : List ParsedFile) (i : ℕ) (xs : List Import) : Type 0 where
  pub member : ParsedFile
  pub member_at : slice_get set i ≡ Some member
  pub is : xs ≡ member.file.imports

pub imports_of : (set : List ParsedFile) (i : ℕ) (d : ParsedFile) (xs : List Import) → i < length set → xs ≡ (get_or set i d).file.imports → AreImports set i xs
imports_of set i d xs l e = record { member = get_or set i d; member_at = slice_get-get_or set i d l; is = e }

pub import_in : {set : List ParsedFile} {i : ℕ} {xs : List Import} → AreImports set i xs → (n : ℕ) (d : Import) → n < length xs → HasImport set i n (get_or xs n d)
import_in {set} {i} {xs} h n d l = record {
  member = h.member;
  member_at = h.member_at;
  import_at = ap (λ (ys : List Import). slice_get ys n) (sym h.is) ∙ slice_get-get_or xs n d l;
}

pub import_within : {set : List ParsedFile} {i n : ℕ} {xs : List Import} {x : Import} → AreImports set i xs → HasImport set i n x → slice_get xs n ≡ Some x
import_within {set} {i} {n} {xs} {x} h at =
    let same : h.member ≡ at.member = same_Some h.member at.member (sym h.member_at ∙ at.member_at) in
    ap (λ (ys : List Import). slice_get ys n) (h.is ∙ ap (λ (m : ParsedFile). m.file.imports) same) ∙ at.import_at

-- ---- paths that no file has

abbrev NoFile : List ParsedFile → List ℕ → Type 0
NoFile set path = (j : ℕ) → HasPath set j path → ⊥

none_is : (set : List ParsedFile) (path : List ℕ) (o : Option ℕ) → MatchOption o (NoFile set path) (λ j. HasPath set j path) → is_some o ≡ false → NoFile set path
none_is set path None h e = h
none_is set path (Some j) h e = absurd cc

some_is : (set : List ParsedFile) (path : List ℕ) (o : Option ℕ) (j : ℕ) → MatchOption o (NoFile set path) (λ j. HasPath set j path) → o ≡ Some j → HasPath set j path
some_is set path None j h e = absurd cc
some_is set path (Some k) j h e = let same : k ≡ j = cc in subst (λ (m : ℕ). HasPath set m path) same h

pub no_file : (set : List ParsedFile) (paths : Paths) (path : List ℕ) (o : Option ℕ) → KnowsPaths set paths
    → o ≡ index_of_path paths path → is_some o ≡ false → (j : ℕ) → HasPath set j path → ⊥
no_file set paths path o known e none = none_is set path (index_of_path paths path) (known.each path) (ap is_some (sym e) ∙ none)

pub has_file : (set : List ParsedFile) (paths : Paths) (path : List ℕ) (o : Option ℕ) (j : ℕ) → KnowsPaths set paths → o ≡ index_of_path paths path → o ≡ Some j → HasPath set j path
has_file set paths path o j known e some = some_is set path (index_of_path paths path) j (known.each path) (sym e ∙ some)

some_of : (o : Option ℕ) → is_some o ≡ true → (j : ℕ) × (o ≡ Some j)
some_of None e = absurd cc
some_of (Some j) e = (j, refl)

pub has_some : (set : List ParsedFile) (paths : Paths) (path : List ℕ) (o : Option ℕ) → KnowsPaths set paths
    → o ≡ index_of_path paths path → is_some o ≡ true → (j : ℕ) × HasPath set j path
has_some set paths path o known e some =
    let j = some_of o some in
    (j.0, has_file set paths path o j.0 known e j.1)

known_is : (set : List ParsedFile) (path : List ℕ) (o : Option ℕ) → MatchOption o (NoFile set path) (λ j. HasPath set j path) → (NoFile set path → ⊥) → IsSome o
known_is set path None h known = absurd (known h)
known_is set path (Some j) h known = refl

pub known_file : (set : List ParsedFile) (paths : Paths) (path : List ℕ) (o : Option ℕ) → KnowsPaths set paths
    → o ≡ index_of_path paths path → (((j : ℕ) → HasPath set j path → ⊥) → ⊥) → IsSome o
known_file set paths path o known e there = subst (λ (p : Option ℕ). IsSome p) (sym e) (known_is set path (index_of_path paths path) (known.each path) there)

-- ---- imports before index n

abbrev pub FreeBefore : List ParsedFile → ImportReason → ℕ → ℕ → Type 0
FreeBefore set q i n = (m : ℕ) → m < n → IsImportFault set q i m → ⊥

pub free_more : (set : List ParsedFile) (q : ImportReason) (i n : ℕ) → FreeBefore set q i n → (IsImportFault set q i n → ⊥) → FreeBefore set q i (n + 1)
free_more set q i n before now m l f = elim (cases_lt m n) [
  | inl old ↦ before m old f
  | inr new ↦ let e : m ≡ n = omega arith in now (subst (IsImportFault set q i) e f)
]

pub record MissingParts (set : List ParsedFile) (i n : ℕ) : Type 0 where
  pub import : Import
  pub import_at : HasImport set i n import
  pub no_file : (j : ℕ) → HasPath set j import.path → ⊥

pub missing_parts : {set : List ParsedFile} {i n : ℕ} → IsImportFault set Missing i n → MissingParts set i n
missing_parts (missing x at nobody) = record { import = x; import_at = at; no_file = nobody }

pub record TwiceParts (set : List ParsedFile) (i n : ℕ) : Type 0 where
  pub k : ℕ
  pub earlier : Import
  pub import : Import
  pub before : k < n
  pub earlier_at : HasImport set i k earlier
  pub import_at : HasImport set i n import
  pub same : earlier.path ≡ import.path

pub twice_parts : {set : List ParsedFile} {i n : ℕ} → IsImportFault set Twice i n → TwiceParts set i n
twice_parts (twice {k = k} x y l a b e) =
    record { k = k; earlier = x; import = y; before = l; earlier_at = a; import_at = b; same = e }

pub cycle_parts : {set : List ParsedFile} {i n : ℕ} → IsImportFault set Cycle i n → IsRootVisit set (at_cycle i n)
cycle_parts (cycle v) = v

pub fault_import : {set : List ParsedFile} {q : ImportReason} {i n : ℕ} → IsImportFault set q i n
    → ((i n : ℕ) → IsRootVisit set (at_cycle i n) → (x : Import) × HasImport set i n x)
    → (x : Import) × HasImport set i n x
fault_import (missing x at nobody) by_ring = (x, at)
fault_import (twice x y l a b e) by_ring = (y, b)
fault_import (cycle {i = i} {n = n} v) by_ring = by_ring i n v

-- an import isn't missing if a file has its path
pub not_missing : (set : List ParsedFile) (i n j : ℕ) (xs : List Import) (d : Import) → AreImports set i xs
    → n < length xs → HasPath set j (get_or xs n d).path → IsImportFault set Missing i n → ⊥
not_missing set i n j xs d h l has f =
    let p = missing_parts f in
    let same : get_or xs n d ≡ p.import = import_one (import_in h n d l) p.import_at in
    p.no_file j (subst (λ (x : Import). HasPath set j x.path) same has)

-- no import is at fault if none is before the end of the list
pub free_all : (set : List ParsedFile) (q : ImportReason) (i n : ℕ) (xs : List Import) → AreImports set i xs
    → length xs ≤ n → ((m : ℕ) → IsImportFault set q i m → (x : Import) × HasImport set i m x) → FreeBefore set q i n
    → HasNoFaultOfAt set q i
free_all set q i n xs h l has before m f =
    let x = has m f in
    before m (omega (arith, slice_get_within xs m x.0 (import_within h x.1))) f

-- ---- the first fault of the set

pub rank_one : (q r : ImportReason) → import_reason_rank q ≡ import_reason_rank r → q ≡ r
rank_one Missing Missing e = refl
rank_one Missing Twice e = absurd (omega arith)
rank_one Missing Cycle e = absurd (omega arith)
rank_one Twice Missing e = absurd (omega arith)
rank_one Twice Twice e = refl
rank_one Twice Cycle e = absurd (omega arith)
rank_one Cycle Missing e = absurd (omega arith)
rank_one Cycle Twice e = absurd (omega arith)
rank_one Cycle Cycle e = refl

abbrev pub NoneAbove : List ParsedFile → ImportReason → Type 0
NoneAbove set q = (r : ImportReason) → import_reason_rank r < import_reason_rank q → HasNoFaultOf set r

by_place : (set : List ParsedFile) (q : ImportReason) (i n j m : ℕ) → ((k : ℕ) → k < i → HasNoFaultOfAt set q k) → FreeBefore set q i n → IsImportFault set q j m → IsNoLaterFault q i n q j m
by_place set q i n j m files before f = elim (cases_order i j) [
  | inl e ↦ elim (cases_lt m n) [
    | inl less ↦ absurd (before m less (subst (λ (k : ℕ). IsImportFault set q k m) (sym e) f))
    | inr more ↦ by_statement refl e more
  ]
  | inr apart ↦ elim apart [
    | inl less ↦ by_file refl less
    | inr more ↦ absurd (files j more m f)
  ]
]

pub comes_first : (set : List ParsedFile) (q : ImportReason) (i n : ℕ) → NoneAbove set q
    → ((k : ℕ) → k < i → HasNoFaultOfAt set q k) → FreeBefore set q i n → (r : ImportReason) (j m : ℕ) → IsImportFault set r j m
    → IsNoLaterFault q i n r j m
comes_first set q i n above files before r j m f = elim (cases_order (import_reason_rank q) (import_reason_rank r)) [
  | inl e ↦
      let same : q ≡ r = rank_one q r e in
      let f2 : IsImportFault set q j m = subst (λ (s : ImportReason). IsImportFault set s j m) (sym same) f in
      subst (λ (s : ImportReason). IsNoLaterFault q i n s j m) same (by_place set q i n j m files before f2)
  | inr apart ↦ elim apart [
    | inl less ↦ by_reason less
    | inr more ↦ absurd (above r more j m f)
  ]
]

pub first_is : (set : List ParsedFile) (q : ImportReason) (i : ℕ) (e : ImportFault) → NoneAbove set q
    → ((k : ℕ) → k < i → HasNoFaultOfAt set q k) → IsFirstFaultOfFile set q i e → IsFaultOf set e
first_is set q i e above files h =
    let fault : HasImportFault set q i h.import.span = record {
      n = h.n;
      import = h.import;
      import_at = h.import_at;
      span_is = refl;
      at_fault = h.at_fault;
      first = comes_first set q i h.n above files h.first;
    } in
    subst (IsFaultOf set) (sym h.is) fault

pub none_above_missing : (set : List ParsedFile) → NoneAbove set Missing
none_above_missing set Missing l = absurd (omega arith)
none_above_missing set Twice l = absurd (omega arith)
none_above_missing set Cycle l = absurd (omega arith)

pub none_above_twice : (set : List ParsedFile) → HasNoFaultOf set Missing → NoneAbove set Twice
none_above_twice set known Missing l = known
none_above_twice set known Twice l = absurd (omega arith)
none_above_twice set known Cycle l = absurd (omega arith)

pub none_above_cycle : (set : List ParsedFile) → HasNoFaultOf set Missing → HasNoFaultOf set Twice → NoneAbove set Cycle
none_above_cycle set known once Missing l = known
none_above_cycle set known once Twice l = once
none_above_cycle set known once Cycle l = absurd (omega arith)

-- a cycle is the first fault if no import is missing or repeated
pub ring_first : (set : List ParsedFile) (i n : ℕ) (x : Import) (e : ImportFault) → ArePathsApart set → HasNoFaultOf set Missing
    → HasNoFaultOf set Twice → HasImport set i n x → e ≡ fault.At Cycle i x.span → IsRootVisit set (at_cycle i n)
    → IsFaultOf set e
ring_first set i n x e apart known once at is v =
    first_is set Cycle i e (none_above_cycle set known once)
    (λ k l m f. let same : at_cycle i n ≡ at_cycle k m = root_one apart v (cycle_parts f) in let eq : i ≡ k = cc in absurd (omega arith))
    (record {
      n = n;
      import = x;
      import_at = at;
      is = is;
      at_fault = cycle v;
      first = λ m l f. (let same : at_cycle i n ≡ at_cycle i m = root_one apart v (cycle_parts f) in let eq : n ≡ m = cc in omega arith);
    })

pub first_unless : (set : List ParsedFile) (q : ImportReason) (i : ℕ) (e : ImportFault) → NoneAbove set q
    → ((k : ℕ) → k < i → HasNoFaultOfAt set q k) → IsFirstOrMemory set q i e → IsFaultOf set e
first_unless set q i (fault.At r j span) above files h = first_is set q i (fault.At r j span) above files (h (λ e. cc))
first_unless set q i fault.Memory above files h = tt
