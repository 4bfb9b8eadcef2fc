-- The files that the imports of a file lead to.
use Rattle.std.proofs.Common.{◌≡◌, ℕ, zero, suc, ◌+◌, ◌<◌, ◌≤◌, ◌⊎◌, ⊎_elim, Bool, true, List, [], ◌∷◌, ◌++◌, inl}
use Rattle.std.proofs.Common.{inr, length, set, refl, sym, ap, ◌∙◌, subst, arith}
use Rattle.std.specs.Prelude.{slice_get, Some}
use Rattle.std.proofs.lemmas.Bool.{cases_lt}
use Rattle.std.proofs.lemmas.List.{length_push}
use Rattle.std.proofs.lemmas.Option.{slice_get_within, same_Some}
use Rattle.proto_ast.specs.declared.file.Import.{Import}
use Rattle.proto_set.specs.Importing.{HasImport, HasPath, IsImport, IsPublicImport}
use Rattle.proto_set.specs.ImportFaults.{IsImportFault, twice}
use Rattle.proto_set.specs.Linking.{HasNoFaultOfAt, IsLink, AreLinks, AreLinksOfSet, AllResolve}
use Rattle.proto_set.specs.Seeing.{IsLinked}
use Rattle.proto_set.specs.declared.set.ParsedFile.{ParsedFile}
use Rattle.proto_set.specs.declared.links.ImportLink.{ImportLink}
use Rattle.proto_set.specs.declared.import_fault.ImportReason.TheVariants.{Twice}
use Rattle.proto_set.proofs.Visited.{ArePathsApart, import_one, leads_one}
use Rattle.proto_set.proofs.Judging.{AreImports, import_within, FreeBefore, free_more, twice_parts, free_all}

-- ---- one more element

pub get_push : {X : Type 0} (xs : List X) (x q : X) (j : ℕ) → slice_get (xs ++ x ∷ []) j ≡ Some q → (slice_get xs j ≡ Some q) ⊎ ((j ≡ length xs) × (x ≡ q))
get_push [] x q zero e = let same : x ≡ q = cc in inr (refl, same)
get_push [] x q (suc j) e = absurd cc
get_push (y ∷ ys) x q zero e = inl e
get_push {X} (y ∷ ys) x q (suc j) e =
    ⊎_elim (λ (old : slice_get ys j ≡ Some q). inl old) (λ (new : (j ≡ length ys) × (x ≡ q)). inr (ap suc new.0, new.1)) (get_push ys x q j e)

pub get_front : {X : Type 0} (xs : List X) (x q : X) (j : ℕ) → slice_get xs j ≡ Some q → slice_get (xs ++ x ∷ []) j ≡ Some q
get_front [] x q j e = absurd cc
get_front (y ∷ ys) x q zero e = e
get_front (y ∷ ys) x q (suc j) e = get_front ys x q j e

pub get_last : {X : Type 0} (xs : List X) (x : X) → slice_get (xs ++ x ∷ []) (length xs) ≡ Some x
get_last [] x = refl
get_last (y ∷ ys) x = get_last ys x

pub get_set_same : {X : Type 0} (xs : List X) (i : ℕ) (x : X) → i < length xs → slice_get (set xs i x) i ≡ Some x
get_set_same [] i x l = absurd (omega arith)
get_set_same (y ∷ ys) zero x l = refl
get_set_same (y ∷ ys) (suc i) x l = get_set_same ys i x (omega arith)

pub get_set_other : {X : Type 0} (xs : List X) (i j : ℕ) (x : X) → (j ≡ i → ⊥) → slice_get (set xs i x) j ≡ slice_get xs j
get_set_other [] i j x ne = refl
get_set_other (y ∷ ys) zero zero x ne = absurd (ne refl)
get_set_other (y ∷ ys) zero (suc j) x ne = refl
get_set_other (y ∷ ys) (suc i) zero x ne = refl
get_set_other (y ∷ ys) (suc i) (suc j) x ne = get_set_other ys i j x (λ e. ne (ap suc e))

pub some_at : {X : Type 0} (xs : List X) (i : ℕ) → i < length xs → (x : X) × (slice_get xs i ≡ Some x)
some_at [] i l = absurd (omega arith)
some_at (x ∷ xs) zero l = (x, refl)
some_at (x ∷ xs) (suc i) l = some_at xs i (omega arith)

get_cases : (i n : ℕ) → i < n + 1 → (i < n) ⊎ (i ≡ n)
get_cases i n l = elim (cases_lt i n) [ inl old ↦ inl old | inr new ↦ inr (omega arith) ]

-- ---- the links of a file

-- the first n imports of a file
pub record LinksBefore (set : List ParsedFile) (i n : ℕ) (links : List ImportLink) : Type 0 where
  pub count : length links ≡ n
  pub each : (m : ℕ) (l : ImportLink) → slice_get links m ≡ Some l → IsLink set i m l
  pub once : FreeBefore set Twice i n

pub links_none : (set : List ParsedFile) (i : ℕ) (links : List ImportLink) → links ≡ [] → LinksBefore set i 0 links
links_none set i links e = subst (LinksBefore set i 0) (sym e) (record {
  count = refl;
  each = λ m l at. absurd cc;
  once = λ m less f. absurd (omega arith);
})

-- a file has one path
pub path_same : {set : List ParsedFile} {j : ℕ} {p q : List ℕ} → HasPath set j p → HasPath set j q → p ≡ q
path_same a b =
    let same : a.member ≡ b.member = same_Some a.member b.member (sym a.member_at ∙ b.member_at) in
    sym a.path_is ∙ ap (λ (m : ParsedFile). m.path) same ∙ b.path_is

-- an import that leads to the file of an earlier one is repeated
pub linked_twice : (set : List ParsedFile) (i n j : ℕ) (x : Import) (links : List ImportLink) → LinksBefore set i n links
    → HasImport set i n x → HasPath set j x.path → IsLinked links j → IsImportFault set Twice i n
linked_twice set i n j x links known at has h =
    let link = known.each h.0 h.1 h.2 in
    let there : HasPath set j link.leads.import.path = subst (λ (k : ℕ). HasPath set k link.leads.import.path) h.3 link.leads.path_at in
    twice link.leads.import x (omega (arith, slice_get_within links h.0 h.1 h.2, known.count)) link.leads.import_at at (path_same there has)

pub unlinked_once : (set : List ParsedFile) (i n j : ℕ) (x : Import) (links : List ImportLink) → ArePathsApart set
    → LinksBefore set i n links → HasImport set i n x → HasPath set j x.path → (IsLinked links j → ⊥)
    → IsImportFault set Twice i n → ⊥
unlinked_once set i n j x links apart known at has out f =
    let p = twice_parts f in
    let l = some_at links p.k (omega (arith, p.before, known.count)) in
    let link = known.each p.k l.0 l.1 in
    let same : link.leads.import ≡ p.earlier = import_one link.leads.import_at p.earlier_at in
    let last : p.import ≡ x = import_one p.import_at at in
    let path : link.leads.import.path ≡ x.path = ap (λ (y : Import). y.path) same ∙ p.same ∙ ap (λ (y : Import). y.path) last in
    let file : l.0.file ≡ j = apart.one (subst (HasPath set l.0.file) path link.leads.path_at) has in
    out (p.k, l.0, l.1, file)

pub links_more : (set : List ParsedFile) (i n : ℕ) (x : Import) (l : ImportLink) (old new : List ImportLink) → LinksBefore set i n old
    → HasImport set i n x → HasPath set l.file x.path → l.public ≡ x.public → (IsImportFault set Twice i n → ⊥)
    → new ≡ old ++ l ∷ [] → LinksBefore set i (n + 1) new
links_more set i n x l old new known at has is_public once e = subst (LinksBefore set i (n + 1)) (sym e) (record {
  count = omega (arith, length_push old l, known.count);
  each = λ m k is. elim (get_push old l k m is) [
    | inl before ↦ known.each m k before
    | inr last ↦
        let m_is : n ≡ m = omega (arith, last.0, known.count) in
        let here : IsLink set i n l = record { leads = record { import = x; import_at = at; path_at = has }; is_public = is_public } in
        subst (λ (p : ℕ). IsLink set i p k) m_is (subst (IsLink set i n) last.1 here)
  ];
  once = free_more set Twice i n known.once once;
})

pub links_all : (set : List ParsedFile) (i n : ℕ) (xs : List Import) (links : List ImportLink) → AreImports set i xs
    → length xs ≤ n → n ≤ length xs → LinksBefore set i n links → AreLinks set i links
links_all set i n xs links h least most known = record {
  each = known.each;
  all = λ m x at. omega (arith, slice_get_within xs m x (import_within h at), known.count);
}

pub once_all : (set : List ParsedFile) (i n : ℕ) (xs : List Import) (links : List ImportLink) → AreImports set i xs → length xs ≤ n → LinksBefore set i n links → HasNoFaultOfAt set Twice i
once_all set i n xs links h least known =
    free_all set Twice i n xs h least (λ m f. (let p = twice_parts f in (p.import, p.import_at))) known.once

-- ---- the links of each file

pub record KeepsBefore (set : List ParsedFile) (n : ℕ) (all : List (List ImportLink)) : Type 0 where
  pub count : length all ≡ n
  pub each : (i : ℕ) (links : List ImportLink) → slice_get all i ≡ Some links → AreLinks set i links
  pub once : (i : ℕ) → i < n → HasNoFaultOfAt set Twice i

pub keeps_none : (set : List ParsedFile) (all : List (List ImportLink)) → all ≡ [] → KeepsBefore set 0 all
keeps_none set all e = subst (KeepsBefore set 0) (sym e) (record {
  count = refl;
  each = λ i links at. absurd cc;
  once = λ i l. absurd (omega arith);
})

pub keeps_more : (set : List ParsedFile) (n : ℕ) (links : List ImportLink) (old new : List (List ImportLink)) → KeepsBefore set n old
    → AreLinks set n links → HasNoFaultOfAt set Twice n → new ≡ old ++ links ∷ [] → KeepsBefore set (n + 1) new
keeps_more set n links old new known here once e = subst (KeepsBefore set (n + 1)) (sym e) (record {
  count = omega (arith, length_push old links, known.count);
  each = λ i ls at. elim (get_push old links ls i at) [
    | inl before ↦ known.each i ls before
    | inr last ↦
        let i_is : n ≡ i = omega (arith, last.0, known.count) in
        subst (λ (k : ℕ). AreLinks set k ls) i_is (subst (AreLinks set n) last.1 here)
  ];
  once = λ i l. (let more : i < n + 1 = l in elim (get_cases i n more) [
    | inl old ↦ known.once i old
    | inr new ↦ subst (HasNoFaultOfAt set Twice) (sym new) once
  ]);
})

pub keeps_all : (set : List ParsedFile) (n : ℕ) (all : List (List ImportLink)) → n ≡ length set → KeepsBefore set n all → AreLinksOfSet set all
keeps_all set n all e known = record { count = known.count ∙ e; each = known.each }

-- ---- what links imply

pub link_leads : {set : List ParsedFile} {i : ℕ} {links : List ImportLink} → AreLinks set i links → (n : ℕ) (l : ImportLink) → slice_get links n ≡ Some l → IsImport set i n l.file
link_leads h n l at = (h.each n l at).leads

pub link_public : {set : List ParsedFile} {i : ℕ} {links : List ImportLink} → AreLinks set i links → (n : ℕ) (l : ImportLink)
    → slice_get links n ≡ Some l → l.public ≡ true → IsPublicImport set i n l.file
link_public h n l at is = record { leads = (h.each n l at).leads; is_public = sym (h.each n l at).is_public ∙ is }

-- the link of an import
pub record LinkOf (links : List ImportLink) (n j : ℕ) (is_public : Bool) : Type 0 where
  pub link : ImportLink
  pub at : slice_get links n ≡ Some link
  pub file : link.file ≡ j
  pub public_is : link.public ≡ is_public

pub link_of : {set : List ParsedFile} {i n j : ℕ} {links : List ImportLink} → ArePathsApart set → AreLinks set i links → (l : IsImport set i n j) → LinkOf links n j l.import.public
link_of {set} {i} {n} {j} {links} apart h l =
    let x = some_at links n (h.all n l.import l.import_at) in
    let link = h.each n x.0 x.1 in
    let same : link.leads.import ≡ l.import = import_one link.leads.import_at l.import_at in
    record {
      link = x.0;
      at = x.1;
      file = leads_one apart link.leads l;
      public_is = link.is_public ∙ ap (λ (y : Import). y.public) same;
    }

pub link_file : {set : List ParsedFile} {i n j : ℕ} → IsImport set i n j → j < length set
link_file {set} {i} {n} {j} l = slice_get_within set j l.path_at.member l.path_at.member_at

-- each import leads to a file
pub all_lead : {set' : List ParsedFile} {all : List (List ImportLink)} → AreLinksOfSet set' all → AllResolve set'
all_lead {set'} {all} h i n x at =
    let links = some_at all i (omega (arith, h.count, slice_get_within set' i at.member at.member_at)) in
    let known = h.each i links.0 links.1 in
    let l = some_at links.0 n (known.all n x at) in
    (l.0.file, (known.each n l.0 l.1).leads)
