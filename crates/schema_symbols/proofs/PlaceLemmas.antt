-- The scopes of files by their indices.
use Rattle.std.proofs.Common.{◌≡◌, ℕ, suc, ◌+◌, ◌<◌, ◌≤◌, ◌^◌, ⊎_elim, Bool, true, false, List, [], ◌∷◌, ◌++◌, length}
use Rattle.std.proofs.Common.{take, drop, get_or, Option, Some, None, refl, ap, sym, ◌∙◌, subst, arith, length-append}
use Rattle.std.specs.Prelude.{slice_get, ◌==◌, ◌↔◌, Contains, MatchOption, IfSome, ◌≢◌, nat_lt}
use Rattle.std.specs.List.{list_any}
use Rattle.std.proofs.lemmas.Bool.{cases_lt, eqb-true, eq-eqb, or_cases, ltb-true, lt-ltb}
use Rattle.std.proofs.lemmas.List.{take-append-drop, take_at, length-take-le, take_all, take-append-le, get_or_default}
use Rattle.std.proofs.lemmas.List.Folds.{list_any_at}
use Rattle.std.proofs.lemmas.Option.{same_Some, slice_get_within, slice_get_read, slice_get_past}
use Rattle.proto_ast.specs.Joined.{Joined, CanSee, package_at, package_in}
use Rattle.proto_ast.specs.declared.joined.Head.{Head}
use Rattle.proto_ast.specs.declared.joined.Enclosing.{Enclosing}
use Rattle.proto_ast.specs.declared.joined.Enclosing.TheVariants as home
use Rattle.schema_symbols.specs.Scopes.{IsScope, of_file, of_message, IsPackagePrefix}
use Rattle.schema_symbols.specs.Numbers.{AreWellNested, IsEnclosing, IsListedScope, a_front, a_message_scope, IsScopeNumber, prefixes_before, all_prefix_count, scope_count}
use Rattle.schema_symbols.specs.Children.{child}
use Rattle.schema_symbols.specs.Parts.{IsLastIndex}
use Rattle.schema_symbols.specs.PackagePrefixes.{HasPackagePrefix, CanSeePrefix}
use Rattle.schema_symbols.specs.Numbered.{HasNumberedScopes, AreDepths, IsPackage, ArePackages}
use Rattle.schema_symbols.specs.ScopeIndicesKept.{AreIndicesOf, AreScopeIndices}
use Rattle.schema_symbols.specs.declared.numbering.Numbering.{Numbering}
use Rattle.schema_symbols.specs.declared.numbering.Package.{Package}
use Rattle.schema_symbols.specs.declared.scope_indices.ScopeIndices.TheInside.{Inside}
use Rattle.schema_symbols.proofs.ScopeLemmas.{number_full, number_same, listed_small, front_small, item_at, message_place}
use Rattle.schema_symbols.proofs.NumberLemmas.{front_listed}

pub kept_places : (p : Inside) {F : Joined} → p.files ≡ F → AreScopeIndices p → AreIndicesOf F p
kept_places p e h = subst (λ (G : Joined). AreIndicesOf G p) e h

-- ---- numbers

pub package_known : {F : Joined} {ps : List Package} → ArePackages F (length F.heads) ps → (file : ℕ) (p : Package)
    → file < length F.heads → p ≡ get_or ps file p → IsPackage F file p
package_known {F} {ps} known file p l is = known.each file p (slice_get_read ps (length ps) file p refl (omega (arith, known.count)) is)

pub inner_known : {F : Joined} {x : Numbering} {outer : List (List ℕ)} {k : ℕ} → HasNumberedScopes F (scope_count F) x
    → IsScopeNumber F outer k → (name : List ℕ) (o : Option ℕ) → o ≡ child x.inner k name
    → MatchOption o ((place : ℕ) → IsListedScope F place (outer ++ name ∷ []) → ⊥) (IsScopeNumber F (outer ++ name ∷ []))
inner_known {F} {x} {outer} {k} h n name None e = λ place listed.
    let w = h.inner.whole place outer name k (listed_small listed) listed n in
    let z : None ≡ Some w.0 = e ∙ w.1 in
    cc
inner_known {F} {x} {outer} {k} h n name (Some v) e =
    let r = h.inner.sound k name v (sym e) in
    subst (λ (q : List (List ℕ)). IsScopeNumber F (q ++ name ∷ []) v) (number_full r.1 n) r.2

pub package_small : (F : Joined) (file : ℕ) → file < length F.heads → scope_count F < 2 ^ 62 → prefixes_before F file + length (package_at F file) < 2 ^ 62
package_small F file l few = omega (arith, front_small F file (length (package_at F file)) l (omega arith))

pub front_known : {F : Joined} {p : Inside} (file d k : ℕ) → AreIndicesOf F p → file < length F.heads
    → d ≤ length (package_at F file) → k ≡ prefixes_before F file + d
    → IsScopeNumber F (take d (package_at F file)) (get_or p.numbering.numbers.items k 0)
front_known {F} {p} file d k h l short e =
    let listed : IsListedScope F k (take d (package_at F file)) = subst (λ (q : ℕ). IsListedScope F q (take d (package_at F file))) (sym e) (front_listed F file d l short) in
    h.numbers.numbers.each k (take d (package_at F file)) (omega (arith, front_small F file d l short, h.numbers.count)) listed

-- ---- prefixes of packages

front_in : {F : Joined} {k : ℕ} {full : List (List ℕ)} → IsListedScope F k full → k < all_prefix_count F → IsPackagePrefix F full
front_in {F} (a_front file n there short at is) less = record {
  file = file;
  rest = drop n (package_at F file);
  begins = sym (take-append-drop n (package_at F file)) ∙ ap (λ (q : List (List ℕ)). q ++ drop n (package_at F file)) (sym is);
}
front_in (a_message_scope i at up) less = absurd (omega arith)

pub begins_there : (F : Joined) (file : ℕ) (full rest : List (List ℕ)) → package_at F file ≡ full ++ rest → 0 < length full → file < length F.heads
begins_there F file full rest e some =
    ⊎_elim
    (λ (l : file < length F.heads). l)
    (λ (past : length F.heads ≤ file).
    let none : package_at F file ≡ [] = ap package_in (slice_get_past F.heads file past) in
    absurd (omega (arith, ap length e, ap length none, length-append full rest)))
    (cases_lt file (length F.heads))

-- a package that starts with a scope has a prefix of that name
pub record FrontOf (F : Joined) (file : ℕ) (full : List (List ℕ)) : Type 0 where
  pub there : file < length F.heads
  pub short : length full ≤ length (package_at F file)
  pub is : take (length full) (package_at F file) ≡ full

pub front_of : (F : Joined) (file : ℕ) (full rest : List (List ℕ)) → package_at F file ≡ full ++ rest → 0 < length full → FrontOf F file full
front_of F file full rest e some = record {
  there = begins_there F file full rest e some;
  short = omega (arith, ap length e, length-append full rest);
  is = ap (take (length full)) e ∙ take_at full rest (length full) refl;
}

pub front_first : {F : Joined} {full : List (List ℕ)} {k : ℕ} (file : ℕ) → FrontOf F file full → IsScopeNumber F full k → k ≤ prefixes_before F file + length full
front_first {F} {full} {k} file f n =
    ⊎_elim
    (λ (less : prefixes_before F file + length full < k).
    absurd (n.first (prefixes_before F file + length full) less (a_front file (length full) f.there f.short refl (sym f.is))))
    (λ (le : k ≤ prefixes_before F file + length full). le)
    (cases_lt (prefixes_before F file + length full) k)

pub front_number : {F : Joined} {full : List (List ℕ)} {k : ℕ} (file : ℕ) → FrontOf F file full → IsScopeNumber F full k → k < all_prefix_count F
front_number {F} {full} {k} file f n = omega (arith, front_first file f n, front_small F file (length full) f.there f.short)

pub is_front_iff : {F : Joined} {full : List (List ℕ)} (k n : ℕ) (b : Bool) → n ≡ all_prefix_count F → b ≡ nat_lt k n
    → 0 < length full → IsScopeNumber F full k → (b ≡ true) ↔ IsPackagePrefix F full
is_front_iff {F} {full} k n b e is some number = (
  λ h. front_in number.listed (let l : k < n = ltb-true k n (sym is ∙ h) in omega arith),
  λ f. is ∙ lt-ltb k n (let l : k < all_prefix_count F = front_number f.file (front_of F f.file full f.rest f.begins some) number in omega arith),
)

listed_depth : {F : Joined} {k : ℕ} {full : List (List ℕ)} {depths : List ℕ} → AreDepths F (all_prefix_count F) depths
    → IsListedScope F k full → k < all_prefix_count F → get_or depths k 0 ≡ length full
listed_depth {F} {k} {full} {depths} h (a_front file n there short at is) less =
    let e : get_or depths k 0 ≡ n = ap (λ (q : ℕ). get_or depths q 0) at ∙ h.each file n there short (omega arith) in
    e ∙ sym (length-take-le n (package_at F file) short) ∙ ap length (sym is)
listed_depth h (a_message_scope i at up) less = absurd (omega arith)

pub depth_known : {F : Joined} {k : ℕ} {full : List (List ℕ)} {depths : List ℕ} → AreDepths F (all_prefix_count F) depths
    → IsScopeNumber F full k → k < all_prefix_count F → get_or depths k 0 ≡ length full
depth_known h n less = listed_depth h n.listed less

pub has_front_iff : {F : Joined} {full : List (List ℕ)} (file v scope : ℕ) (b : Bool) → file < length F.heads
    → length full ≤ length (package_at F file) → 0 < length full → IsScopeNumber F full scope
    → IsScopeNumber F (take (length full) (package_at F file)) v → b ≡ (v == scope) → (b ≡ true) ↔ HasPackagePrefix F file full
has_front_iff {F} {full} file v scope b there short some number its is = (
  λ h.
      let e : v ≡ scope = eqb-true v scope (sym is ∙ h) in
      let same : take (length full) (package_at F file) ≡ full = number_full (subst (IsScopeNumber F (take (length full) (package_at F file))) e its) number in
      record {
        rest = drop (length full) (package_at F file);
        begins = sym (take-append-drop (length full) (package_at F file)) ∙ ap (λ (q : List (List ℕ)). q ++ drop (length full) (package_at F file)) same;
      },
  λ f.
      let g = front_of F file full f.rest f.begins some in
      is ∙ eq-eqb v scope (number_same its (subst (λ (q : List (List ℕ)). IsScopeNumber F q scope) (sym g.is) number)),
)

pub too_long : {F : Joined} {full : List (List ℕ)} (file : ℕ) → length (package_at F file) < length full → HasPackagePrefix F file full → ⊥
too_long {F} {full} file long f = omega (arith, ap length f.begins, length-append full f.rest)

pub not_seen : {F : Joined} {full : List (List ℕ)} {k : ℕ} (file : ℕ) → 0 < length full → IsScopeNumber F full k → all_prefix_count F ≤ k → CanSeePrefix F file full → ⊥
not_seen {F} {full} {k} file some n past s =
    omega (arith, front_number s.other (front_of F s.other full s.its_front.rest s.its_front.begins some) n)

-- ---- the files that a file sees

any_contains : (x : ℕ) (xs : List ℕ) → list_any (λ y. y == x) xs ≡ true → Contains xs x
any_contains x [] e = absurd cc
any_contains x (y ∷ ys) e =
    ⊎_elim
    (λ (h : (y == x) ≡ true). (0, omega arith, eqb-true y x h))
    (λ (h : list_any (λ z. z == x) ys ≡ true). let r = any_contains x ys h in (suc r.0, omega (arith, r.1), r.2))
    (or_cases (y == x) (list_any (λ z. z == x) ys) e)

pub sees_iff : {F : Joined} (hs : List Head) (file other : ℕ) (h : Head) (b : Bool) → hs ≡ F.heads
    → file < length F.heads → h ≡ get_or hs file h → b ≡ list_any (λ y. y == other) h.sees → (b ≡ true)
    ↔ CanSee F file other
sees_iff {F} hs file other h b e l is any =
    let at : slice_get F.heads file ≡ Some h = item_at hs F.heads file h e l is in (
      λ t. record { head = h; at = at; among = any_contains other h.sees (sym any ∙ t) },
      λ s.
          let same : s.head ≡ h = same_Some s.head h (sym s.at ∙ at) in
          let c : Contains h.sees other = subst (λ (q : Head). Contains q.sees other) same s.among in
          any ∙ list_any_at (λ y. y == other) h.sees c.0 other c.1 (eq-eqb (get_or h.sees c.0 other) other c.2),
    )

-- ---- each prefix of a scope is listed

pub scope_listed : {F : Joined} {p : Enclosing} {s : List (List ℕ)} → AreWellNested F → IsEnclosing F p → IsScope F p s → (n : ℕ)
    → n ≤ length s → (place : ℕ) × IsListedScope F place (take n s)
scope_listed {F} behind there (of_file k) n short = (prefixes_before F k + n, front_listed F k n there short)
scope_listed {F} behind there (of_message i m {outer} at up) n short =
    ⊎_elim
    (λ (whole : length outer < n).
    let all : take n (outer ++ m.name.name ∷ []) ≡ outer ++ m.name.name ∷ [] =
    take_all n (outer ++ m.name.name ∷ []) (omega (arith, length-append outer (m.name.name ∷ []))) in
    (all_prefix_count F + i, a_message_scope i refl (subst (IsScope F (home.Message i)) (sym all) (of_message i m at up))))
    (λ (part : n ≤ length outer).
    let front : take n (outer ++ m.name.name ∷ []) ≡ take n outer = take-append-le n outer (m.name.name ∷ []) part in
    let r = scope_listed behind (message_place behind i m at) up n part in
    (r.0, subst (IsListedScope F r.0) (sym front) r.1))
    (cases_lt (length outer) n)

-- ---- results

pub no_iff : {P : Type 0} → (P → ⊥) → (false ≡ true) ↔ P
no_iff none = (λ h. absurd cc, λ p. absurd (none p))

pub yes_iff : {P : Type 0} → P → (true ≡ true) ↔ P
yes_iff p = (λ h. p, λ q. refl)

pub seen_at : {F : Joined} (hs : List Head) (sees : List ℕ) (file i : ℕ) (h : Head) → hs ≡ F.heads
    → file < length F.heads → h ≡ get_or hs file h → sees ≡ h.sees → i < length sees → CanSee F file (get_or sees i 0)
seen_at {F} hs sees file i h e l is same less =
    let c : Contains sees (get_or sees i 0) = (i, less, get_or_default sees i (get_or sees i 0) 0 less) in
    record { head = h; at = item_at hs F.heads file h e l is; among = subst (λ q. Contains q (get_or sees i 0)) same c }

pub none_seen : {F : Joined} {full : List (List ℕ)} (hs : List Head) (sees : List ℕ) (file n : ℕ) (h : Head)
    → hs ≡ F.heads → file < length F.heads → h ≡ get_or hs file h → sees ≡ h.sees → length sees ≤ n
    → ((j : ℕ) → j < n → HasPackagePrefix F (get_or sees j 0) full → ⊥) → CanSeePrefix F file full → ⊥
none_seen {F} {full} hs sees file n h e l is same long none s =
    let head : s.seen.head ≡ h = same_Some s.seen.head h (sym s.seen.at ∙ item_at hs F.heads file h e l is) in
    let c : Contains sees s.other = subst (λ q. Contains q s.other) (sym same) (subst (λ (q : Head). Contains q.sees s.other) head s.seen.among) in
    let at : s.other ≡ get_or sees c.0 0 = sym c.2 ∙ get_or_default sees c.0 s.other 0 c.1 in
    none c.0 (omega (arith, c.1)) (subst (λ (q : ℕ). HasPackagePrefix F q full) at s.its_front)

pub no_iff_at : {b : Bool} {P : Type 0} → b ≡ false → (P → ⊥) → (b ≡ true) ↔ P
no_iff_at e none = (λ h. absurd (let z : true ≡ false = sym h ∙ e in cc), λ p. absurd (none p))

pub last_few : (F : Joined) (file : ℕ) (part : List ℕ) (o : Option ℕ) → file < length F.heads → scope_count F < 2 ^ 62
    → MatchOption o ((i : ℕ) → slice_get (package_at F file) i ≢ Some part) (IsLastIndex (package_at F file) part)
    → IfSome o (λ i. i < 2 ^ 62)
last_few F file part None l few h = tt
last_few F file part (Some i) l few h =
    omega (arith, slice_get_within (package_at F file) i part h.0, package_small F file l few)
