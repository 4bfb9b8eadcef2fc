-- The first of the recorded violations.
use Rattle.std.proofs.Common.{◌≡◌, ℕ, ◌+◌, ◌<◌, ◌≤◌, ◌⊎◌, inl, inr, Bool, true, false, cond, List, length, get_or}
use Rattle.std.proofs.Common.{leb, leb-true, le-leb, refl, sym, ap, ◌∙◌, subst, arith}
use Rattle.std.specs.Prelude.{Option, Some, None, slice_get}
use Rattle.std.proofs.lemmas.Bool.{cases_lt, false≢true}
use Rattle.std.proofs.lemmas.Bool.Decides.{nat_tests}
use Rattle.std.proofs.lemmas.Option.{same_Some, slice_get_within, slice_get_read, slice_get-get_or}
use Rattle.proto_ast.specs.declared.file.Span.{Span}
use Rattle.schema_validation.specs.Violations.{IsNoLaterViolation, violation_rank}
use Rattle.schema_validation.specs.Members.{Is}
use Rattle.schema_validation.specs.Recording.{comes_before, first_violation_of, IsWhere, IsKeptBefore, HasRecorded, IsOfFirst, IsOfAny, IsOfElement}
use Rattle.schema_validation.specs.declared.reason.ResolveReason.{ResolveReason}
use Rattle.schema_validation.specs.declared.first.Violation.{Violation}
use Rattle.schema_validation.specs.declared.first.FirstViolation.{FirstViolation}

-- ---- the order

pub comes_same : (q : ResolveReason) (s : Span) → IsNoLaterViolation q s q s
comes_same q s = inr (refl, omega arith)

pub comes_trans : (q r p : ResolveReason) (s t u : Span) → IsNoLaterViolation q s r t → IsNoLaterViolation r t p u → IsNoLaterViolation q s p u
comes_trans q r p s t u (inl a) (inl b) = inl (omega arith)
comes_trans q r p s t u (inl a) (inr b) = let e : t.start ≡ u.start = b.0 in inl (omega arith)
comes_trans q r p s t u (inr a) (inl b) = let e : s.start ≡ t.start = a.0 in inl (omega arith)
comes_trans q r p s t u (inr a) (inr b) =
    let d : s.start ≡ t.start = a.0 in
    let e : t.start ≡ u.start = b.0 in
    let k : violation_rank q ≤ violation_rank r = a.1 in
    let l : violation_rank r ≤ violation_rank p = b.1 in
    inr (omega arith, omega arith)

after_true : (a b : Violation) → comes_before a b ≡ true → IsNoLaterViolation a.reason a.span b.reason b.span
after_true a b e = grind (arith, nat_tests)

after_false : (a b : Violation) → comes_before a b ≡ false → IsNoLaterViolation b.reason b.span a.reason a.span
after_false a b e = grind (arith, nat_tests)

cases : (b : Bool) → (b ≡ true) ⊎ (b ≡ false)
cases true = inl refl
cases false = inr refl

at_true : {X : Type 0} (b : Bool) (x y z : X) → b ≡ true → z ≡ cond b x y → z ≡ x
at_true true x y z e h = h
at_true false x y z e h = absurd (false≢true e)

at_false : {X : Type 0} (b : Bool) (x y z : X) → b ≡ false → z ≡ cond b x y → z ≡ y
at_false true x y z e h = absurd (false≢true (sym e))
at_false false x y z e h = h

-- ---- the kept violation

pub kept_trans : (found : Option Violation) (q r : ResolveReason) (s t : Span) → IsKeptBefore found q s
    → IsNoLaterViolation q s r t
    → IsKeptBefore found r t
kept_trans None q r s t k c = k
kept_trans (Some o) q r s t k c = comes_trans o.reason q r o.span s t k c

pub kept_itself : (found : Option Violation) (o : Violation) → found ≡ Some o → IsKeptBefore found o.reason o.span
kept_itself found o e = subst (λ (f : Option Violation). IsKeptBefore f o.reason o.span) (sym e)
    (comes_same o.reason o.span)

kept_later_at : (P : ResolveReason → Span → Type 0) (a b : FirstViolation) (q : ResolveReason) (s : Span)
    (found : Option Violation)
    → a.found ≡ found → HasRecorded P a b → IsKeptBefore found q s → IsKeptBefore b.found q s
kept_later_at P a b q s None e m k = absurd k
kept_later_at P a b q s (Some o) e m k = kept_trans b.found o.reason q o.span s (m.before o e) k

pub kept_later : (P : ResolveReason → Span → Type 0) (a b : FirstViolation) (q : ResolveReason) (s : Span) → HasRecorded P a b
    → IsKeptBefore a.found q s → IsKeptBefore b.found q s
kept_later P a b q s m k = kept_later_at P a b q s a.found refl m k

-- ---- recorded violations

noted_one : (found : Option Violation) (o : Violation) → (found ≡ Some (first_violation_of found o)) ⊎ (first_violation_of found o ≡ o)
noted_one None o = inr refl
noted_one (Some f) o = elim (cases (comes_before o f)) [
  | inl e ↦ inr (at_true (comes_before o f) o f (first_violation_of (Some f) o) e refl)
  | inr e ↦ inl (ap Some (sym (at_false (comes_before o f) o f (first_violation_of (Some f) o) e refl)))
]

noted_new : (found : Option Violation) (o : Violation)
    → IsNoLaterViolation (first_violation_of found o).reason (first_violation_of found o).span o.reason o.span
noted_new None o = comes_same o.reason o.span
noted_new (Some f) o = elim (cases (comes_before o f)) [
  | inl e ↦ subst (λ (x : Violation). IsNoLaterViolation x.reason x.span o.reason o.span)
      (sym (at_true (comes_before o f) o f (first_violation_of (Some f) o) e refl)) (comes_same o.reason o.span)
  | inr e ↦ subst (λ (x : Violation). IsNoLaterViolation x.reason x.span o.reason o.span)
      (sym (at_false (comes_before o f) o f (first_violation_of (Some f) o) e refl)) (after_false o f e)
]

noted_old : (found : Option Violation) (o p : Violation) → found ≡ Some p
    → IsNoLaterViolation (first_violation_of found o).reason (first_violation_of found o).span p.reason p.span
noted_old None o p e = absurd cc
noted_old (Some f) o p e =
    subst (λ (y : Violation). IsNoLaterViolation (first_violation_of (Some f) o).reason (first_violation_of (Some f) o).span y.reason y.span)
    (same_Some f p e)
    (elim (cases (comes_before o f)) [
      | inl h ↦ subst (λ (x : Violation). IsNoLaterViolation x.reason x.span f.reason f.span)
          (sym (at_true (comes_before o f) o f (first_violation_of (Some f) o) h refl)) (after_true o f h)
      | inr h ↦ subst (λ (x : Violation). IsNoLaterViolation x.reason x.span f.reason f.span)
          (sym (at_false (comes_before o f) o f (first_violation_of (Some f) o) h refl)) (comes_same f.reason f.span)
    ])

-- one violation is recorded
pub meets_noted : (reason : ResolveReason) (span : Span) (a b : FirstViolation)
    → b.found ≡ Some (first_violation_of a.found (record { reason = reason; span = span })) → HasRecorded (Is reason span) a b
meets_noted reason span a b is =
    let o : Violation = record { reason = reason; span = span } in
    record {
      one = λ p e.
          let same : p ≡ first_violation_of a.found o = same_Some p (first_violation_of a.found o) (sym e ∙ is) in
          elim (noted_one a.found o) [
            | inl x ↦ inl (x ∙ ap Some (sym same))
            | inr x ↦
                let e : p ≡ o = same ∙ x in
                inr (ap (λ (y : Violation). y.reason) e, ap (λ (y : Violation). y.span) e)
          ];
      first = λ q s p. subst (λ (f : Option Violation). IsKeptBefore f q s) (sym is)
          (subst (λ (r : ResolveReason). IsNoLaterViolation (first_violation_of a.found o).reason (first_violation_of a.found o).span r s) (sym p.0)
          (subst (λ (t : Span). IsNoLaterViolation (first_violation_of a.found o).reason (first_violation_of a.found o).span reason t) (sym p.1)
          (noted_new a.found o)));
      before = λ p e. subst (λ (f : Option Violation). IsKeptBefore f p.reason p.span) (sym is) (noted_old a.found o p e);
    }

pub meets_none : (P : ResolveReason → Span → Type 0) (a : FirstViolation) → ((q : ResolveReason) (s : Span) → P q s → ⊥)
    → HasRecorded P a a
meets_none P a none = record {
  one = λ o e. inl e;
  first = λ q s p. absurd (none q s p);
  before = λ o e. kept_itself a.found o e;
}

pub meets_then : (P Q : ResolveReason → Span → Type 0) (a b c : FirstViolation) → HasRecorded P a b → HasRecorded Q b c
    → HasRecorded (λ q s. P q s ⊎ Q q s) a c
meets_then P Q a b c m n = record {
  one = λ o e. elim (n.one o e) [
    | inl x ↦ elim (m.one o x) [ inl y ↦ inl y | inr y ↦ inr (inl y) ]
    | inr x ↦ inr (inr x)
  ];
  first = λ q s p. elim p [
    | inl x ↦ kept_later Q b c q s n (m.first q s x)
    | inr x ↦ n.first q s x
  ];
  before = λ o e. kept_later Q b c o.reason o.span n (m.before o e);
}

-- the same violations under another name
pub meets_as : (P Q : ResolveReason → Span → Type 0) (a b : FirstViolation) → HasRecorded P a b
    → ((q : ResolveReason) (s : Span) → P q s → Q q s) → ((q : ResolveReason) (s : Span) → Q q s → P q s)
    → HasRecorded Q a b
meets_as P Q a b m to from = record {
  one = λ o e. elim (m.one o e) [ inl x ↦ inl x | inr x ↦ inr (to o.reason o.span x) ];
  first = λ q s p. m.first q s (from q s p);
  before = m.before;
}

-- nothing is recorded
pub meets_kept : (P : ResolveReason → Span → Type 0) (a b : FirstViolation) → ((q : ResolveReason) (s : Span) → P q s → ⊥)
    → b.found ≡ a.found → HasRecorded P a b
meets_kept P a b none e = record {
  one = λ o h. inl (sym e ∙ h);
  first = λ q s p. absurd (none q s p);
  before = λ o h. kept_itself b.found o (e ∙ h);
}

where_at : (holds h : Bool) (reason : ResolveReason) (span : Span) (a b : FirstViolation) → holds ≡ h
    → b.found ≡ cond h (Some (first_violation_of a.found (record { reason = reason; span = span }))) a.found
    → HasRecorded (IsWhere holds reason span) a b
where_at holds true reason span a b e is =
    meets_as (Is reason span) (IsWhere holds reason span) a b (meets_noted reason span a b is) (λ q s p. (e, p))
    (λ q s p. p.1)
where_at holds false reason span a b e is =
    meets_kept (IsWhere holds reason span) a b (λ q s p. absurd (false≢true (sym e ∙ p.0))) is

-- one violation is recorded if a test holds
pub meets_where : (holds : Bool) (reason : ResolveReason) (span : Span) (a b : FirstViolation)
    → b.found ≡ cond holds (Some (first_violation_of a.found (record { reason = reason; span = span }))) a.found
    → HasRecorded (IsWhere holds reason span) a b
meets_where holds reason span a b is = where_at holds holds reason span a b refl is

-- one is recorded if a test holds that decides P
pub meets_when : (P : Type 0) (holds : Bool) (reason : ResolveReason) (span : Span) (a b : FirstViolation)
    → (holds ≡ true → P) → (P → holds ≡ true)
    → b.found ≡ cond holds (Some (first_violation_of a.found (record { reason = reason; span = span }))) a.found
    → HasRecorded (λ q s. P × Is reason span q s) a b
meets_when P holds reason span a b to from is =
    meets_as (IsWhere holds reason span) (λ q s. P × Is reason span q s) a b (meets_where holds reason span a b is)
    (λ q s p. (to p.0, p.1)) (λ q s p. (from p.0, p.1))

-- one is recorded if a number is at least a limit
pub meets_least : (limit n : ℕ) (reason : ResolveReason) (span : Span) (a b : FirstViolation)
    → b.found ≡ cond (leb limit n) (Some (first_violation_of a.found (record { reason = reason; span = span }))) a.found
    → HasRecorded (λ q s. (limit ≤ n) × Is reason span q s) a b
meets_least limit n reason span a b is =
    meets_when (limit ≤ n) (leb limit n) reason span a b (leb-true limit n) (le-leb limit n) is

-- ---- the start and the step of a loop

pub meets_start : (P : ℕ → ResolveReason → Span → Type 0) (a : FirstViolation) → HasRecorded (IsOfFirst 0 P) a a
meets_start P a = meets_none (IsOfFirst 0 P) a (λ q s p. let l : p.place < 0 = p.below in omega arith)

more_to : (P : ℕ → ResolveReason → Span → Type 0) (i : ℕ) (q : ResolveReason) (s : Span)
    → (IsOfFirst i P q s ⊎ P i q s) → IsOfFirst (i + 1) P q s
more_to P i q s (inl p) =
    let l : p.place < i = p.below in
    record { place = p.place; below = omega arith; is = p.is }
more_to P i q s (inr p) = record { place = i; below = omega arith; is = p }

more_from : (P : ℕ → ResolveReason → Span → Type 0) (i : ℕ) (q : ResolveReason) (s : Span)
    → IsOfFirst (i + 1) P q s → IsOfFirst i P q s ⊎ P i q s
more_from P i q s p =
    let l : p.place < i + 1 = p.below in
    elim (cases_lt p.place i) [
      | inl k ↦ inl (record { place = p.place; below = k; is = p.is })
      | inr k ↦ inr (subst (λ (j : ℕ). P j q s) (let e : p.place ≡ i = omega arith in e) p.is)
    ]

pub meets_more : (P : ℕ → ResolveReason → Span → Type 0) (i : ℕ) (a b c : FirstViolation) → HasRecorded (IsOfFirst i P) a b
    → HasRecorded (P i) b c → HasRecorded (IsOfFirst (i + 1) P) a c
meets_more P i a b c m n =
    meets_as (λ q s. IsOfFirst i P q s ⊎ P i q s) (IsOfFirst (i + 1) P) a c (meets_then (IsOfFirst i P) (P i) a b c m n)
    (more_to P i) (more_from P i)

-- ---- the elements of a list

pub meets_element : {X : Type 0} (xs : List X) (R : ℕ → X → ResolveReason → Span → Type 0) (i : ℕ) (x : X) (a b : FirstViolation)
    → slice_get xs i ≡ Some x → HasRecorded (R i x) a b → HasRecorded (IsOfElement xs R i) a b
meets_element xs R i x a b at m =
    meets_as (R i x) (IsOfElement xs R i) a b m (λ q s r. record { element = x; at = at; is = r })
    (λ q s o. subst (λ y. R i y q s) (same_Some o.element x (sym o.at ∙ at)) o.is)

pub item_at : {X : Type 0} (xs ys : List X) (i : ℕ) (x : X) → xs ≡ ys → i < length ys → x ≡ get_or xs i x
    → slice_get ys i ≡ Some x
item_at xs ys i x e l is = slice_get_read ys (length ys) i x refl l (is ∙ ap (λ zs. get_or zs i x) e)

pub got_at : {X : Type 0} (xs ys : List X) (i : ℕ) (d : X) → xs ≡ ys → i < length ys
    → slice_get ys i ≡ Some (get_or xs i d)
got_at xs ys i d e l = slice_get-get_or ys i d l ∙ ap (λ zs. Some (get_or zs i d)) (sym e)

pub meets_all : (P : ℕ → ResolveReason → Span → Type 0) (n : ℕ) (a b : FirstViolation)
    → ((i : ℕ) (q : ResolveReason) (s : Span) → P i q s → i < n) → HasRecorded (IsOfFirst n P) a b → HasRecorded (IsOfAny P) a b
meets_all P n a b below m =
    meets_as (IsOfFirst n P) (IsOfAny P) a b m (λ q s o. record { place = o.place; is = o.is })
    (λ q s o. record { place = o.place; below = below o.place q s o.is; is = o.is })

pub meets_elements : {X : Type 0} (xs : List X) (R : ℕ → X → ResolveReason → Span → Type 0) (n : ℕ) (a b : FirstViolation)
    → n ≡ length xs → HasRecorded (IsOfFirst n (IsOfElement xs R)) a b → HasRecorded (IsOfAny (IsOfElement xs R)) a b
meets_elements xs R n a b e m =
    meets_all (IsOfElement xs R) n a b
    (λ i q s o. let l : i < length xs = slice_get_within xs i o.element o.at in omega arith) m

-- the step of a loop over the elements
pub meets_next : {X : Type 0} (xs : List X) (R : ℕ → X → ResolveReason → Span → Type 0) (i : ℕ) (x : X) (a b c : FirstViolation)
    → slice_get xs i ≡ Some x → HasRecorded (IsOfFirst i (IsOfElement xs R)) a b → HasRecorded (R i x) b c
    → HasRecorded (IsOfFirst (i + 1) (IsOfElement xs R)) a c
meets_next xs R i x a b c at m n = meets_more (IsOfElement xs R) i a b c m (meets_element xs R i x b c at n)

-- ---- the end

-- what is kept after all of them are recorded is one of them
pub kept_is_one : (P : ResolveReason → Span → Type 0) (a b : FirstViolation) (o : Violation) → a.found ≡ None → HasRecorded P a b
    → b.found ≡ Some o → P o.reason o.span
kept_is_one P a b o none m e = elim (m.one o e) [ inl x ↦ absurd cc | inr x ↦ x ]

pub kept_is_first : (P : ResolveReason → Span → Type 0) (a b : FirstViolation) (o : Violation) → HasRecorded P a b → b.found ≡ Some o
    → (q : ResolveReason) (s : Span) → P q s → IsNoLaterViolation o.reason o.span q s
kept_is_first P a b o m e q s p = subst (λ (f : Option Violation). IsKeptBefore f q s) e (m.first q s p)

pub kept_is_none : (P : ResolveReason → Span → Type 0) (a b : FirstViolation) → HasRecorded P a b → b.found ≡ None
    → (q : ResolveReason) (s : Span) → P q s → ⊥
kept_is_none P a b m e q s p = subst (λ (f : Option Violation). IsKeptBefore f q s) e (m.first q s p)
