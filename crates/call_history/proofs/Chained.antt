-- Entries of a chain by their names and positions.
use Rattle.std.proofs.Common.{◌≡◌, ◌≢◌, ℕ, ◌<◌, zero, suc, cond, inl, inr, List, [], ◌∷◌, ◌++◌, length, take, refl, sym, ap, ◌∙◌, subst, arith}
use Rattle.std.specs.Prelude.{All, Contains, find, slice_get, slice_index_or, Some}
use Rattle.std.proofs.lemmas.List.Elements.{Contains-get_or}
use Rattle.mrpc_table.specs.Valid.{AreDistinct}
use Rattle.engine_core.specs.Chains.{Entry, names_of}
use Rattle.engine_core.specs.Chains.{is_named}
use Rattle.call_history.proofs.Further.{contains-cases, contains-first, contains-later}
use Rattle.call_history.proofs.Looking.{equal-name, other-name}

-- ---- the entry at a position

pub record IsCut (es : List Entry) (place : ℕ) (e : Entry) : Type 0 where
  pub front : List Entry
  pub back : List Entry
  pub entries : es ≡ front ++ e ∷ back
  pub before : take place es ≡ front
  pub through : take (suc place) es ≡ front ++ e ∷ []
  pub within : place < length es

pub cut : (es : List Entry) (place : ℕ) (e : Entry) → slice_get es place ≡ Some e → IsCut es place e
cut [] place e at = absurd cc
cut (x ∷ es) zero e at =
    let same : x ≡ e = cc in
    record { front = []; back = es; entries = ap (λ (y : Entry). y ∷ es) same; before = refl; through = ap (λ (y : Entry). y ∷ []) same; within = omega arith }
cut (x ∷ es) (suc place) e at =
    let rest = cut es place e at in
    record {
      front = x ∷ rest.front;
      back = rest.back;
      entries = ap (λ (ys : List Entry). x ∷ ys) rest.entries;
      before = ap (λ (ys : List Entry). x ∷ ys) rest.before;
      through = ap (λ (ys : List Entry). x ∷ ys) rest.through;
      within = omega (arith, rest.within);
    }

-- ---- names

pub named-there : (es : List Entry) (e : Entry) → Contains es e → Contains (names_of es) e.name
named-there [] e has = absurd (omega (arith, has.1))
named-there (x ∷ es) e has = elim (contains-cases x es e has) [
  | inl same ↦ contains-first x.name (names_of es) e.name (ap (λ (y : Entry). y.name) same)
  | inr rest ↦ contains-later x.name (names_of es) e.name (named-there es e rest)
]

pub contains-middle : (front back : List Entry) (e : Entry) → Contains (front ++ e ∷ back) e
contains-middle [] back e = contains-first e back e refl
contains-middle (x ∷ front) back e = contains-later x (front ++ e ∷ back) e (contains-middle front back e)

pub contains-in : (es front back : List Entry) (e : Entry) → es ≡ front ++ e ∷ back → Contains es e
contains-in es front back e is = subst (λ (xs : List Entry). Contains xs e) (sym is) (contains-middle front back e)

-- no two entries have the same name
pub same-entry : (es : List Entry) (a b : Entry) → AreDistinct (names_of es) → Contains es a → Contains es b → a.name ≡ b.name → a ≡ b
same-entry [] a b apart has_a has_b same = absurd (omega (arith, has_a.1))
same-entry (x ∷ es) a b apart has_a has_b same = elim (contains-cases x es a has_a) [
  | inl is_a ↦ elim (contains-cases x es b has_b) [
    | inl is_b ↦ sym is_a ∙ is_b
    | inr in_b ↦ absurd (apart.0 (subst (λ (n : List ℕ). Contains (names_of es) n) (sym same ∙ ap (λ (y : Entry). y.name) (sym is_a)) (named-there es b in_b)))
  ]
  | inr in_a ↦ elim (contains-cases x es b has_b) [
    | inl is_b ↦ absurd (apart.0 (subst (λ (n : List ℕ). Contains (names_of es) n) (same ∙ ap (λ (y : Entry). y.name) (sym is_b)) (named-there es a in_a)))
    | inr in_b ↦ same-entry es a b apart.1 in_a in_b same
  ]
]

-- entries before one have other names
pub front-apart : (front back : List Entry) (e x : Entry) → AreDistinct (names_of (front ++ e ∷ back)) → Contains front x → x.name ≢ e.name
front-apart [] back e x apart has same = absurd (omega (arith, has.1))
front-apart (y ∷ front) back e x apart has same = elim (contains-cases y front x has) [
  | inl is ↦ apart.0 (subst (λ (n : List ℕ). Contains (names_of (front ++ e ∷ back)) n)
      (sym same ∙ ap (λ (z : Entry). z.name) (sym is))
      (named-there (front ++ e ∷ back) e (contains-middle front back e)))
  | inr rest ↦ front-apart front back e x apart.1 rest same
]

-- looking a name up gives its entry
pub find-entry : (front back : List Entry) (e : Entry) → AreDistinct (names_of (front ++ e ∷ back)) → find (is_named e.name) (front ++ e ∷ back) ≡ Some e
find-entry [] back e apart = ap (λ b. cond b (Some e) (find (is_named e.name) back)) (equal-name e.name e.name refl)
find-entry (x ∷ front) back e apart =
    ap (λ b. cond b (Some x) (find (is_named e.name) (front ++ e ∷ back))) (other-name x.name e.name (front-apart (x ∷ front) back e x apart (contains-first x front x refl)))
    ∙ find-entry front back e apart.1

-- ---- from one fact about entries to another

pub all-step : {X : Type 0} (P Q : X → Type 0) (xs : List X) → ((x : X) → Contains xs x → P x → Q x) → All P xs → All Q xs
all-step P Q xs h all = λ k d less. h (slice_index_or xs k d) (Contains-get_or xs k d less) (all k d less)
