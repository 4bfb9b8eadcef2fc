-- The first call at a position advances past an entry.
use Rattle.std.proofs.Common.{◌≡◌, ◌≢◌, ℕ, ◌+◌, ◌<◌, ◌≤◌, suc, Bool, true, false, ◌==◌, cond, ◌⊎◌, inl, inr, List, []}
use Rattle.std.proofs.Common.{◌∷◌, map, refl, sym, ap, subst, arith}
use Rattle.std.specs.Prelude.{Contains, Some}
use Rattle.std.proofs.lemmas.Bool.{eq-eqb, ne_eqb, eqb-true, eqb-false}
use Rattle.std.proofs.lemmas.List.Elements.{Contains-append_cases, Contains-push_cases}
use Rattle.call_history.specs.Trace.{Trace}
use Rattle.engine_core.specs.Moves.{Row, first_at, advanced}
use Rattle.call_history.specs.Rules.{JudgeContext}
use Rattle.call_history.proofs.Rowed.{StandsAt, IsPlaced, IsRow, row-weaker, placed-weaker}

-- ---- what a list contains

contains-none : {X : Type 0} (x : X) → Contains [] x → ⊥
contains-none x has = omega (arith, has.1)

pub contains-later : {X : Type 0} (x : X) (xs : List X) (y : X) → Contains xs y → Contains (x ∷ xs) y
contains-later x xs y has = (suc has.0, omega (arith, has.1), has.2)

pub contains-first : {X : Type 0} (x : X) (xs : List X) (y : X) → x ≡ y → Contains (x ∷ xs) y
contains-first x xs y same = (0, omega arith, same)

pub contains-cases : {X : Type 0} (x : X) (xs : List X) (y : X) → Contains (x ∷ xs) y → (x ≡ y) ⊎ Contains xs y
contains-cases x xs y has = elim (Contains-append_cases (x ∷ []) xs y has) [
  | inl first ↦ elim (Contains-push_cases [] x y first) [ inl none ↦ absurd (contains-none y none) | inr same ↦ inl same ]
  | inr rest ↦ inr rest
]

-- ---- the first call at a position

pub record IsFound (u : JudgeContext) (past : Trace) (below top bound position : ℕ) (row : Row) (call : ℕ × ℕ) : Type 0 where
  pub placed : IsPlaced u past below top bound call
  pub at : call.1 ≡ position
  pub there : Contains (map (λ (other : ℕ × ℕ). other.0) row) call.0

pub found : (u : JudgeContext) (past : Trace) (below top bound position : ℕ) (row : Row) (call : ℕ × ℕ) → first_at position row ≡ Some call → IsRow u past below top bound row
    → IsFound u past below top bound position row call
found u past below top bound position [] call is h = absurd cc
found u past below top bound position (x ∷ row) call is h =
    let given : (b : Bool) → (x.1 == position) ≡ b → cond b (Some x) (first_at position row) ≡ Some call
    → IsFound u past below top bound position (x ∷ row) call = λ b. elim b as (λ b. (x.1 == position) ≡ b
    → cond b (Some x) (first_at position row) ≡ Some call
    → IsFound u past below top bound position (x ∷ row) call) [
      | true ↦ λ test first. here (eqb-true x.1 position test) (cc)
      | false ↦ λ test first.
          let rest = found u past x.0 top x.1 position row call first h.1 in
          record {
            placed = placed-weaker u past x.0 below top top x.1 bound call (omega (arith, h.0.number)) (omega arith) (omega (arith, h.0.falls)) rest.placed;
            at = rest.at;
            there = contains-later x.0 (map (λ (other : ℕ × ℕ). other.0) row) call.0 rest.there;
          }
    ] in
    given (x.1 == position) refl is
  where
    here : x.1 ≡ position → x ≡ call → IsFound u past below top bound position (x ∷ row) call
    here at same = subst (IsFound u past below top bound position (x ∷ row)) same (record {
      placed = h.0;
      at = at;
      there = contains-first x.0 (map (λ (other : ℕ × ℕ). other.0) row) x.0 refl;
    })

-- numbers after a call are greater
pub above : (u : JudgeContext) (past : Trace) (below top bound seq : ℕ) (row : Row) → IsRow u past below top bound row
    → Contains (map (λ (call : ℕ × ℕ). call.0) row) seq → below < seq
above u past below top bound seq [] h has = absurd (contains-none seq has)
above u past below top bound seq (call ∷ row) h has = elim (contains-cases call.0 (map (λ (other : ℕ × ℕ). other.0) row) seq has) [
  | inl same ↦ omega (arith, same, h.0.number)
  | inr rest ↦ omega (arith, above u past call.0 top call.1 seq row h.1 rest, h.0.number)
]

-- a call with a smaller number is at a later position than the first one at a position
pub record IsFurther (u : JudgeContext) (past : Trace) (seq position : ℕ) : Type 0 where
  pub place : ℕ
  pub further : position < place
  pub stands : StandsAt u past seq place

pub earlier-further : (u : JudgeContext) (past : Trace) (below top bound position seq s : ℕ) (row : Row) → first_at position row ≡ Some (seq, position) → IsRow u past below top bound row
    → Contains (map (λ (call : ℕ × ℕ). call.0) row) s → s < seq → IsFurther u past s position
earlier-further u past below top bound position seq s [] is h has less = absurd cc
earlier-further u past below top bound position seq s (x ∷ row) is h has less =
    let given : (b : Bool) → (x.1 == position) ≡ b → cond b (Some x) (first_at position row) ≡ Some (seq, position)
    → IsFurther u past s position = λ b. elim b as (λ b. (x.1 == position) ≡ b
    → cond b (Some x) (first_at position row) ≡ Some (seq, position) → IsFurther u past s position) [
      | true ↦ λ test first. here (cc)
      | false ↦ λ test first. elim (contains-cases x.0 (map (λ (other : ℕ × ℕ). other.0) row) s has) [
        | inl same ↦ later same (eqb-false x.1 position test) (found u past x.0 top x.1 position row (seq, position) first h.1)
        | inr rest ↦ earlier-further u past x.0 top x.1 position seq s row first h.1 rest less
      ]
    ] in
    given (x.1 == position) refl is
  where
    here : x ≡ (seq, position) → IsFurther u past s position
    here same =
        let number : x.0 ≡ seq = ap (λ (c : ℕ × ℕ). c.0) same in
        elim (contains-cases x.0 (map (λ (other : ℕ × ℕ). other.0) row) s has) [
          | inl first ↦ absurd (omega (arith, first, number, less))
          | inr rest ↦ absurd (omega (arith, above u past x.0 top x.1 s row h.1 rest, number, less))
        ]

    later : x.0 ≡ s → (x.1 ≡ position → ⊥) → IsFound u past x.0 top x.1 position row (seq, position) → IsFurther u past s position
    later same apart rest =
        let low : position ≤ x.1 = rest.placed.falls in
        record { place = x.1; further = omega (arith, low, apart); stands = subst (λ n. StandsAt u past n x.1) same h.0.stands }

-- ---- it advances

-- positions that were legal still are, except for one call
abbrev pub KeepsOthers : (u : JudgeContext) (past new : Trace) (seq : ℕ) → Type 0
KeepsOthers u past new seq = (s position : ℕ) → s ≢ seq → StandsAt u past s position → StandsAt u new s position

moves-on : (u : JudgeContext) (new : Trace) (below top bound seq : ℕ) (call : ℕ × ℕ) (rest : Row) (b : Bool) → (call.0 == seq) ≡ b
    → IsRow u new below top bound ((call.0, cond b (call.1 + 1) call.1) ∷ rest) → IsRow u new below top bound ((call.0, cond (call.0 == seq) (call.1 + 1) call.1) ∷ rest)
moves-on u new below top bound seq call rest b is h = subst (λ t. IsRow u new below top bound ((call.0, cond t (call.1 + 1) call.1) ∷ rest)) (sym is) h

goes-later : (u : JudgeContext) (past new : Trace) (below top bound seq : ℕ) (row : Row) → seq ≤ below → KeepsOthers u past new seq → IsRow u past below top bound row
    → IsRow u new below top bound (advanced seq row)
goes-later u past new below top bound seq [] later keeps h = tt
goes-later u past new below top bound seq (call ∷ row) later keeps h =
    let apart : call.0 ≢ seq = λ same. omega (arith, same, later, h.0.number) in
    moves-on u new below top bound seq call (advanced seq row) false (ne_eqb call.0 seq apart) (
      record { number = h.0.number; few = h.0.few; falls = h.0.falls; stands = keeps call.0 call.1 apart h.0.stands },
      goes-later u past new call.0 top call.1 seq row (omega (arith, later, h.0.number)) keeps h.1,
    )

pub goes-further : (u : JudgeContext) (past new : Trace) (below top bound position seq : ℕ) (row : Row) → first_at position row ≡ Some (seq, position) → position < bound
    → KeepsOthers u past new seq → (StandsAt u past seq position → StandsAt u new seq (position + 1))
    → IsRow u past below top bound row → IsRow u new below top bound (advanced seq row)
goes-further u past new below top bound position seq [] is less keeps step h = absurd cc
goes-further u past new below top bound position seq (x ∷ row) is less keeps step h =
    let given : (b : Bool) → (x.1 == position) ≡ b → cond b (Some x) (first_at position row) ≡ Some (seq, position)
    → IsRow u new below top bound (advanced seq (x ∷ row)) = λ b. elim b as (λ b. (x.1 == position) ≡ b
    → cond b (Some x) (first_at position row) ≡ Some (seq, position)
    → IsRow u new below top bound (advanced seq (x ∷ row))) [
      | true ↦ λ test first. here (cc)
      | false ↦ λ test first. other (eqb-false x.1 position test) (found u past x.0 top x.1 position row (seq, position) first h.1)
          (λ closer. goes-further u past new x.0 top x.1 position seq row first closer keeps step h.1)
    ] in
    given (x.1 == position) refl is
  where
    here : x ≡ (seq, position) → IsRow u new below top bound (advanced seq (x ∷ row))
    here same =
        let number : x.0 ≡ seq = ap (λ (c : ℕ × ℕ). c.0) same in
        let at : x.1 ≡ position = ap (λ (c : ℕ × ℕ). c.1) same in
        let stands : StandsAt u new x.0 (x.1 + 1) = subst (λ (c : ℕ × ℕ). StandsAt u new c.0 (c.1 + 1)) (sym same)
        (step (subst (λ (c : ℕ × ℕ). StandsAt u past c.0 c.1) same h.0.stands)) in
        moves-on u new below top bound seq x (advanced seq row) true (eq-eqb x.0 seq number) (
          record { number = h.0.number; few = h.0.few; falls = omega (arith, at, less); stands = stands },
          row-weaker u new x.0 x.0 top top x.1 (x.1 + 1) (advanced seq row) (omega arith) (omega arith) (omega arith)
              (goes-later u past new x.0 top x.1 seq row (omega (arith, number)) keeps h.1),
        )

    other : (x.1 ≡ position → ⊥) → IsFound u past x.0 top x.1 position row (seq, position) → (position < x.1 → IsRow u new x.0 top x.1 (advanced seq row))
        → IsRow u new below top bound (advanced seq (x ∷ row))
    other apart rest goes =
        let number : x.0 < seq = rest.placed.number in
        let low : position ≤ x.1 = rest.placed.falls in
        let differs : x.0 ≢ seq = λ same. omega (arith, same, number) in
        moves-on u new below top bound seq x (advanced seq row) false (ne_eqb x.0 seq differs) (
          record { number = h.0.number; few = h.0.few; falls = h.0.falls; stands = keeps x.0 x.1 differs h.0.stands },
          goes (omega (arith, low, apart)),
        )
