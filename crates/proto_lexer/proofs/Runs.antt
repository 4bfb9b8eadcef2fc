-- The longest prefix whose bytes all pass a test.
use Rattle.std.proofs.Common.{◌≡◌, inl, inr, ℕ, suc, ◌+◌, ◌==◌, Bool, true, false, List, [], ◌∷◌, ◌++◌, length, refl, arith, sym, ◌∙◌, ap}
use Rattle.std.specs.List.{list_all, list_any, prefix_len}
use Rattle.std.proofs.lemmas.Bool.{eqb-true, cases_Bool, and_parts, and_from, or_cases}
use Rattle.proto_lexer.specs.Gaps.{first_satisfies}

-- ---- a run and the bytes after it

pub run_len : (p : ℕ → Bool) (ds rest : List ℕ) → list_all p ds ≡ true → first_satisfies p rest ≡ false → prefix_len p (ds ++ rest) ≡ length ds
run_len p [] [] all stops = refl
run_len p [] (c ∷ cs) all stops = rw stops refl
run_len p (d ∷ ds) rest all stops =
    let parts = and_parts (p d) (list_all p ds) all in
    let e : 1 + length ds ≡ suc (length ds) = omega arith in
    rw (parts.0, run_len p ds rest parts.1 stops) e

pub record Run (p : ℕ → Bool) (bytes : List ℕ) : Type 0 where
  pub front : List ℕ
  pub rest : List ℕ
  pub is : bytes ≡ front ++ rest
  pub long : length front ≡ prefix_len p bytes
  pub all : list_all p front ≡ true
  pub stops : first_satisfies p rest ≡ false

pub run_of : (p : ℕ → Bool) (bytes : List ℕ) → Run p bytes
run_of p [] = record { front = []; rest = []; is = refl; long = refl; all = refl; stops = refl }
run_of p (c ∷ cs) =
    let r = run_of p cs in
    elim (cases_Bool (p c)) [
      | inl e ↦ record {
        front = c ∷ r.front;
        rest = r.rest;
        is = ap (λ (x : List ℕ). c ∷ x) r.is;
        long = (let n : length (c ∷ r.front) ≡ 1 + prefix_len p cs = omega (arith, r.long) in rw e n);
        all = and_from (p c) (list_all p r.front) e r.all;
        stops = r.stops;
      }
      | inr e ↦ record { front = []; rest = c ∷ cs; is = refl; long = rw e refl; all = refl; stops = e }
    ]

-- ---- tests

pub list_all_weaker : (p q : ℕ → Bool) → ((c : ℕ) → p c ≡ true → q c ≡ true) → (xs : List ℕ) → list_all p xs ≡ true → list_all q xs ≡ true
list_all_weaker p q h [] all = refl
list_all_weaker p q h (x ∷ xs) all =
    let parts = and_parts (p x) (list_all p xs) all in
    and_from (q x) (list_all q xs) (h x parts.0) (list_all_weaker p q h xs parts.1)

pub begins_weaker : (p q : ℕ → Bool) → ((c : ℕ) → p c ≡ true → q c ≡ true) → (xs : List ℕ) → first_satisfies q xs ≡ false → first_satisfies p xs ≡ false
begins_weaker p q h [] stops = refl
begins_weaker p q h (x ∷ xs) stops = elim (cases_Bool (p x)) [
  | inl e ↦ absurd (let t : true ≡ false = sym (h x e) ∙ stops in cc)
  | inr e ↦ e
]

pub list_all_append : (p : ℕ → Bool) (xs ys : List ℕ) → list_all p xs ≡ true → list_all p ys ≡ true → list_all p (xs ++ ys) ≡ true
list_all_append p [] ys a b = b
list_all_append p (x ∷ xs) ys a b =
    let parts = and_parts (p x) (list_all p xs) a in
    and_from (p x) (list_all p (xs ++ ys)) parts.0 (list_all_append p xs ys parts.1 b)

-- a byte passes if it is one of several bytes that all pass
pub one_of : (p : ℕ → Bool) (c : ℕ) (ms : List ℕ) → list_all p ms ≡ true → list_any (λ m. c == m) ms ≡ true → p c ≡ true
one_of p c [] all any = absurd (let t : false ≡ true = any in cc)
one_of p c (m ∷ ms) all any =
    let parts = and_parts (p m) (list_all p ms) all in
    elim (or_cases (c == m) (list_any (λ n. c == n) ms) any) [
      | inl e ↦ let same : c ≡ m = eqb-true c m e in rw same parts.0
      | inr e ↦ one_of p c ms parts.1 e
    ]
