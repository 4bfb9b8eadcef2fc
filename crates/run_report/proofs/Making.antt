-- What was made of connections, each unless its thread ran out of memory.
use Rattle.std.proofs.Common.{◌≡◌, ℕ, zero, suc, ◌+◌, ◌<◌, All, List, [], ◌∷◌, length, map, drop, get_or, refl, sym, ap, ◌∙◌, subst, arith}
use Rattle.std.proofs.Common.{Some, drop-cons}
use Rattle.std.specs.Prelude.{IfOk, Result, slice_get, slice_index_or}
use Rattle.std.specs.List.{AllZip}
use Rattle.std.proofs.lemmas.Option.{none-some, same_Some}
use Rattle.mrpc_table.specs.declared.memory.Memory.{Memory}
use Rattle.run_report.specs.Prefixes.{AreMadePrefixes, IsMadePrefix, ExpectedPrefix}
use Rattle.run_report.specs.declared.prefixes.MadePrefix.{MadePrefix}

pub all-one : {X : Type 0} (P : X → Type 0) (x : X) → P x → All P (x ∷ [])
all-one P x is zero d less = is
all-one P x is (suc k) d less = absurd (omega (arith, less))

pub made-places : (makings : List ExpectedPrefix) (made : List (Result MadePrefix Memory)) → length made ≡ length makings
    → ((k : ℕ) (d : ExpectedPrefix) (e : Result MadePrefix Memory) → k < length makings
    → IfOk (slice_index_or made k e) (IsMadePrefix (slice_index_or makings k d)))
    → AreMadePrefixes makings made
made-places [] [] same each = tt
made-places [] (y ∷ ys) same each = absurd (omega (arith, same))
made-places (x ∷ xs) [] same each = absurd (omega (arith, same))
made-places (x ∷ xs) (y ∷ ys) same each = (
  each 0 x y (omega arith),
  made-places xs ys (omega (arith, same)) (λ k d e less. each (suc k) d e (omega (arith, less))),
)

some-made : (making : ExpectedPrefix) (makings : List ExpectedPrefix) (made : List (Result MadePrefix Memory)) → AreMadePrefixes (making ∷ makings) made
    → length made ≡ 0 → ⊥
some-made making makings [] all few = all
some-made making makings (m ∷ made) all few = omega (arith, few)

module _ {X : Type 0} (f : X → ExpectedPrefix) (xs : List X) (i : ℕ) (x : X) (made : List (Result MadePrefix Memory)) (less : i < length xs)
    (is : x ≡ get_or xs i x) (all : AreMadePrefixes (map f (drop i xs)) made) where
  next-is : drop i xs ≡ x ∷ drop (i + 1) xs
  next-is =
      let place : suc i ≡ i + 1 = omega arith in
      drop-cons xs i x less ∙ ap (λ (y : X). y ∷ drop (suc i) xs) (sym is) ∙ ap (λ n. x ∷ drop n xs) place

  -- the next one is made of the next item
  pub made-next : (one : Result MadePrefix Memory) (rest : List (Result MadePrefix Memory)) → made ≡ one ∷ rest
      → IfOk one (IsMadePrefix (f x)) × AreMadePrefixes (map f (drop (i + 1) xs)) rest
  made-next one rest same = subst (λ (l : List X). AreMadePrefixes (map f l) (one ∷ rest)) next-is
      (subst (AreMadePrefixes (map f (drop i xs))) same all)

  -- there is one
  pub made-more : length made ≡ 0 → ⊥
  made-more none = some-made (f x) (map f (drop (i + 1) xs)) made (subst (λ (l : List X). AreMadePrefixes (map f l) made) next-is all) none

-- ---- index by index

pub zip-length : {X Y : Type 0} (R : X → Y → Type 0) (xs : List X) (ys : List Y) → AllZip R xs ys → length ys ≡ length xs
zip-length R [] [] all = refl
zip-length R [] (y ∷ ys) all = absurd all
zip-length R (x ∷ xs) [] all = absurd all
zip-length R (x ∷ xs) (y ∷ ys) all = ap suc (zip-length R xs ys all.1)

pub zip-at : {X Y : Type 0} (R : X → Y → Type 0) (xs : List X) (ys : List Y) (k : ℕ) (x : X) (y : Y) → AllZip R xs ys
    → slice_get xs k ≡ Some x → y ≡ get_or ys k y → R x y
zip-at R [] [] k x y all at is = absurd (none-some x at)
zip-at R [] (w ∷ ys) k x y all at is = absurd all
zip-at R (v ∷ xs) [] k x y all at is = absurd all
zip-at {X} {Y} R (v ∷ xs) (w ∷ ys) zero x y all at is =
    subst (λ (t : X). R t y) (same_Some v x at) (subst (λ (t : Y). R v t) (sym is) all.0)
zip-at R (v ∷ xs) (w ∷ ys) (suc k) x y all at is = zip-at R xs ys k x y all.1 at is
