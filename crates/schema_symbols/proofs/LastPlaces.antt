-- The last index of each part.
use Rattle.std.proofs.Common.{◌≡◌, ◌≢◌, ℕ, zero, suc, ◌+◌, ◌<◌, ◌⊎◌, ⊎_elim, inl, inr, Bool, true, false, cond, List}
use Rattle.std.proofs.Common.{[], ◌∷◌, ◌++◌, length, take, get_or, Option, Some, None, refl, ap, sym, ◌∙◌, subst}
use Rattle.std.proofs.Common.{arith}
use Rattle.std.specs.Prelude.{slice_get, MatchOption}
use Rattle.std.specs.Borrow.{Bor}
use Rattle.std.specs.BTreeMap.{BTreeMap}
use Rattle.std.specs.Cmp.{Equal-is}
use Rattle.std.specs.Ordering.{nat_cmp, is_eq}
use Rattle.std.specs.Cmp.Lexicographic.{slice_cmp}
use Rattle.std.proofs.lemmas.Cmp.{tied_itself, nat_list_cmp_total}
use Rattle.std.proofs.lemmas.Map.Lookups.{exact_bytes}
use Rattle.std.proofs.lemmas.Option.{slice_get_within}
use Rattle.std.proofs.lemmas.List.{take_more, length_push, length-take-le, length-map, get_or_default}
use Rattle.schema_symbols.specs.Parts.{KnowsLastIndices, IsLastIndex, last_in, values_of}
use Rattle.schema_symbols.proofs.ListParts.{part_at}

get_push : (xs : List (List ℕ)) (x q : List ℕ) (j : ℕ) → slice_get (xs ++ x ∷ []) j ≡ Some q → (slice_get xs j ≡ Some q) ⊎ ((j ≡ length xs) × (x ≡ q))
get_push [] x q zero e = let same : x ≡ q = cc in inr (refl, same)
get_push [] x q (suc j) e = absurd cc
get_push (y ∷ ys) x q zero e = inl e
get_push (y ∷ ys) x q (suc j) e =
    ⊎_elim (λ (old : slice_get ys j ≡ Some q). inl old) (λ (new : (j ≡ length ys) × (x ≡ q)). inr (ap suc new.0, new.1)) (get_push ys x q j e)

get_front : (xs : List (List ℕ)) (x q : List ℕ) (j : ℕ) → slice_get xs j ≡ Some q → slice_get (xs ++ x ∷ []) j ≡ Some q
get_front [] x q j e = absurd cc
get_front (y ∷ ys) x q zero e = e
get_front (y ∷ ys) x q (suc j) e = get_front ys x q j e

get_last : (xs : List (List ℕ)) (x : List ℕ) → slice_get (xs ++ x ∷ []) (length xs) ≡ Some x
get_last [] x = refl
get_last (y ∷ ys) x = get_last ys x

abbrev Known : List (List ℕ) → List ℕ → Option ℕ → Type 0
Known xs q o = MatchOption o ((i : ℕ) → slice_get xs i ≡ Some q → ⊥) (IsLastIndex xs q)

carry : (xs : List (List ℕ)) (x q : List ℕ) (o : Option ℕ) → x ≢ q → Known xs q o → Known (xs ++ x ∷ []) q o
carry xs x q None apart none = λ i e.
    ⊎_elim (λ (old : slice_get xs i ≡ Some q). none i old) (λ (new : (i ≡ length xs) × (x ≡ q)). apart new.1) (get_push xs x q i e)
carry xs x q (Some j) apart last = (
  get_front xs x q j last.0,
  λ i l e. ⊎_elim (λ (old : slice_get xs i ≡ Some q). last.1 i l old) (λ (new : (i ≡ length xs) × (x ≡ q)). apart new.1) (get_push xs x q i e),
)

newest : (xs : List (List ℕ)) (x q : List ℕ) → x ≡ q → Known (xs ++ x ∷ []) q (Some (length xs))
newest xs x q same = (
  get_last xs x ∙ ap Some same,
  λ i l e. let w : i < length (xs ++ x ∷ []) = slice_get_within (xs ++ x ∷ []) i q e in omega (arith, length_push xs x),
)

pick : (b : Bool) (xs : List (List ℕ)) (x q : List ℕ) (i : ℕ) (o p : Option ℕ) → i ≡ length xs → (b ≡ true → x ≡ q)
    → (b ≡ false → x ≢ q) → p ≡ cond b (Some i) o → Known xs q o → Known (xs ++ x ∷ []) q p
pick true xs x q i o p count same apart e known =
    subst (Known (xs ++ x ∷ []) q) (sym (e ∙ ap Some count)) (newest xs x q (same refl))
pick false xs x q i o p count same apart e known = subst (Known (xs ++ x ∷ []) q) (sym e) (carry xs x q o (apart refl) known)

same_bytes : (x q : List ℕ) → is_eq (slice_cmp nat_cmp x q) ≡ true → x ≡ q
same_bytes x q e = exact_bytes x q ((Equal-is (slice_cmp nat_cmp x q)).0 e)

other_bytes : (x q : List ℕ) → is_eq (slice_cmp nat_cmp x q) ≡ false → x ≢ q
other_bytes x q e same =
    let itself : is_eq (slice_cmp nat_cmp x x) ≡ true = ap is_eq (tied_itself nat_list_cmp_total x) in
    let t : is_eq (slice_cmp nat_cmp x q) ≡ true = subst (λ (y : List ℕ). is_eq (slice_cmp nat_cmp x y) ≡ true) same itself in
    let z : true ≡ false = sym t ∙ e in
    cc

pub last_push : (xs : List (List ℕ)) (x : List ℕ) (i : ℕ) (m n : BTreeMap (Bor (List ℕ)) ℕ) → i ≡ length xs
    → KnowsLastIndices xs m → ((q : List ℕ) → last_in n q ≡ cond (is_eq (slice_cmp nat_cmp x q)) (Some i) (last_in m q))
    → KnowsLastIndices (xs ++ x ∷ []) n
last_push xs x i m n count known changed q =
    pick (is_eq (slice_cmp nat_cmp x q)) xs x q i (last_in m q) (last_in n q) count (same_bytes x q) (other_bytes x q) (changed q) (known q)

-- the next part of a list
pub last_next : (ps : List (Bor (List ℕ))) (i : ℕ) (d : Bor (List ℕ)) (m n : BTreeMap (Bor (List ℕ)) ℕ)
    → i < length ps → KnowsLastIndices (take i (values_of ps)) m
    → ((q : List ℕ) → last_in n q ≡ cond (is_eq (slice_cmp nat_cmp (get_or ps i d).now q)) (Some i) (last_in m q))
    → KnowsLastIndices (take (i + 1) (values_of ps)) n
last_next ps i d m n l known changed =
    let is : get_or ps i d ≡ get_or ps i (get_or ps i d) = get_or_default ps i d (get_or ps i d) l in
    let all : length (values_of ps) ≡ length ps = length-map ps (λ (p : Bor (List ℕ)). p.now) in
    let more : take (i + 1) (values_of ps) ≡ take i (values_of ps) ++ (get_or ps i d).now ∷ [] =
    take_more (values_of ps) i [] (omega arith) ∙ ap (λ (x : List ℕ). take i (values_of ps) ++ x ∷ []) (part_at ps (values_of ps) refl i (get_or ps i d) l is) in
    let count : i ≡ length (take i (values_of ps)) = sym (length-take-le i (values_of ps) (omega arith)) in
    subst (λ (xs : List (List ℕ)). KnowsLastIndices xs n) (sym more) (last_push (take i (values_of ps)) (get_or ps i d).now i m n count known changed)
