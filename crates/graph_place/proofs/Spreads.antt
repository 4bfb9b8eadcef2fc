-- Where words lie, one part after another.
use Rattle.std.proofs.Common.{◌≡◌, ℕ, ◌+◌, ◌<◌, ◌≤◌, List, [], ◌∷◌, ◌++◌, arith, length-append}
use Rattle.std.specs.List.{AllByRecursion, Contains}
use Rattle.std.proofs.lemmas.List.Elements.{All-from_recursion, All-contains}
use Rattle.graph_place.specs.Laid.{ArePairwiseApart}
use Rattle.graph_place.specs.Stored.{places, AreWithin, HaveDistinctPlaces}
use Rattle.graph_place.proofs.Spelled.{BetweenAt, SpreadAt}

-- ---- lists

pub each_weaker : {X : Type 0} (P Q : X → Type 0) → ((x : X) → P x → Q x) → (xs : List X) → AllByRecursion P xs → AllByRecursion Q xs
each_weaker P Q f [] h = tt
each_weaker P Q f (x ∷ xs) h = (f x h.0, each_weaker P Q f xs h.1)

pub each_append : {X : Type 0} (P : X → Type 0) (xs ys : List X) → AllByRecursion P xs → AllByRecursion P ys → AllByRecursion P (xs ++ ys)
each_append P [] ys a b = b
each_append P (x ∷ xs) ys a b = (a.0, each_append P xs ys a.1 b)

abbrev Differs : ℕ × ℕ → ℕ × ℕ → Type 0
Differs x y = x.0 ≡ y.0 → ⊥

apart_append : (xs ys : List (ℕ × ℕ)) → ArePairwiseApart xs → ArePairwiseApart ys → AllByRecursion (λ x. AllByRecursion (Differs x) ys) xs → ArePairwiseApart (xs ++ ys)
apart_append [] ys a b h = b
apart_append (x ∷ xs) ys a b h = (each_append (Differs x) xs ys a.0 h.0, apart_append xs ys a.1 b h.1)

-- ---- parts of spans

-- A part has its slots from a up to b and its content from c up to d, excluding the ends. The next part has its slots
-- from b up to b2 and its content from d up to d2. So both together have theirs from a up to b2 and from c up to d2.

between_left : (a b b2 c d d2 p : ℕ) → b ≤ b2 → d ≤ d2 → BetweenAt a b c d p → BetweenAt a b2 c d2 p
between_left a b b2 c d d2 p hb hd h = record { low = h.low; high = omega (arith, h.high, hd); gap = λ g. h.gap (omega (arith, g, hb)) }

between_right : (a b b2 c d d2 p : ℕ) → a ≤ b → c ≤ d → BetweenAt b b2 d d2 p → BetweenAt a b2 c d2 p
between_right a b b2 c d d2 p hb hd h = record { low = omega (arith, h.low, hb); high = h.high; gap = λ g. let k = h.gap g in omega (arith, k, hd) }

between_apart : (a b b2 c d d2 p q : ℕ) → b2 ≤ c → BetweenAt a b c d p → BetweenAt b b2 d d2 q → p ≡ q → ⊥
between_apart a b b2 c d d2 p q hc hx hy e =
    let above : c ≤ p = hx.gap (omega (arith, hy.low, e)) in
    let past : d ≤ q = hy.gap (omega (arith, above, e, hc)) in
    omega (arith, hx.high, past, e)

-- ---- words

pub spread_join : (a b b2 c d d2 : ℕ) (xs ys : List (ℕ × ℕ)) → a ≤ b → b ≤ b2 → b2 ≤ c → c ≤ d → d ≤ d2
    → SpreadAt a b c d xs → SpreadAt b b2 d d2 ys → SpreadAt a b2 c d2 (xs ++ ys)
spread_join a b b2 c d d2 xs ys ab bb bc cd dd h g = record {
  within =
      each_append (λ x. BetweenAt a b2 c d2 x.0) xs ys (each_weaker (λ x. BetweenAt a b c d x.0) (λ x. BetweenAt a b2 c d2 x.0) (λ x. between_left a b b2 c d d2 x.0 bb dd) xs h.within)
      (each_weaker (λ x. BetweenAt b b2 d d2 x.0) (λ x. BetweenAt a b2 c d2 x.0) (λ x. between_right a b b2 c d d2 x.0 ab cd) ys g.within);
  apart =
      apart_append xs ys h.apart g.apart
      (each_weaker (λ x. BetweenAt a b c d x.0) (λ x. AllByRecursion (Differs x) ys)
      (λ x hx. each_weaker (λ y. BetweenAt b b2 d d2 y.0) (Differs x) (λ y hy. between_apart a b b2 c d d2 x.0 y.0 bc hx hy) ys g.within) xs h.within);
  few = omega (arith, h.few, g.few, length-append xs ys);
}

pub spread_none : (a b c d : ℕ) → a ≤ b → c ≤ d → SpreadAt a b c d []
spread_none a b c d ab cd = record { within = tt; apart = tt; few = omega (arith, ab, cd) }

pub spread_one : (p b c v : ℕ) → p < b → b ≤ c → SpreadAt p b c c ((p, v) ∷ [])
spread_one p b c v pb bc = record {
  within = (record { low = omega arith; high = omega (arith, pb, bc); gap = λ g. absurd (omega (arith, g, pb)) }, tt);
  apart = (tt, tt);
  few = omega (arith, pb);
}

pub spread_free : (b c v : ℕ) → b ≤ c → SpreadAt b b c (c + 1) ((c, v) ∷ [])
spread_free b c v bc = record {
  within = (record { low = bc; high = omega arith; gap = λ g. omega arith }, tt);
  apart = (tt, tt);
  few = omega arith;
}

-- slots at the start of the free places, with their content after them, are content of the slots before
between_content : (b c e d p : ℕ) → b ≤ c → BetweenAt c e e d p → BetweenAt b b c d p
between_content b c e d p bc h = record { low = omega (arith, h.low, bc); high = h.high; gap = λ g. h.low }

pub spread_content : (b c e d : ℕ) (xs : List (ℕ × ℕ)) → b ≤ c → SpreadAt c e e d xs → SpreadAt b b c d xs
spread_content b c e d xs bc h = record {
  within = each_weaker (λ x. BetweenAt c e e d x.0) (λ x. BetweenAt b b c d x.0) (λ x. between_content b c e d x.0 bc) xs h.within;
  apart = h.apart;
  few = omega (arith, h.few);
}

pub spread_wide : (a b b2 c d : ℕ) (xs : List (ℕ × ℕ)) → b ≤ b2 → SpreadAt a b c d xs → SpreadAt a b2 c d xs
spread_wide a b b2 c d xs bb h = record {
  within = each_weaker (λ x. BetweenAt a b c d x.0) (λ x. BetweenAt a b2 c d x.0) (λ x. between_left a b b2 c d d x.0 bb (omega arith)) xs h.within;
  apart = h.apart;
  few = omega (arith, h.few, bb);
}

-- ---- as contracts state it

pub spread_within : (a d n : ℕ) (xs : List (ℕ × ℕ)) → d ≡ a + n → SpreadAt a a a d xs → AreWithin a n xs
spread_within a d n xs e h =
    All-from_recursion (λ (x : ℕ × ℕ). (a ≤ x.0) × (x.0 < a + n)) xs
    (each_weaker (λ x. BetweenAt a a a d x.0) (λ x. (a ≤ x.0) × (x.0 < a + n)) (λ x hx. (hx.low, omega (arith, hx.high, e))) xs h.within)

differs_places : (x : ℕ) (ys : List (ℕ × ℕ)) → AllByRecursion (λ (y : ℕ × ℕ). x ≡ y.0 → ⊥) ys → AllByRecursion (λ q. x ≡ q → ⊥) (places ys)
differs_places x [] h = tt
differs_places x (y ∷ ys) h = (h.0, differs_places x ys h.1)

pub apart_distinct : (xs : List (ℕ × ℕ)) → ArePairwiseApart xs → HaveDistinctPlaces xs
apart_distinct [] h = tt
apart_distinct (x ∷ xs) h =
    let each = All-from_recursion (λ q. x.0 ≡ q → ⊥) (places xs) (differs_places x.0 xs h.0) in
    let none : Contains (places xs) x.0 → ⊥ = λ has. let here = All-contains (λ q. x.0 ≡ q → ⊥) (places xs) x.0 each has in here (λ i. x.0) in
    (none, apart_distinct xs h.1)
