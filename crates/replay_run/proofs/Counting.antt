-- Tickets that are drawn in turn count up. So does each prefix, and the last ticket is the number of those before it.
use Rattle.std.proofs.Common.{◌≡◌, ℕ, suc, ◌+◌, List, [], ◌∷◌, ◌++◌, length, refl, arith}
use Rattle.std.specs.List.{range_with_len}

-- numbers that count up from one
abbrev pub CountsFrom : ℕ → List ℕ → Type 0
CountsFrom n [] = Unit {0}
CountsFrom n (x ∷ xs) = (x ≡ n) × CountsFrom (n + 1) xs

pub counts-range : (n : ℕ) (xs : List ℕ) → xs ≡ range_with_len n (length xs) → CountsFrom n xs
counts-range n [] is = tt
counts-range n (x ∷ xs) is =
    let here : x ∷ xs ≡ n ∷ range_with_len (n + 1) (length xs) = is in
    (cc, counts-range (n + 1) xs cc)

pub counts-front : (n : ℕ) (xs ys : List ℕ) → CountsFrom n (xs ++ ys) → CountsFrom n xs
counts-front n [] ys counts = tt
counts-front n (x ∷ xs) ys counts = (counts.0, counts-front (n + 1) xs ys counts.1)

counts-last : (n : ℕ) (xs : List ℕ) (x : ℕ) → CountsFrom n (xs ++ x ∷ []) → x ≡ n + length xs
counts-last n [] x counts = let here : x ≡ n = counts.0 in omega arith
counts-last n (y ∷ xs) x counts =
    let last : x ≡ n + 1 + length xs = counts-last (n + 1) xs x counts.1 in
    let long : length (y ∷ xs) ≡ suc (length xs) = refl in
    omega arith

pub counts-end : (xs : List ℕ) (x : ℕ) → CountsFrom 0 (xs ++ x ∷ []) → x ≡ length xs
counts-end xs x counts = let last : x ≡ 0 + length xs = counts-last 0 xs x counts in omega arith
