-- Parts of two consecutive lists.
use Rattle.std.proofs.Common.{◌≡◌, ℕ, ◌+◌, ◌-◌, ◌<◌, ◌≤◌, min, List, [], ◌++◌, length, take, drop, inl, inr, refl, sym, ap, ◌∙◌, arith, length-append}
use Rattle.std.proofs.lemmas.Bool.{cases_lt}
use Rattle.std.proofs.lemmas.List.{take-append-le, drop-append-le, take_all, drop_all, take_min, append-nil, length-take, length-drop, take_at, drop-drop, drop_at}
use Rattle.std.proofs.Math.Seq.{take-append-add}
use Rattle.std.proofs.Math.Nat.{min_comm}
use Rattle.std.proofs.lemmas.Slice.{take-put_mid, between_to_end}
use Rattle.std.specs.List.{between}
use borrow.Rule.Slice.PartMut.{put_mid}

pub take-parts : {X : Type 0} (n : ℕ) (xs ys : List X) → take n (xs ++ ys) ≡ take n xs ++ take (n - length xs) ys
take-parts {X = X} n xs ys = elim (cases_lt (length xs) n) [
  | inl more ↦
      let sum : n ≡ length xs + (n - length xs) = omega arith in
      let all : take n xs ≡ xs = take_all n xs (omega arith) in
      ap (λ (m : ℕ). take m (xs ++ ys)) sum ∙ take-append-add xs ys (n - length xs) ∙ ap (λ (zs : List X). zs ++ take (n - length xs) ys) (sym all)
  | inr less ↦
      let none : n - length xs ≡ 0 = omega arith in
      take-append-le n xs ys less ∙ sym (append-nil (take n xs)) ∙ ap (λ (m : ℕ). take n xs ++ take m ys) (sym none)
]

pub drop-parts : {X : Type 0} (n : ℕ) (xs ys : List X) → drop n (xs ++ ys) ≡ drop n xs ++ drop (n - length xs) ys
drop-parts {X = X} n xs ys = elim (cases_lt (length xs) n) [
  | inl more ↦
      let sum : length xs + (n - length xs) ≡ n = omega arith in
      let none : drop n xs ≡ [] = drop_all n xs (omega arith) in
      ap (λ (m : ℕ). drop m (xs ++ ys)) (sym sum) ∙ sym (drop-drop (n - length xs) (length xs) (xs ++ ys))
      ∙ ap (drop (n - length xs)) (drop_at xs ys (length xs) refl)
      ∙ ap (λ (zs : List X). zs ++ drop (n - length xs) ys) (sym none)
  | inr less ↦
      let none : n - length xs ≡ 0 = omega arith in
      drop-append-le n xs ys less ∙ ap (λ (m : ℕ). drop n xs ++ drop m ys) (sym none)
]

-- the first 16 bytes of two parts, copied into an array
pub gathered : (begun piece zeros ys zs : List ℕ) (old new : ℕ) → length zeros ≡ 16
    → old ≡ min (length begun) 16 → new ≡ min (length piece) (16 - old)
    → ys ≡ take old begun → zs ≡ take new piece
    → take (old + new) (put_mid old (old + new - old) (ys ++ drop old zeros) zs) ≡ take 16 (begun ++ piece)
gathered begun piece zeros ys zs old new len oldis newis ysis zsis =
    let ys_len : length ys ≡ old = ap length ysis ∙ omega (arith, length-take {A = ℕ}) in
    let zs_len : length zs ≡ new = ap length zsis ∙ omega (arith, length-take {A = ℕ}) in
    let within : old ≤ length (ys ++ drop old zeros) = omega (arith, length-append {A = ℕ}, length-drop {A = ℕ}) in
    let cut : take (old + new) (put_mid old (old + new - old) (ys ++ drop old zeros) zs) ≡ take old (ys ++ drop old zeros) ++ zs =
    take-put_mid old (old + new - old) (ys ++ drop old zeros) zs (old + new) (omega arith) within in
    let front : take old (ys ++ drop old zeros) ≡ ys = take_at ys (drop old zeros) old ys_len in
    let first : take old begun ≡ take 16 begun =
    ap (λ (n : ℕ). take n begun) (oldis ∙ min_comm (length begun) 16) ∙ take_min 16 begun in
    let second : take new piece ≡ take (16 - length begun) piece =
    ap (λ (n : ℕ). take n piece) (newis ∙ omega arith) ∙ take_min (16 - length begun) piece in
    cut ∙ (λ i. (front ∙ ysis ∙ first) i ++ (zsis ∙ second) i) ∙ sym (take-parts 16 begun piece)

-- the payload in two parts
pub payload_parts : (begun piece : List ℕ) (size begin : ℕ) → begin ≡ min (length begun) 16 → length begun < 16 + size
    → between begin (length begun) begun ++ between (16 - begin) (16 + size - length begun) piece ≡ take size (drop 16 (begun ++ piece))
payload_parts begun piece size begin beginis short =
    let front : drop begin begun ≡ drop 16 begun = elim (cases_lt (length begun) 16) [
      | inl less ↦ drop_all begin begun (omega arith) ∙ sym (drop_all 16 begun (omega arith))
      | inr more ↦ let e : begin ≡ 16 = omega arith in ap (λ (n : ℕ). drop n begun) e
    ] in
    let whole : take size (drop 16 begun) ≡ drop 16 begun = take_all size (drop 16 begun) (omega (arith, length-drop {A = ℕ})) in
    let count : 16 + size - length begun - (16 - begin) ≡ size - length (drop 16 begun) = omega (arith, length-drop {A = ℕ}) in
    let start : 16 - begin ≡ 16 - length begun = omega arith in
    let all : between begin (length begun) begun ≡ drop begin begun = between_to_end begun begin (length begun) (omega arith) in
    (λ i. (all ∙ front ∙ sym whole) i ++ take (count i) (drop (start i) piece))
    ∙ sym (take-parts size (drop 16 begun) (drop (16 - length begun) piece))
    ∙ ap (take size) (sym (drop-parts 16 begun piece))
