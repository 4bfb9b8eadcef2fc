-- Lines that are appended one after another.
use Rattle.std.proofs.Common.{◌≡◌, ℕ, zero, suc, ◌+◌, ◌≤◌, List, [], ◌∷◌, ◌++◌, length, map, take, Some, refl, sym}
use Rattle.std.proofs.Common.{ap, ◌∙◌, append_assoc, append-nil, arith}
use Rattle.std.proofs.lemmas.List.{length-map}
use Rattle.std.specs.Prelude.{slice_get}
use Rattle.std.specs.List.{flat_map}
use Rattle.engine_core.specs.Marks.{PendingCall, seqs_of}
use Rattle.engine_core.specs.Moves.{Row}

module _ {X A : Type 0} (f : X → List A) where
  -- the lines of the first items are followed by that of the next
  pub one-more : (xs : List X) (place : ℕ) (x : X) → slice_get xs place ≡ Some x
      → flat_map f (take (suc place) xs) ≡ flat_map f (take place xs) ++ f x
  one-more [] place x at = cc
  one-more (y ∷ xs) zero x at = let same : y ≡ x = cc in append-nil (f y) ∙ ap f same
  one-more (y ∷ xs) (suc place) x at =
      ap (λ lines. f y ++ lines) (one-more xs place x at) ∙ sym (append_assoc (f y) (flat_map f (take place xs)) (f x))

  pub all-of : (xs : List X) (place : ℕ) → length xs ≤ place → flat_map f (take place xs) ≡ flat_map f xs
  all-of [] zero low = refl
  all-of [] (suc place) low = refl
  all-of (x ∷ xs) zero low = absurd (omega arith)
  all-of (x ∷ xs) (suc place) low = ap (λ lines. f x ++ lines) (all-of xs place (omega arith))

  -- the text so far, followed by the next line
  pub goes-on : (first out next : List A) (xs : List X) (place : ℕ) (x : X) → slice_get xs place ≡ Some x
      → out ≡ first ++ flat_map f (take place xs) → next ≡ out ++ f x → next ≡ first ++ flat_map f (take (place + 1) xs)
  goes-on first out next xs place x at so more =
      let next_place : suc place ≡ place + 1 = omega arith in
      more ∙ ap (λ text. text ++ f x) so ∙ append_assoc first (flat_map f (take place xs)) (f x)
      ∙ ap (λ lines. first ++ lines) (sym (one-more xs place x at) ∙ ap (λ n. flat_map f (take n xs)) next_place)

-- an item is at each index
pub there : {A : Type 0} (xs : List A) (place : ℕ) → suc place ≤ length xs → (x : A) × (slice_get xs place ≡ Some x)
there [] place low = absurd (omega arith)
there (x ∷ xs) zero low = (x, refl)
there (x ∷ xs) (suc place) low = there xs place (omega arith)

-- the text of the images of items is a text of the items
pub mapped : {X Y A : Type 0} (f : Y → List A) (g : X → Y) (xs : List X) → flat_map f (map g xs) ≡ flat_map (λ x. f (g x)) xs
mapped f g [] = refl
mapped f g (x ∷ xs) = ap (λ lines. f (g x) ++ lines) (mapped f g xs)

-- a row has as many calls as are pending
pub rows-long : (row : Row) (calls : List PendingCall) → map (λ call. call.0) row ≡ seqs_of calls → length row ≡ length calls
rows-long row calls same = sym (length-map row (λ (call : ℕ × ℕ). call.0)) ∙ ap length same ∙ length-map calls (λ (s : PendingCall). s.call.seq)
