-- The results of a take from a ring of numbers.
use Rattle.std.specs.Prelude.{ℕ, ⊤}
use Rattle.descriptor_ring.specs.declared.numbers.NumberTaken.{NumberTaken}
use Rattle.descriptor_ring.specs.declared.numbers.NumberTaken.TheVariants.{Item, Closed, Empty}

-- P holds of the number that was taken, if one was
abbrev pub OnItem : NumberTaken → (ℕ → Type 0) → Type 0
OnItem (Item n) P = P n
OnItem Closed P = ⊤
OnItem (Empty lesson) P = ⊤

-- P holds of the number of items in an empty ring, if the ring was empty
abbrev pub OnEmpty : NumberTaken → (ℕ → Type 0) → Type 0
OnEmpty (Item n) P = ⊤
OnEmpty Closed P = ⊤
OnEmpty (Empty lesson) P = P lesson

-- P holds, if no number was taken
abbrev pub OnNone : NumberTaken → Type 0 → Type 0
OnNone (Item n) P = ⊤
OnNone Closed P = P
OnNone (Empty lesson) P = P
