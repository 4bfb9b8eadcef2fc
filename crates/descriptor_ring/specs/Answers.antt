-- The results of a take.
use Rattle.std.specs.Prelude.{ℕ, ⊤}
use Rattle.descriptor_ring.specs.declared.descriptor.Descriptor.{Descriptor}
use Rattle.descriptor_ring.specs.declared.descriptor.Taken.{Taken}
use Rattle.descriptor_ring.specs.declared.descriptor.Taken.TheVariants.{Item, Closed, Empty}

-- P holds of the descriptor that was taken, if one was
abbrev pub OnItem : Taken → (Descriptor → Type 0) → Type 0
OnItem (Item d) P = P d
OnItem Closed P = ⊤
OnItem (Empty lesson) P = ⊤

-- P holds of the number of items in an empty ring, if the ring was empty
abbrev pub OnEmpty : Taken → (ℕ → Type 0) → Type 0
OnEmpty (Item d) P = ⊤
OnEmpty Closed P = ⊤
OnEmpty (Empty lesson) P = P lesson

-- P holds, if no descriptor was taken
abbrev pub OnNone : Taken → Type 0 → Type 0
OnNone (Item d) P = ⊤
OnNone Closed P = P
OnNone (Empty lesson) P = P
