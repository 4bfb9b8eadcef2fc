-- Worked by hand: the definitions on small cases, as terms.
use Rattle.std.proofs.Common.{◌≡◌, [], ◌∷◌, None, refl}
use Rattle.receive_heap.specs.declared.extents.Block.{Block}
use Rattle.message_delivery.specs.Noticing.{IsWithoutEach, numbers_on}

abbrev pub one : Block
one = record { number = 1; at = 1; words = 2 }

abbrev pub two : Block
two = record { number = 2; at = 3; words = 1 }

abbrev pub three : Block
three = record { number = 3; at = 4; words = 4 }

-- the second and then the first of three blocks are removed
lost : IsWithoutEach (2 ∷ 1 ∷ []) (one ∷ two ∷ three ∷ []) (three ∷ [])
lost = (
  one ∷ three ∷ [],
  record { before = one ∷ []; block = two; after = three ∷ []; was = refl; has = refl; is = refl },
  (three ∷ [], record { before = []; block = one; after = three ∷ []; was = refl; has = refl; is = refl }, refl),
)

-- without numbers nothing is removed
kept : IsWithoutEach [] (one ∷ two ∷ []) (one ∷ two ∷ [])
kept = refl

-- what was sent is known from the ring's end while it is open, and afterwards from its final state
none : numbers_on None None ≡ []
none = refl
