-- Statements that are not refuted, and choices along a list.
use Rattle.std.proofs.Common.{suc, List, [], ◌∷◌, refl, arith}
use Rattle.std.specs.Prelude.{Contains}
use Rattle.schema_validation.specs.Correspondence.{AreCorrespondingInOrder, none, next}

abbrev pub IsNotRefuted : Type 0 → Type 0
IsNotRefuted A = (A → ⊥) → ⊥

-- if each element of a list has its own not refuted, all of them together aren't refuted
pub all_chosen : {X Y : Type 0} (R : X → Y → Type 0) (xs : List X)
    → ((x : X) → Contains xs x → IsNotRefuted ((y : Y) × R x y))
    → IsNotRefuted ((ys : List Y) × AreCorrespondingInOrder R xs ys)
all_chosen R [] h never = never ([], none)
all_chosen R (x ∷ xs) h never =
    h x (0, omega arith, refl)
    (λ a. all_chosen R xs (λ z c. h z (suc c.0, omega (arith, c.1), c.2)) (λ r. never (a.0 ∷ r.0, next a.1 r.1)))
