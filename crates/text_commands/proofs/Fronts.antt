-- Prefixes of texts that were written.
use Rattle.std.proofs.Common.{◌≡◌, ◌≢◌, ◌⊎◌, inl, inr, ℕ, zero, suc, ◌+◌, List, [], ◌∷◌, ◌++◌, length, take, Option, refl, sym, ap, subst, arith}
use Rattle.std.proofs.Math.Seq.{take-append-add, take-length}
use Rattle.std.specs.Io.KnownBytes.{Appends}
use Rattle.text_commands.specs.FaultLines.{HasWrittenPrefix}
use Rattle.text_commands.specs.declared.status.TheConstants.{FAULTY_INPUT, NO_MEMORY, OUTPUT_FAILED}
use Rattle.text_commands.proofs.KnownBytes.{appends-more}

-- a text that was written whole is a prefix of itself
pub front-whole : (old new : Option (List ℕ)) (xs : List ℕ) → Appends old new xs → HasWrittenPrefix old new xs
front-whole old new xs a = (length xs, subst (Appends old new) (sym (take-length xs)) a)

front-of : (xs more : List ℕ) (n : ℕ) → (m : ℕ) × (take n xs ≡ take m (xs ++ more))
front-of [] more zero = (0, refl)
front-of [] more (suc n) = (0, refl)
front-of (x ∷ xs) more zero = (0, refl)
front-of (x ∷ xs) more (suc n) =
    let rest = front-of xs more n in
    (suc rest.0, ap (λ (l : List ℕ). x ∷ l) rest.1)

-- a prefix of a text is a prefix of a longer text
pub front-on : (old new : Option (List ℕ)) (xs more : List ℕ) → HasWrittenPrefix old new xs → HasWrittenPrefix old new (xs ++ more)
front-on old new xs more w =
    let front = front-of xs more w.0 in
    (front.0, subst (Appends old new) front.1 w.1)

-- a prefix after a text that was written whole
pub front-behind : (old mid new : Option (List ℕ)) (xs ys : List ℕ) → Appends old mid xs → HasWrittenPrefix mid new ys
    → HasWrittenPrefix old new (xs ++ ys)
front-behind old mid new xs ys a w =
    (length xs + w.0, subst (Appends old new) (sym (take-append-add xs ys w.0)) (appends-more old mid new xs (take w.0 ys) a w.1))

-- a status of a command that ended early isn't that of a fault
pub not_faulty : (status : ℕ) → (status ≡ NO_MEMORY) ⊎ (status ≡ OUTPUT_FAILED) → status ≢ FAULTY_INPUT
not_faulty status (inl memory) faulty = omega (arith, memory, faulty)
not_faulty status (inr failed) faulty = omega (arith, failed, faulty)
