-- How many bytes a varint has.
use Rattle.std.proofs.Common.{◌≡◌, ℕ, suc, ◌+◌, ◌/◌, ◌%◌, ◌<◌, ◌≤◌, [], ◌∷◌, length, ap, arith, ⊎_elim}
use Rattle.std.proofs.lemmas.Bool.{cases_lt}
use Rattle.std.proofs.lemmas.Bool.Decides.{nat_tests}
use Rattle.wire_base.specs.Encoding.{groups, varint}

groups-large : (m n : ℕ) → 128 ≤ n → groups (suc m) n ≡ (n % 128 + 128) ∷ groups m (n / 128)
unfolding groups
groups-large m n h = grind (arith, nat_tests)

-- a number of seven bits is one byte
pub varint-small : (v : ℕ) → v < 128 → varint v ≡ v ∷ []
unfolding varint groups
varint-small v h = grind (arith, nat_tests)

pub length-varint-least : (v : ℕ) → 1 ≤ length (varint v)
unfolding varint
length-varint-least v = ⊎_elim (λ small. omega (arith, ap length (varint-small v small))) (λ large. omega (arith, ap length (groups-large 8 v large))) (cases_lt v 128)
