-- Lists of bytes.
use Rattle.std.proofs.Common.{ℕ, zero, suc, ◌<◌, List, [], ◌∷◌, ◌++◌, arith}
use Rattle.std.specs.Prelude.{All}
use Rattle.std.proofs.lemmas.List.Elements.{All-head, All-tail}
use Rattle.hex.specs.Hex.{IsBytes}

-- each element is a byte
abbrev pub AreBytes : List ℕ → Type 0
AreBytes [] = Unit {0}
AreBytes (b ∷ bytes) = (b < 256) × AreBytes bytes

pub bytes-append : (a b : List ℕ) → AreBytes a → AreBytes b → AreBytes (a ++ b)
bytes-append [] b h k = k
bytes-append (x ∷ a) b h k = (h.0, bytes-append a b h.1 k)

pub bytes-all : (a : List ℕ) → All (λ b. b < 256) a → AreBytes a
bytes-all [] h = tt
bytes-all (x ∷ a) h = (All-head (λ b. b < 256) x a h, bytes-all a (All-tail (λ b. b < 256) x a h))

pub bytes-each : (a : List ℕ) → AreBytes a → IsBytes a
bytes-each [] h zero = omega arith
bytes-each [] h (suc i) = omega arith
bytes-each (x ∷ a) h zero = h.0
bytes-each (x ∷ a) h (suc i) = bytes-each a h.1 i
