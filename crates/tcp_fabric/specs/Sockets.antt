-- The result of a write to a socket.
use Rattle.std.specs.Prelude.{ℕ, ⊤}
use Rattle.tcp_fabric.specs.declared.socket.WriteResult.{WriteResult}
use Rattle.tcp_fabric.specs.declared.socket.WriteResult.TheVariants.{Took, Full, Failed}

-- P holds of the number of bytes that a write took, if it took bytes
abbrev pub OnWritten : WriteResult → (ℕ → Type 0) → Type 0
OnWritten (Took n) P = P n
OnWritten Full P = ⊤
OnWritten Failed P = ⊤

-- P holds if a write took no bytes
abbrev pub OnNoneWritten : WriteResult → Type 0 → Type 0
OnNoneWritten (Took n) P = ⊤
OnNoneWritten Full P = P
OnNoneWritten Failed P = P
