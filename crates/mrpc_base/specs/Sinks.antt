-- The results of writes, and the state of a sink in memory.
use Rattle.std.specs.Prelude.{ℕ, ◌<◌, List, length, take, Option, ⊤}
use Rattle.std.specs.Io.KnownBytes.{Appends}
use Rattle.mrpc_base.specs.declared.sink.Put.{Put}
use Rattle.mrpc_base.specs.declared.sink.Put.TheVariants.{Took, Failed}

-- P holds of the number of bytes that a write took, if it took bytes
abbrev pub OnTook : Put → (ℕ → Type 0) → Type 0
OnTook (Took n) P = P n
OnTook Failed P = ⊤

-- a proper prefix of the bytes was written
abbrev pub HasAppendedPrefix : Option (List ℕ) → Option (List ℕ) → List ℕ → Type 0
HasAppendedPrefix old new bytes = (n : ℕ) × (n < length bytes) × Appends old new (take n bytes)

-- a sink in memory
pub record MemSinkState : Type 0 where
  -- the bytes that were written
  pub written : List ℕ
  -- the numbers of the writes that are to fail, counted from 1
  pub failing : List ℕ
  -- how many writes there were, and how many failed; each saturates at 2^64 - 1
  pub calls : ℕ
  pub failures : ℕ
