-- The results of reads, and the state of a source in memory.
use Rattle.std.specs.Prelude.{ℕ, List, Option, None, Some, min, ⊤}
use Rattle.mrpc_base.specs.declared.source.Got.{Got}
use Rattle.mrpc_base.specs.declared.source.Got.TheVariants.{Bytes, End, Failed}

-- P holds of the number of bytes that a read gave, if it gave bytes
abbrev pub OnBytes : Got → (ℕ → Type 0) → Type 0
OnBytes (Bytes n) P = P n
OnBytes End P = ⊤
OnBytes Failed P = ⊤

-- P holds, if a read gave no bytes
abbrev pub OnNoBytes : Got → Type 0 → Type 0
OnNoBytes (Bytes n) P = ⊤
OnNoBytes End P = P
OnNoBytes Failed P = P

-- a source in memory
pub record MemSourceState : Type 0 where
  -- the bytes that remain
  pub left : List ℕ
  -- the most bytes that the first read gives, the second, and so on
  pub lengths : List ℕ
  -- the numbers of the reads that are to fail, counted from 1
  pub failing : List ℕ
  -- how many reads there were, and how many failed; each saturates at 2^64 - 1
  pub calls : ℕ
  pub failures : ℕ

-- the least of the length listed for a read, if there is one, the buffer's length, and the number of bytes that remain
abbrev pub given_count : Option ℕ → ℕ → ℕ → ℕ
given_count None room left = min room left
given_count (Some most) room left = min most (min room left)
