-- What contracts see of a reader and of a writer of the system.
use Rattle.std.specs.Prelude.{ℕ, List, Option}

pub record InputState : Type 0 where
  -- the bytes that remain to be read; `None` if the reader doesn't reveal them
  pub left : Option (List ℕ)
  -- how many reads failed; it saturates at 2^64 - 1
  pub failures : ℕ

pub record OutputState : Type 0 where
  -- the bytes that were written; `None` if the writer doesn't reveal them
  pub written : Option (List ℕ)
  -- how many writes failed; it saturates at 2^64 - 1
  pub failures : ℕ
