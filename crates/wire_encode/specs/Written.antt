-- Bytes in a buffer that is filled from its end.
use Rattle.std.specs.Prelude.{◌≡◌, ℕ, ◌+◌, List, ◌++◌, length, drop}

-- the bytes are directly before `end`, from `start` on, and those from `end` on are unchanged
pub record AreWrittenBefore (old new : List ℕ) (end start : ℕ) (bytes : List ℕ) : Type 0 where
  pub place : start + length bytes ≡ end
  pub written : drop start new ≡ bytes ++ drop end old
