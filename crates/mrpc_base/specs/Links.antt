-- The results of sends and receives, and the state of a link in memory.
use Rattle.std.specs.Prelude.{◌≡◌, ℕ, Bool, List, [], ⊤, Option, IfSome}
use Rattle.mrpc_base.specs.declared.link.Came.{Came}
use Rattle.mrpc_base.specs.declared.link.Came.TheVariants.{Bytes, Idle, End, Failed, Memory}

-- P holds of the number of bytes that a receive gave, if it gave bytes
abbrev pub OnCame : Came → (ℕ → Type 0) → Type 0
OnCame (Bytes n) P = P n
OnCame Idle P = ⊤
OnCame End P = ⊤
OnCame Failed P = ⊤
OnCame Memory P = ⊤

-- P holds, if a receive gave no bytes
abbrev pub OnNoneCame : Came → Type 0 → Type 0
OnNoneCame (Bytes n) P = ⊤
OnNoneCame Idle P = P
OnNoneCame End P = P
OnNoneCame Failed P = P
OnNoneCame Memory P = P

-- no byte was received, if the bytes are known
abbrev pub IsEmptyIfKnown : Option (List ℕ) → Type 0
IsEmptyIfKnown given = IfSome given (λ bytes. bytes ≡ [])

-- a link in memory
pub record MemLinkState : Type 0 where
  -- the frames that were sent, in order
  pub handed : List (List ℕ)
  -- the bytes that were received, and those that remain
  pub given : List ℕ
  pub left : List ℕ
  -- the most bytes that the first receive gives, the second, and so on; at 0 nothing is ready
  pub lengths : List ℕ
  -- the numbers of the sends and of the receives that are to fail, each counted from 1
  pub failing_sends : List ℕ
  pub failing_receives : List ℕ
  -- how many sends and receives there were, and how many of both failed; each saturates at 2^64 - 1
  pub sends : ℕ
  pub receives : ℕ
  pub failures : ℕ
  -- whether a receive has returned `End`, and whether the sending side was closed
  pub ended : Bool
  pub finished : Bool
