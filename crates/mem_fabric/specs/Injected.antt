-- The code's own: the calls of an in-memory device, and the failures injected into them.
use Rattle.std.specs.Prelude.{ℕ, Bool, true, false, List}
use Rattle.mrpc_base.specs.Failures.{raised}

-- the numbers of the calls that shall fail, counted from 1, and how many calls were made, at most 2^64 - 1
pub record InjectedCallsState : Type 0 where
  pub failing : List ℕ
  pub calls : ℕ

-- the number of failed calls after one more call, which may have failed
abbrev pub failures_after : Bool → ℕ → ℕ
failures_after true failures = raised failures
failures_after false failures = failures
