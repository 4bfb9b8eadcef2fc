-- An in-memory fabric.
use Rattle.std.specs.Prelude.{◌≡◌, ℕ, false, ◌==◌, List, [], filter, map, IsPermutation}
use Rattle.mem_fabric.specs.Pair.{PairEnd}

pub record MemFabricState : Type 0 where
  -- the links that it keeps, each with its connection, and how many ends that it opened are in use
  pub back : List (ℕ × PairEnd)
  pub away : ℕ
  -- the openings that shall fail by number, and the sends and receives by connection and number, counted from 1
  pub failing_openings : List ℕ
  pub failing_sends : List (ℕ × ℕ)
  pub failing_receives : List (ℕ × ℕ)
  -- how many openings were made and failed; each saturates at 2^64 - 1
  pub openings : ℕ
  pub failures : ℕ

-- the numbers that are listed for a connection
abbrev pub failing_calls_of : ℕ → List (ℕ × ℕ) → List ℕ
failing_calls_of conn listed = map (λ entry. entry.1) (filter (λ entry. entry.0 == conn) listed)

-- an unused end whose sends and receives of these numbers shall fail
pub record IsNewEnd (failing_sends failing_receives : List ℕ) (end : PairEnd) : Type 0 where
  pub finished : end.finished ≡ false
  pub given : end.given ≡ []
  pub told : end.told ≡ []
  pub sends_to_fail : IsPermutation failing_sends end.failing_sends
  pub receives_to_fail : IsPermutation failing_receives end.failing_receives
  pub sends : end.sends ≡ 0
  pub receives : end.receives ≡ 0
