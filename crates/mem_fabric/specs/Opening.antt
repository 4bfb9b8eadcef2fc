-- The code's own: an end right after it was opened.
use Rattle.std.specs.Prelude.{◌≡◌, ℕ, false, List, []}
use Rattle.atomic_table.specs.Seated.{TableId}
use Rattle.mem_fabric.specs.Fabric.{IsNewEnd}
use Rattle.mem_fabric.specs.Pair.{PairEnd}
use Rattle.mem_fabric.specs.declared.injected.EndCalls.{EndCalls}

-- an end with these calls and queues that sent and received nothing
abbrev pub fresh_end : EndCalls → TableId → TableId → PairEnd
fresh_end calls outward inward = record {
  handed = [];
  finished = false;
  given = [];
  ended = false;
  told = [];
  failing_sends = calls.sends.failing;
  failing_receives = calls.receives.failing;
  sends = calls.sends.calls;
  receives = calls.receives.calls;
  failures = calls.failures;
  outward = outward;
  inward = inward;
}

-- a new end whose sends and receives of these numbers shall fail
pub record IsFresh (failing_sends failing_receives : List ℕ) (end : PairEnd) : Type 0 where
  pub handed : end.handed ≡ []
  pub ended : end.ended ≡ false
  pub failures : end.failures ≡ 0
  pub new : IsNewEnd failing_sends failing_receives end
