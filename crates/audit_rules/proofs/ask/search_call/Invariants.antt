-- calls before `low` have smaller numbers, and calls from `high` on don't
use Rattle.std.proofs.Common.{ℕ, ◌-◌, ◌<◌, ◌≤◌, get_or, length}
use Rattle.engine_core.specs.Marks.{seqs_of}
use Rattle.audit_rules.proofs.ask.search_call.Given as goal

abbrev pub invariant-loop-low : goal.invariant-loop-low
invariant-loop-low l = record {
  closing : l.low ≤ l.high;
  high_within : l.high ≤ length l.calls;
  before : (k : ℕ) → k < l.low → get_or (seqs_of l.calls) k 0 < l.seq;
  behind : (k : ℕ) → l.high ≤ k → k < length (seqs_of l.calls) → l.seq ≤ get_or (seqs_of l.calls) k 0;
}

abbrev pub decreases-loop-low : goal.decreases-loop-low
decreases-loop-low l = l.high - l.low
