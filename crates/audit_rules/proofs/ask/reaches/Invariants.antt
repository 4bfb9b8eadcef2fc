-- the engines so far let the call pass, and there was no event
use Rattle.std.proofs.Common.{◌≡◌, ℕ, map, slice_get}
use Rattle.std.specs.Prelude.{All, Some}
use Rattle.mrpc_table.specs.Calls.{IsCallOf}
use Rattle.call_history.specs.Trace.{Trace, timestamp}
use Rattle.call_history.specs.Legal.{IsLegalPrefix}
use Rattle.call_history.specs.Rules.{JudgeContext}
use Rattle.call_history.specs.Ties.{AreNumbersApart, AreTied}
use Rattle.engine_core.specs.Marks.{seqs_of}
use Rattle.audit_rules.specs.Asking.{HasPassedFirst}
use Rattle.audit_rules.proofs.ask.reaches.Given as goal

abbrev pub invariant-loop-next : goal.invariant-loop-next
invariant-loop-next l = record {
  numbers : seqs_of l.calls ≡ seqs_of l.initial.calls;
  entries : map (λ e. e.entry) l.engines ≡ map (λ e. e.entry) l.initial.engines;
  of_table : All (λ s. IsCallOf l.table s.call) l.calls;
  ties : (u : JudgeContext) (past : Trace) (attached : ℕ) → IsLegalPrefix u past → AreTied u.conn past l.initial.engines attached l.initial.calls
      → AreNumbersApart l.initial.calls → AreTied u.conn past l.engines attached l.calls;
  lets : (u : JudgeContext) (past : Trace) (attached seq : ℕ) → IsLegalPrefix u past → AreTied u.conn past l.initial.engines attached l.initial.calls
      → AreNumbersApart l.initial.calls → l.now ≡ timestamp past → slice_get (seqs_of l.initial.calls) l.place ≡ Some seq
      → HasPassedFirst u past seq l.from → HasPassedFirst u past seq l.next;
}
