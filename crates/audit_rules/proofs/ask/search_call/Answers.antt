use Rattle.std.proofs.Common.{◌≢◌, ◌<◌, get_or, length, arith}
use Rattle.std.proofs.lemmas.List.{length-map}
use Rattle.engine_core.specs.Marks.{PendingCall, seqs_of}
use Rattle.audit_rules.proofs.Numbers.{less-before, more-behind, none-there, not-there}
use Rattle.audit_rules.proofs.ask.search_call.Goals as goal
use Rattle.audit_rules.proofs.ask.search_call.Goals.{else-low-len-via-then-low-len+else-seq_at-seq-2, else-low-len-via-else-low-len}

pub loop-low-preserved-then-seq_at-seq : goal.loop-low-preserved-then-seq_at-seq
loop-low-preserved-then-seq_at-seq c = record {
  closing = omega arith;
  high_within = c.loop-low.invariant.high_within;
  before = less-before 0 c.requires.0 (seqs_of c.args.calls.now) _ c.seq_at.result c.args.seq c.requires.1 c.seq_at.ensures c.if-seq_at-seq.true;
  behind = c.loop-low.invariant.behind;
}

pub loop-low-preserved : goal.loop-low-preserved
loop-low-preserved c = record {
  closing = omega arith;
  high_within = omega arith;
  before = c.loop-low.invariant.before;
  behind = more-behind 0 c.requires.0 (seqs_of c.args.calls.now) _ c.seq_at.result c.args.seq c.requires.1 c.seq_at.ensures c.if-seq_at-seq.false;
}

pub returns-else-low-len-clause-none : goal.returns-else-low-len-clause-none
returns-else-low-len-clause-none c = none-there 0 c.requires.0 (seqs_of c.args.calls.now) c.loop-low.low c.args.seq c.requires.1 c.loop-low.invariant.before
    (λ k from inside. c.loop-low.invariant.behind k (omega arith) inside) apart
  where
    apart : c.loop-low.low < length (seqs_of c.args.calls.now) → get_or (seqs_of c.args.calls.now) c.loop-low.low 0 ≢ c.args.seq
    apart inside = elim c.else-low-len.branch [
      | else-low-len-via-then-low-len+else-seq_at-seq-2 w ↦ not-there (seqs_of c.args.calls.now) c.loop-low.low
          w.seq_at-then-low-len.result c.args.seq w.seq_at-then-low-len.ensures w.if-seq_at-seq-2.false
      | else-low-len-via-else-low-len w ↦ absurd (omega (arith, length-map c.args.calls.now (λ (s : PendingCall). s.call.seq)))
    ]
