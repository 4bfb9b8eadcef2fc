use Rattle.std.proofs.Common.{◌∙◌, arith}
use Rattle.call_history.specs.Trace.{chain}
use Rattle.call_history.specs.Rules.{IsAllowedInTrace}
use Rattle.audit_rules.proofs.Asked.{apart-same, entries-same, lets-less, numbers-same, of-table, turn-lets, turn-stops, turn-ties}
use Rattle.audit_rules.proofs.ask.reaches.Goals as goal

pub loop-next-preserved : goal.loop-next-preserved
loop-next-preserved c = record {
  numbers = numbers-same c.loop-next.engines c.loop-next.calls c.loop-next.next c.args.place c.args.now
      c.work-outcome.result c.work-outcome.new.engines c.work-outcome.new.calls c.work-outcome.ensures.works
      ∙ c.loop-next.invariant.numbers;
  entries = entries-same c.loop-next.engines c.loop-next.calls c.loop-next.next c.args.place c.args.now
      c.work-outcome.result c.work-outcome.new.engines c.work-outcome.new.calls c.work-outcome.ensures.works
      ∙ c.loop-next.invariant.entries;
  of_table = of-table c.loop-next.engines c.loop-next.calls c.loop-next.next c.args.place c.args.now
      c.work-outcome.result c.work-outcome.new.engines c.work-outcome.new.calls c.work-outcome.ensures.works
      c.args.table.now c.loop-next.invariant.of_table;
  ties = λ u past n prefix ties apart. turn-ties c.loop-next.engines c.loop-next.calls c.loop-next.next c.args.place
      c.args.now c.work-outcome.result c.work-outcome.new.engines c.work-outcome.new.calls
      c.work-outcome.ensures.works c.ties_after_event.ensures.works u past n prefix (c.loop-next.invariant.ties u past n prefix ties apart)
      (apart-same c.args.calls.now c.loop-next.calls c.loop-next.invariant.numbers apart) c.if-not-is_pass.ensures.passes;
  lets = λ u past n seq prefix ties apart shows there lets.
      turn-lets c.loop-next.engines c.loop-next.calls c.loop-next.next c.args.place c.args.now c.work-outcome.result
      c.work-outcome.new.engines
      c.work-outcome.new.calls c.work-outcome.ensures.works u past n seq (c.loop-next.invariant.ties u past n prefix ties apart) shows
      (rw c.loop-next.invariant.numbers there) c.if-not-is_pass.ensures.passes (c.loop-next.invariant.lets u past n seq prefix ties apart shows there lets);
}

pub returns-clause-passes : goal.returns-clause-passes
returns-clause-passes c = λ u past n seq prefix ties apart shows there lets. lets-less (IsAllowedInTrace u past seq) (chain past).entries c.args.at c.loop-next.next (omega arith)
    (c.loop-next.invariant.lets u past n seq prefix ties apart shows there lets)

pub returns-then-not-is_pass-clause-stops : goal.returns-then-not-is_pass-clause-stops
returns-then-not-is_pass-clause-stops c = λ u past n seq prefix ties apart shows there lets.
    turn-stops c.loop-next.engines c.loop-next.calls c.loop-next.next c.args.place c.args.now c.work-outcome.result
    c.work-outcome.new.engines c.work-outcome.new.calls c.work-outcome.ensures.works c.answer_is_unique.ensures.at_most u
    past n seq c.args.at (c.loop-next.invariant.ties u past n prefix ties apart) shows
    (rw c.loop-next.invariant.numbers there) c.if-not-is_pass.ensures.another (omega arith)

pub returns-then-not-is_pass-clause-numbers : goal.returns-then-not-is_pass-clause-numbers
returns-then-not-is_pass-clause-numbers c =
    numbers-same c.loop-next.engines c.loop-next.calls c.loop-next.next c.args.place c.args.now c.work-outcome.result
    c.work-outcome.new.engines c.work-outcome.new.calls
    c.work-outcome.ensures.works ∙ c.loop-next.invariant.numbers

pub returns-then-not-is_pass-clause-entries : goal.returns-then-not-is_pass-clause-entries
returns-then-not-is_pass-clause-entries c =
    entries-same c.loop-next.engines c.loop-next.calls c.loop-next.next c.args.place c.args.now c.work-outcome.result
    c.work-outcome.new.engines c.work-outcome.new.calls
    c.work-outcome.ensures.works ∙ c.loop-next.invariant.entries

pub returns-then-not-is_pass-clause-of_table : goal.returns-then-not-is_pass-clause-of_table
returns-then-not-is_pass-clause-of_table c =
    of-table c.loop-next.engines c.loop-next.calls c.loop-next.next c.args.place c.args.now c.work-outcome.result
    c.work-outcome.new.engines c.work-outcome.new.calls
    c.work-outcome.ensures.works c.args.table.now c.loop-next.invariant.of_table
