use Rattle.std.proofs.Common.{arith, ◌∙◌, length-drop, rules}
use Rattle.std.proofs.Math.Seq.{take-add}
use Rattle.mrpc_base.proofs.KnownBytes.{appends-more, rest-whole}
use Rattle.mrpc_base.proofs.writing.write_all.Goals as goal

pub loop-done-preserved : goal.loop-done-preserved
loop-done-preserved g c = record {
  within = omega (arith, c.in-Took.ensures.count, length-drop c.loop-done.done c.args.bytes.now);
  front = rw take-add (appends-more _ _ _ _ _ c.loop-done.invariant.front (rw (rest-whole c.args.bytes.now c.loop-done.done) at c.in-Took.ensures.appended));
  untouched = λ none. absurd (omega (arith, none, c.in-Took.ensures.count));
  no_fault = c.in-Took.ensures.cause.stays (search rules) ∙ c.loop-done.invariant.no_fault;
}
