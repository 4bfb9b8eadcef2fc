use Rattle.std.proofs.Common.{refl, ◌∙◌}
use Rattle.service_threads.proofs.Knowing.{served-knowing}
use Rattle.service_threads.proofs.reconciling.reconcile_calls.Goals as goal

pub returns-clause-knows : goal.returns-clause-knows
returns-clause-knows c = record {
  served = served-knowing c.args.submissions.now c.observe.new.self c.meet.new.self c.requires.served c.observe.ensures.heap
      c.observe.ensures.loads c.observe.ensures.grows c.meet.ensures.heap c.meet.ensures.taken c.meet.ensures.closed
      c.calls_are_fresh.ensures.later;
  known = c.observe.ensures.last c.requires.last;
  heap = c.observe.ensures.heap;
  taken = c.meet.ensures.taken ∙ c.meet.ensures.all;
  conn = refl;
  steps = refl;
  finished = refl;
  accepted = refl;
}
