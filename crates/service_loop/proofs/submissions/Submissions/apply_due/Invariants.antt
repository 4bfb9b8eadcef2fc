use Rattle.std.proofs.Common.{◌≡◌, ◌-◌, length}
use Rattle.service_loop.specs.Serving.{AreSameSubmissions, IsServing}
use Rattle.service_loop.specs.Within.{HasOnlyAppliedOps}
use Rattle.service_loop.proofs.submissions.Submissions.apply_due.Given as goal

abbrev pub invariant-steps : goal.invariant-steps
invariant-steps l = record {
  serving : IsServing l.self;
  closing : l.closing ≡ l.self.calls.closed;
  only : HasOnlyAppliedOps l.fn.self l.self;
  same : AreSameSubmissions l.fn.self l.self;
}

abbrev pub decreases-steps : goal.decreases-steps
decreases-steps l = length l.self.steps.now - l.self.applied
