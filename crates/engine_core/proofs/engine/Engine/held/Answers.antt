use Rattle.std.proofs.Common.{refl}
use Rattle.engine_core.specs.Answers.{holds}
use Rattle.engine_core.proofs.engine.Engine.held.Goals as goal

pub returns-else-is_noted-clause-holds : goal.returns-else-is_noted-clause-holds
returns-else-is_noted-clause-holds c = λ moment. rw (← c.self.view_is)
    (holds c.in-Rate.rate c.in-Rate.is (rw c.if-is_noted.false at c.is_noted.ensures.none) c.if-self-rate.true c.if-rate.true refl)
