use Rattle.std.proofs.Common.{ap, ◌∙◌}
use Rattle.frame_transport.specs.Feed.{total_fed}
use Rattle.receive_core.specs.Turns.{ReceiverState}
use Rattle.receive_core.proofs.Firsts.{left_splits, taken_total}
use Rattle.receive_core.proofs.inbound.Inbound.take_first.Goals as goal

pub invariant_of-self : goal.invariant_of-self
invariant_of-self c = (
  c.self.invariant.0,
  c.self.invariant.1,
  left_splits c.frame_is_unique.ensures.once c.self.inside.feed c.in-Some.frame c.next.new.self c.self.invariant.2 c.in-Some.ensures.frame,
)

pub returns-clause-total : goal.returns-clause-total
returns-clause-total c =
    taken_total c.self.inside.feed c.in-Some.frame c.next.new.self c.in-Some.ensures.frame ∙ ap (λ (r : ReceiverState). total_fed r.fed) c.self.view_is
