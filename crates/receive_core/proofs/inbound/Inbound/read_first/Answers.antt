use Rattle.std.proofs.Common.{ap, subst}
use Rattle.frame_transport.specs.Feed.{FeedState}
use Rattle.receive_core.specs.Decoding.{IsReading}
use Rattle.receive_core.specs.Turns.{ReceiverState, IsFirstFrame}
use Rattle.receive_core.proofs.inbound.Inbound.read_first.Goals as goal

pub returns-clause-some : goal.returns-clause-some
returns-clause-some c = (
  c.in-Some.frame.now,
  subst (λ (fed : FeedState). IsFirstFrame fed c.in-Some.frame.now) (ap (λ (r : ReceiverState). r.fed) c.self.view_is) c.in-Some.ensures.some,
  subst (λ (r : ReceiverState). IsReading c.args.table.now r.conn c.in-Some.frame.now c.in_ok-read_frame.field-0) c.self.view_is c.in_ok-read_frame.ensures,
)
