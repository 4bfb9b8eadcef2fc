use Rattle.frame_transport.proofs.KeptFacts.{kept_nothing}
use Rattle.frame_transport.proofs.feed.Feed.new.Goals as goal

pub invariant_of-result : goal.invariant_of-result
invariant_of-result c = rw (c.new.ensures.items, c.new-2.ensures.items) kept_nothing
