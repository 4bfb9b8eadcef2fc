use Rattle.std.proofs.Common.{sym, subst}
use Rattle.frame_transport.specs.Frames.{IsSplitOf}
use Rattle.frame_transport.specs.Feed.{FeedState}
use Rattle.frame_transport.proofs.KeptFacts.{kept_split, peeked_some, peeked_none}
use Rattle.frame_transport.proofs.feed.Feed.peek.Goals as goal

pub returns-clause-some : goal.returns-clause-some
returns-clause-some c =
    peeked_some (IsSplitOf c.args.self.now.place c.args.self.now.bytes) c.self.inside.waiting.items c.self.inside.waiting.len c.args.i c.get.result c.self.inside.waiting.ok.0
    (λ frames rest s. (kept_split c.self.inside.taken c.self.inside.waiting.items c.self.inside.end c.self.inside.begun.items c.self.inside.behind frames rest c.self.invariant
    (subst (λ (fed : FeedState). IsSplitOf fed.place fed.bytes frames rest) (sym c.self.view_is) s)).0)
    c.get.ensures.variant.0 c.get.ensures.lookup

pub returns-clause-none : goal.returns-clause-none
returns-clause-none c =
    peeked_none (IsSplitOf c.args.self.now.place c.args.self.now.bytes) c.self.inside.waiting.items c.self.inside.waiting.len c.args.i c.get.result c.self.inside.waiting.ok.0
    (λ frames rest s. (kept_split c.self.inside.taken c.self.inside.waiting.items c.self.inside.end c.self.inside.begun.items c.self.inside.behind frames rest c.self.invariant
    (subst (λ (fed : FeedState). IsSplitOf fed.place fed.bytes frames rest) (sym c.self.view_is) s)).0)
    c.get.ensures.variant.1
