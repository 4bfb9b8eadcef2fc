use Rattle.std.proofs.Common.{◌≡◌, length, sym, ap, subst, arith}
use Rattle.frame_transport.specs.Feed.{FeedState}
use Rattle.frame_transport.specs.Frames.{IsSplitOf}
use Rattle.frame_transport.proofs.KeptFacts.{kept_split}
use Rattle.frame_transport.proofs.feed.Feed.partial_len.Goals as goal

pub returns : goal.returns
returns c frames rest s =
    let same = kept_split c.self.inside.taken c.self.inside.waiting.items c.self.inside.end c.self.inside.begun.items c.self.inside.behind frames rest c.self.invariant
    (subst (λ (fed : FeedState). IsSplitOf fed.place fed.bytes frames rest) (sym c.self.view_is) s) in
    let left : length c.self.inside.begun.items ≡ length rest = ap length same.1 in
    let behind : c.self.inside.behind ≡ c.args.self.now.behind = ap (λ (fed : FeedState). fed.behind) c.self.view_is in
    omega (arith, c.len.ensures, left, behind)
