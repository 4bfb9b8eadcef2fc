use Rattle.std.proofs.Common.{true, false, ◌≡◌, ◌+◌, List, sym, ap, subst, ◌∙◌}
use Rattle.frame_transport.specs.Feed.{FeedState, IsNextFrame}
use Rattle.frame_transport.specs.Kept.{IsFeedState}
use Rattle.frame_transport.specs.declared.format.Frame.{Frame}
use Rattle.frame_transport.proofs.KeptFacts.{seen, kept_next, gives}
use Rattle.frame_transport.proofs.feed.Feed.next.Goals as goal

pub invariant_of-self-2 : goal.invariant_of-self-2
invariant_of-self-2 c =
    let kept = subst (λ (fs : List Frame). IsFeedState c.self.inside.taken fs c.self.inside.end c.self.inside.begun.items c.self.inside.behind) c.in_ok-frame.ensures.items c.self.invariant in
    kept_next c.self.inside.taken c.in_ok-frame.frame c.pop_front.new.self.items c.self.inside.end c.self.inside.begun.items c.self.inside.behind c.len.result kept c.len.ensures

pub returns-clause-frame : goal.returns-clause-frame
returns-clause-frame c =
    let kept = subst (λ (fs : List Frame). IsFeedState c.self.inside.taken fs c.self.inside.end c.self.inside.begun.items c.self.inside.behind) c.in_ok-frame.ensures.items c.self.invariant in
    subst (λ (s : FeedState). IsNextFrame s c.in_ok-frame.frame (seen (c.self.inside.taken + (16 + c.len.result)) c.pop_front.new.self.items c.self.inside.begun.items c.self.inside.behind))
    (ap (λ (fs : List Frame). seen c.self.inside.taken fs c.self.inside.begun.items c.self.inside.behind) (sym c.in_ok-frame.ensures.items) ∙ c.self.view_is)
    (gives c.self.inside.taken c.in_ok-frame.frame c.pop_front.new.self.items c.self.inside.end c.self.inside.begun.items c.self.inside.behind c.len.result kept c.len.ensures)

pub returns-clause-none : goal.returns-clause-none
returns-clause-none c =
    let took = returns-clause-frame c in (
      λ some. let wrong : true ≡ false = some in absurd cc,
      λ partial. absurd
          (partial c.in_ok-frame.frame
          (seen (c.self.inside.taken + (16 + c.len.result)) c.pop_front.new.self.items c.self.inside.begun.items
          c.self.inside.behind).bytes took.frame took.first),
    )
