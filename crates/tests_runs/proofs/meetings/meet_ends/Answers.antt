use Rattle.std.proofs.Common.{ℕ, ◌∷◌}
use Rattle.mem_fabric.specs.Pair.{ArePair, PairEnd}
use Rattle.tests_runs.proofs.Meeting.{are_more, are_two_moved, next_is_pair}
use Rattle.tests_runs.proofs.meetings.meet_ends.Goals as goal

pub take_kept-second-requires : goal.take_kept-second-requires
take_kept-second-requires g c =
    let a : ℕ × PairEnd = c.take_kept-first.result in
    let more = c.take_kept-first.new.self.back in
    are_more ArePair a more
    (are_two_moved ArePair (λ x y p. (p.1, p.0)) c.args.fabric.now.back (a ∷ more) c.take_kept-first.ensures.back c.requires)

pub meet-requires : goal.meet-requires
meet-requires g c =
    let a : ℕ × PairEnd = c.take_kept-first.result in
    let more = c.take_kept-first.new.self.back in
    next_is_pair ArePair a c.take_kept-second.result more
    (are_two_moved ArePair (λ x y p. (p.1, p.0)) c.args.fabric.now.back (a ∷ more) c.take_kept-first.ensures.back c.requires)
    c.take_kept-second.ensures.link
