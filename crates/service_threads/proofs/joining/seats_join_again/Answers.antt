use Rattle.service_threads.proofs.Splits.{joined-drawn, joined-shares}
use Rattle.service_threads.proofs.joining.seats_join_again.Goals as goal

pub returns-clause-shares : goal.returns-clause-shares
returns-clause-shares c =
    let law = c.join_undoes_split.ensures in
    joined-shares law.halves law.shares law.later_shares

pub returns-clause-drawn : goal.returns-clause-drawn
returns-clause-drawn c = joined-drawn c.join_undoes_split.ensures.drawn
