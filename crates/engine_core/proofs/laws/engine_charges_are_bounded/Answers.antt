use Rattle.policy_rate.specs.Level.{IsRate, rate_after}
use Rattle.engine_core.proofs.laws.engine_charges_are_bounded.Goals as goal

pub returns : goal.returns
returns c = λ before after first start past recent ranges earlier later kept.
    let rate : IsRate (rate_after first past) = rw earlier.policy at ranges in
    rw (earlier.last, later.last) (c.charges_are_bounded.ensures first start past recent rate later.paid kept)
