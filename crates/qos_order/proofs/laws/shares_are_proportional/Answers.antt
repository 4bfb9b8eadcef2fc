use Rattle.qos_order.proofs.Even.{shares_are_even, visits_are_even}
use Rattle.qos_order.proofs.laws.shares_are_proportional.Goals as goal

pub returns : goal.returns
returns c = record { visits = visits_are_even; rounds = shares_are_even }
