use Rattle.qos_order.proofs.Balance.{visits_balance}
use Rattle.qos_order.proofs.Turns.{turns_balance}
use Rattle.qos_order.proofs.laws.visits_balance.Goals as goal

pub returns : goal.returns
returns c = record { account = visits_balance; wheel = turns_balance }
