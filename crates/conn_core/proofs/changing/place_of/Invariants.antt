use Rattle.conn_core.proofs.Placing.{IsBehind}
use Rattle.conn_core.proofs.changing.place_of.Given as goal

abbrev pub invariant-loop-at : goal.invariant-loop-at
invariant-loop-at l = IsBehind l.name l.chain.engines l.at
