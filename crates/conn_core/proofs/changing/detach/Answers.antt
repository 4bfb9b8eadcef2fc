use Rattle.std.proofs.Common.{List, ℕ, ap, arith}
use Rattle.engine_core.specs.Moves.{position_of}
use Rattle.chain_upgrade.specs.Chains.{chain_of_state}
use Rattle.conn_core.proofs.Placing.{detach-within}
use Rattle.conn_core.proofs.changing.detach.Goals as goal

pub remove-requires : goal.remove-requires
remove-requires c = omega (
  arith,
  detach-within c.args.chain.now c.in-Ok.name _ c.in_ok-detach.ensures.changes,
  c.place_of-at.ensures,
  c.requires.aligned,
  ap (λ (n : List ℕ). position_of n (chain_of_state c.args.chain.now).entries) c.in-Ok.ensures,
)
