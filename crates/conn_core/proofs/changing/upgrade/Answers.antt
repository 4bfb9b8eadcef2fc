use Rattle.std.proofs.Common.{List, ℕ, [], ap, arith}
use Rattle.engine_core.specs.Moves.{position_of}
use Rattle.chain_upgrade.specs.Chains.{chain_of_state}
use Rattle.conn_core.proofs.Placing.{upgrade-changed, upgrade-within}
use Rattle.conn_core.proofs.changing.upgrade.Goals as goal

pub index_mut-requires : goal.index_mut-requires
index_mut-requires c = omega (
  arith,
  upgrade-within c.args.chain.now c.in-Ok-Ok.name [] c.in-Ok-Ok.policy _ (c.in_ok-upgrade.ensures.changes []),
  c.place_of-at.ensures,
  c.requires.aligned,
  ap (λ (n : List ℕ). position_of n (chain_of_state c.args.chain.now).entries) c.in-Ok-Ok.ensures,
)

pub returns-clause-changed : goal.returns-clause-changed
returns-clause-changed c =
    λ label. upgrade-changed c.args.chain.now c.upgrade.new.self c.args.now c.args.name.now c.in-Ok-Ok.name label
    c.args.policy.now c.in-Ok-Ok.policy
    c.in-Ok-Ok.ensures c.in-Ok-Ok.ensures' (c.in_ok-upgrade.ensures.changes label) c.in_ok-upgrade.ensures.engines
    c.in_ok-upgrade.ensures.calls c.in_ok-upgrade.ensures.row
