use Rattle.chain_upgrade.specs.Chains.{chain_of_state}
use Rattle.call_history.specs.Transitions.{operates}
use Rattle.conn_core.specs.Connections.{conn_state}
use Rattle.replay_run.specs.Follows.{operates_on}
use Rattle.replay_run.proofs.Sent.{comes-of, moved}
use Rattle.replay_run.proofs.Stopped.{no-fault}
use Rattle.replay_run.proofs.operations.operate.Goals as goal

pub returns-in_default-clause-does : goal.returns-in_default-clause-does
returns-in_default-clause-does c = λ s l of_script is.
    operates_on c.args.step (conn_state c.operate.new.self) is (comes-of s c.args.connection.now (operates c.args.step) c.operate.new.self of_script c.in_default.ensures.operated)
    (moved c.args.connection.now c.operate.new.self c.in_default.ensures.same)

pub unreachable-requires : goal.unreachable-requires
unreachable-requires c = no-fault (chain_of_state c.args.connection.now.calls.chain) c.args.step c.in-Err.fault c.in_default-fault.not-Memory c.in-Err.ensures.refused c.requires.may.free
