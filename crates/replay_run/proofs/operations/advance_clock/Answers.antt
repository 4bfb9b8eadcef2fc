use Rattle.call_history.specs.Transitions.{shows}
use Rattle.conn_core.specs.Connections.{conn_state}
use Rattle.replay_run.specs.Follows.{advances_clock}
use Rattle.replay_run.proofs.Sent.{comes-of, keeps-by, moved}
use Rattle.replay_run.proofs.operations.advance_clock.Goals as goal

pub returns-clause-does : goal.returns-clause-does
returns-clause-does c = λ s l of_script is.
    advances_clock c.args.ms (conn_state c.clock.new.self) is (comes-of s c.args.connection.now (shows c.args.ms) c.clock.new.self of_script c.in_ok-clock.ensures.shown)
    (moved c.args.connection.now c.clock.new.self c.in_ok-clock.ensures.same)

pub returns-clause-keeps : goal.returns-clause-keeps
returns-clause-keeps c = keeps-by c.args.connection.now c.clock.new.self c.in_ok-clock.ensures.same c.requires.rests
