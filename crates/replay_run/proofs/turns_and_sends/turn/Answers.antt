use Rattle.replay_run.proofs.Sent.{turn-done}
use Rattle.replay_run.proofs.turns_and_sends.turn.Goals as goal

pub returns : goal.returns
returns c = λ wire s of_script.
    turn-done s c.args.connection.now c.args.at c.turn.result c.turn.new.self c.args.tickets.now c.turn.new.tickets wire of_script c.requires.rests c.turn.ensures.same c.turn.ensures.idle
    c.turn.ensures.as_before c.turn.ensures.turned c.turn.ensures.draws
