use Rattle.engine_core.proofs.Turning.{turn-step, engine-step, call-step, marks-step, known-after}
use Rattle.engine_core.proofs.engine.Engine.work.Goals as goal

pub returns-clause-comes_out : goal.returns-clause-comes_out
returns-clause-comes_out g c = turn-step c.args.self.now _ _ _ _ _ c.turn.ensures.step

pub returns-clause-engine : goal.returns-clause-engine
returns-clause-engine g c = engine-step c.args.self.now c.turn.new.self _ _ _ _ c.turn.ensures.step c.turn.ensures.last c.turn.ensures.entry

pub returns-clause-call : goal.returns-clause-call
returns-clause-call g c = call-step _ _ _ _ _ _ _ _ _ c.turn.ensures.step

pub returns-clause-marks : goal.returns-clause-marks
returns-clause-marks g c = marks-step c.args.self.now.entry _ _ _ _ _ _ c.turn.ensures.step

pub returns-clause-tickets : goal.returns-clause-tickets
returns-clause-tickets g c = record {
  drawn = c.turn.ensures.drawn;
  elsewhere = c.turn.ensures.elsewhere;
  knows = c.turn.ensures.knows;
  known = λ p known. known-after p c.turn.ensures.knows known;
  undrawn = c.turn.ensures.undrawn;
  since = c.turn.ensures.since;
}
