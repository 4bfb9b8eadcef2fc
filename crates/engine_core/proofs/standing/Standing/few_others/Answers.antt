use Rattle.engine_core.proofs.Keeping.{has-at, length-others}
use Rattle.engine_core.proofs.standing.Standing.few_others.Goals as goal

pub returns : goal.returns
returns c e is = length-others c.args.engines.now e.entry.attach c.args.self.now.marks c.few_marks.ensures.one_each c.requires.marks
    (has-at c.args.engines.now c.args.at e is)
