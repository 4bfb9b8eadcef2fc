use Rattle.std.proofs.Common.{ap, ◌∙◌}
use Rattle.graph_copy.specs.Expected.{stack_words}
use Rattle.graph_copy.proofs.Stacking.{stack_push}
use Rattle.graph_copy.proofs.walk.Walk.push.Goals as goal

pub returns-clause-frames : goal.returns-clause-frames
returns-clause-frames c = λ T. ap (stack_words T) c.in_ok-push.ensures ∙ stack_push T c.args.self.now.frames c.args.frame
