use Rattle.std.proofs.Common.{refl, ◌∙◌}
use Rattle.tests_threads.proofs.links.writers.talk_and_close.Goals as goal

-- the closed link has the two queues of the given one
pub returns-clause-forward : goal.returns-clause-forward
returns-clause-forward g c =
    c.close.ensures.forward ∙ (c.talk-talked.ensures.same_link c.args.link (refl, refl, refl)).0

pub returns-clause-backward : goal.returns-clause-backward
returns-clause-backward g c =
    c.close.ensures.backward ∙ (c.talk-talked.ensures.same_link c.args.link (refl, refl, refl)).1
