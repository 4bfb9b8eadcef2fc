use Rattle.policy_declarations.proofs.Sound.{is_new, stays_sound}
use Rattle.policy_declarations.proofs.laws.declaration_preserves_validity.Goals as goal

pub returns-clause-new : goal.returns-clause-new
returns-clause-new c T skips d f line text i x h = is_new T skips d f line text i x h

pub returns-clause-sound : goal.returns-clause-sound
returns-clause-sound c T skips d f line text i x s h = stays_sound T skips d s f line text i x h
