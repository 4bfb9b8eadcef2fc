use Rattle.std.proofs.Common.{refl}
use Rattle.call_history.proofs.GoingOn.{level-attached, level-attached_other, level-upgraded, level-upgraded_other, level-charged, level-charged_other}
use Rattle.call_history.proofs.laws.levels_after_event.Goals as goal

pub returns-clause-attached : goal.returns-clause-attached
returns-clause-attached c = level-attached

pub returns-clause-attached_other : goal.returns-clause-attached_other
returns-clause-attached_other c = level-attached_other

pub returns-clause-upgraded : goal.returns-clause-upgraded
returns-clause-upgraded c = level-upgraded

pub returns-clause-upgraded_other : goal.returns-clause-upgraded_other
returns-clause-upgraded_other c = level-upgraded_other

pub returns-clause-filled : goal.returns-clause-filled
returns-clause-filled c = λ past ms name. refl

pub returns-clause-charged : goal.returns-clause-charged
returns-clause-charged c = level-charged

pub returns-clause-charged_other : goal.returns-clause-charged_other
returns-clause-charged_other c = level-charged_other
