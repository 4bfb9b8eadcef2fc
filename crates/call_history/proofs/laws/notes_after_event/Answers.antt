use Rattle.call_history.proofs.GoingOn.{noted-attached, noted-attached_other, noted-charged, noted-drawn, noted-counted}
use Rattle.call_history.proofs.Noting.{charge-note, draw-note, count-note, noted-call, noted-name}
use Rattle.std.proofs.Common.{◌∷◌}
use Rattle.call_history.specs.declared.happening.Happening.TheVariants.{Charged, Drawn, Counted}
use Rattle.engine_core.specs.declared.outcome.Noted.TheVariants as notes
use Rattle.call_history.proofs.laws.notes_after_event.Goals as goal

pub returns-clause-attached : goal.returns-clause-attached
returns-clause-attached c = noted-attached

pub returns-clause-attached_other : goal.returns-clause-attached_other
returns-clause-attached_other c = noted-attached_other

pub returns-clause-charged : goal.returns-clause-charged
returns-clause-charged c = noted-charged

pub returns-clause-charged_another : goal.returns-clause-charged_another
returns-clause-charged_another c = λ past seq s left name other apart.
    noted-call past (Charged seq name left ∷ past) seq s name other (notes.Charged left)
    (charge-note past seq name left) apart

pub returns-clause-charged_elsewhere : goal.returns-clause-charged_elsewhere
returns-clause-charged_elsewhere c = λ past seq s left name other apart.
    noted-name past (Charged seq name left ∷ past) seq s name other (notes.Charged left)
    (charge-note past seq name left) apart

pub returns-clause-drawn : goal.returns-clause-drawn
returns-clause-drawn c = noted-drawn

pub returns-clause-drawn_another : goal.returns-clause-drawn_another
returns-clause-drawn_another c = λ past seq s window ticket name other apart.
    noted-call past (Drawn seq name window ticket ∷ past) seq s name other (notes.Drawn window ticket)
    (draw-note past seq name window ticket) apart

pub returns-clause-drawn_elsewhere : goal.returns-clause-drawn_elsewhere
returns-clause-drawn_elsewhere c = λ past seq s window ticket name other apart.
    noted-name past (Drawn seq name window ticket ∷ past) seq s name other (notes.Drawn window ticket)
    (draw-note past seq name window ticket) apart

pub returns-clause-counted : goal.returns-clause-counted
returns-clause-counted c = noted-counted

pub returns-clause-counted_another : goal.returns-clause-counted_another
returns-clause-counted_another c = λ past seq s name other apart. noted-call past (Counted seq name ∷ past) seq s name other notes.Counted (count-note past seq name) apart

pub returns-clause-counted_elsewhere : goal.returns-clause-counted_elsewhere
returns-clause-counted_elsewhere c = λ past seq s name other apart. noted-name past (Counted seq name ∷ past) seq s name other notes.Counted (count-note past seq name) apart
