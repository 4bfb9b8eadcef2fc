use Rattle.call_history.proofs.Prefixes.{chained}
use Rattle.call_history.proofs.TieNotes.{tied-worked}
use Rattle.call_history.proofs.TieSteps.{attaches-on, detaches-on, leaves-on, shows-on, takes-on, took-other, upgrades-on}
use Rattle.call_history.proofs.ties.ties_after_event.Goals as goal

pub returns-clause-takes : goal.returns-clause-takes
returns-clause-takes c = takes-on c.unmarked_is_true.ensures

pub returns-clause-takes_none : goal.returns-clause-takes_none
returns-clause-takes_none c = took-other

pub returns-clause-leaves : goal.returns-clause-leaves
returns-clause-leaves c = leaves-on

pub returns-clause-attaches : goal.returns-clause-attaches
returns-clause-attaches c = attaches-on c.unmarked_is_true.ensures

pub returns-clause-detaches : goal.returns-clause-detaches
returns-clause-detaches c = detaches-on c.change_preserves_chain.ensures

pub returns-clause-upgrades : goal.returns-clause-upgrades
returns-clause-upgrades c = λ u past engines attached calls name label policy place e e' prefix ties is named new.
    upgrades-on c.change_preserves_chain.ensures u past engines attached calls name label policy place e e' prefix ties is named new.entry new.level new.last new.true_for

pub returns-clause-shows : goal.returns-clause-shows
returns-clause-shows c = shows-on c.change_preserves_chain.ensures

pub returns-clause-works : goal.returns-clause-works
returns-clause-works c = λ u past engines attached calls position place now outcome engines' calls' prefix ties apart w.
    tied-worked u.conn past engines attached calls position place now outcome engines' calls' (chained c.change_preserves_chain.ensures u past prefix) ties apart w
