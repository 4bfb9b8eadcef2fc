use Rattle.std.proofs.lemmas.List.Elements.{All-from_recursion}
use Rattle.replay_run.specs.Consistency.{IsConsistentOn}
use Rattle.replay_run.proofs.Followed.{front-stands, until-stands, whole-stands, legal-of, tried-allowed}
use Rattle.replay_run.proofs.GivenLaws.{HistoryLaws}
use Rattle.replay_run.proofs.laws.replay_is_legal.Goals as goal
use Rattle.replay_run.proofs.laws.replay_is_legal.Goals.{After-drains_settle}

laws : After-drains_settle → HistoryLaws
laws c = record {
  joined = c.histories_after_event.ensures.joined;
  one_more = c.histories_after_event.ensures.one_more;
  apart = c.connections_are_independent.ensures.behind;
  begins = c.transitions_preserve_invariant.ensures.beginning;
  event = c.transitions_preserve_invariant.ensures.event;
  partly = c.drains_settle.ensures.begins;
  whole = c.drains_settle.ensures.whole;
}

pub returns-clause-legal : goal.returns-clause-legal
returns-clause-legal c = λ s end script f. legal-of (laws c) s script s.lines end (whole-stands (laws c) s script end f)

pub returns-clause-legal_until : goal.returns-clause-legal_until
returns-clause-legal_until c = λ s tried end script f. legal-of (laws c) s script _ end (until-stands (laws c) s script tried end f.until)

pub returns-clause-sound : goal.returns-clause-sound
returns-clause-sound c = λ s end script f. All-from_recursion (IsConsistentOn s end.history) end.opened (whole-stands (laws c) s script end f).each

pub returns-clause-sound_until : goal.returns-clause-sound_until
returns-clause-sound_until c = λ s tried end script f. All-from_recursion (IsConsistentOn s end.history) end.opened (until-stands (laws c) s script tried end f.until).each

pub returns-clause-legal_so_far : goal.returns-clause-legal_so_far
returns-clause-legal_so_far c = λ s lines others st script order leads. legal-of (laws c) s script lines st (front-stands (laws c) s script lines others st order leads)

pub returns-clause-sound_so_far : goal.returns-clause-sound_so_far
returns-clause-sound_so_far c = λ s lines others st script order leads.
    All-from_recursion (IsConsistentOn s st.history) st.opened
    (front-stands (laws c) s script lines others st order leads).each

pub returns-clause-allowed : goal.returns-clause-allowed
returns-clause-allowed c = λ s tried end script f. tried-allowed (laws c) s script tried end f.until
