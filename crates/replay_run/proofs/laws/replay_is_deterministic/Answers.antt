use Rattle.replay_run.proofs.GivenLaws.{HistoryLaws}
use Rattle.replay_run.proofs.OneFailure.{until-alike}
use Rattle.replay_run.proofs.OneLaws.{OneLaws}
use Rattle.replay_run.proofs.OneScript.{whole-alike}
use Rattle.replay_run.proofs.laws.replay_is_deterministic.Goals as goal
use Rattle.replay_run.proofs.laws.replay_is_deterministic.Goals.{After-reading_determines_outcome}

history-laws : After-reading_determines_outcome → HistoryLaws
history-laws c = record {
  joined = c.histories_after_event.ensures.joined;
  one_more = c.histories_after_event.ensures.one_more;
  apart = c.connections_are_independent.ensures.behind;
  begins = c.transitions_preserve_invariant.ensures.beginning;
  event = c.transitions_preserve_invariant.ensures.event;
  partly = c.drains_settle.ensures.begins;
  whole = c.drains_settle.ensures.whole;
}

laws : After-reading_determines_outcome → OneLaws
laws c = record {
  history = history-laws c;
  is_chain = c.chain_after_event.ensures.is_chain;
  end = c.transitions_are_deterministic.ensures.end;
  turn = c.transitions_are_deterministic.ensures.turn;
  reading = c.reading_determines_outcome.ensures;
}

pub returns-clause-whole : goal.returns-clause-whole
returns-clause-whole c = λ s end other script first second. whole-alike (laws c) s end other script first second

pub returns-clause-until : goal.returns-clause-until
returns-clause-until c = λ s tried instead end other script first second counts. until-alike (laws c) s script end other tried instead first second counts
