use Rattle.replay_run.proofs.GivenLaws.{HistoryLaws}
use Rattle.replay_run.proofs.Going.{line-allowed}
use Rattle.replay_run.proofs.InTurn.{broken-stops, run-breaks, run-replays}
use Rattle.replay_run.proofs.Needs.{is-open, ready-for}
use Rattle.replay_run.proofs.Runs.{begins, line-breaks, line-goes_on, line-stops, opens-one, stops-after, stops-as_it_is, stops-at_once}
use Rattle.replay_run.proofs.run_law.run_follows_script.Goals as goal
use Rattle.replay_run.proofs.run_law.run_follows_script.Goals.{After-drains_settle}

laws : After-drains_settle → HistoryLaws
laws c = record {
  joined = c.histories_after_event.ensures.joined;
  one_more = c.histories_after_event.ensures.one_more;
  apart = c.connections_are_independent.ensures.behind;
  begins = c.transitions_preserve_invariant.ensures.beginning;
  event = c.transitions_preserve_invariant.ensures.event;
  partly = c.drains_settle.ensures.begins;
  whole = c.drains_settle.ensures.whole;
}

pub returns-clause-begins : goal.returns-clause-begins
returns-clause-begins c = begins

pub returns-clause-at_once : goal.returns-clause-at_once
returns-clause-at_once c = stops-at_once

pub returns-clause-at_end : goal.returns-clause-at_end
returns-clause-at_end c = λ s cs quotas out out' wire wire' a last some. stops-after s cs quotas out out' wire wire' a last some

pub returns-clause-words : goal.returns-clause-words
returns-clause-words c = λ s conn words cs quotas out wire script b. (line-allowed (laws c) s b.lines _ b.others script b.order).ranges

pub returns-clause-opens : goal.returns-clause-opens
returns-clause-opens c = opens-one

pub returns-clause-stops : goal.returns-clause-stops
returns-clause-stops c = stops-as_it_is

pub returns-clause-is_open : goal.returns-clause-is_open
returns-clause-is_open c = is-open (laws c)

pub returns-clause-ready : goal.returns-clause-ready
returns-clause-ready c = λ s l cs quotas out wire place d script few b uses found at.
    let it = ready-for (laws c) s l cs quotas out wire place d script few b uses found at in
    (it.on, it.ready, it.may, it.known)

pub returns-clause-goes_on : goal.returns-clause-goes_on
returns-clause-goes_on c = line-goes_on (laws c)

pub returns-clause-breaks : goal.returns-clause-breaks
returns-clause-breaks c = line-breaks (laws c)

pub returns-clause-stops_at : goal.returns-clause-stops_at
returns-clause-stops_at c = line-stops (laws c)

pub returns-clause-replays : goal.returns-clause-replays
returns-clause-replays c = λ s cs quotas out out' last wire wire' script a counted told.
    run-replays (laws c) s script cs quotas out out' last wire wire' a counted told

pub returns-clause-broke : goal.returns-clause-broke
returns-clause-broke c = λ s cs quotas out out' last wire wire' script b counted told.
    run-breaks (laws c) s script cs quotas out out' last wire wire' b counted told

pub returns-clause-stops_broken : goal.returns-clause-stops_broken
returns-clause-stops_broken c = broken-stops
