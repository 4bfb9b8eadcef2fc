use Rattle.replay_laws.proofs.Ends.{EndLaws, one-end, one-failure}
use Rattle.replay_laws.proofs.Further.{sends-more}
use Rattle.replay_laws.proofs.Scripts.{Laws}
use Rattle.replay_laws.proofs.existence.unique_history_exists.Goals as goal

pub returns : goal.returns
returns c =
    let laws : Laws = record {
      turns = record {
        growth = record { one_more = c.histories_after_event.ensures.one_more; frames_on = c.frames_after_event.ensures };
        answer = c.answer_is_unique.ensures.at_least;
        keeps = c.transitions_preserve_invariant.ensures.event;
        forms = c.pending_calls_have_forms.ensures.forms;
        is_chain = c.chain_after_event.ensures.is_chain;
        smaller = c.clear_shrinks_tree.ensures;
      };
      graphs = record {
        offence = c.loads_end_malformed.ensures.offence;
        limit = c.loads_end_malformed.ensures.limit;
        few = c.malformed_graphs_are_within_limit.ensures.loads;
        reason = c.malformed_graphs_are_within_limit.ensures.reason;
        normal = c.sound_tree_is_normal.ensures;
      };
      apart = c.connections_are_independent.ensures.behind;
      few = c.pending_calls_have_forms.ensures.few;
      unless_refused = c.changed_is_the_change.ensures.unless_refused;
      legal = c.replay_is_legal.ensures.legal_so_far;
      sound = c.replay_is_legal.ensures.sound_so_far;
    } in
    let ends : EndLaws = record {
      one = c.replay_is_deterministic.ensures.whole;
      one_failure = c.replay_is_deterministic.ensures.until;
      legal = c.replay_is_legal.ensures.legal;
      legal_until = c.replay_is_legal.ensures.legal_until;
      sound = c.replay_is_legal.ensures.sound;
      sound_until = c.replay_is_legal.ensures.sound_until;
    } in
    record {
      whole = one-end laws ends;
      until = one-failure laws ends;
      places = λ s tried end whole script until follows.
          sends-more (record { below = laws; begins = c.drains_settle.ensures.begins; one = ends.one }) s script tried end until whole follows;
    }
