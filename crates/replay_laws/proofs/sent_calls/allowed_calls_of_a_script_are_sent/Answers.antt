use Rattle.replay_laws.proofs.SentScripts.{script-sends}
use Rattle.replay_laws.proofs.sent_calls.allowed_calls_of_a_script_are_sent.Goals as goal

pub returns : goal.returns
returns c = script-sends (record {
  stands_once_taken = c.pending_after_event.ensures.taken;
  joined = c.histories_after_event.ensures.joined;
  apart = c.connections_are_independent.ensures.behind;
  sound = c.replay_is_legal.ensures.sound_so_far;
  legal = c.replay_is_legal.ensures.legal;
  settled = c.drained_connection_is_settled.ensures;
})
