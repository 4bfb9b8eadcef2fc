use Rattle.call_history.proofs.Fates.{one_at_most, fate-of-taken}
use Rattle.call_history.specs.Legal.{trace_of}
use Rattle.call_history.proofs.laws.fate_is_unique.Goals as goal

pub returns-clause-once : goal.returns-clause-once
returns-clause-once c = λ T limit conn seq h legal. one_at_most (record { conn = conn; table = T; limit = limit }) (trace_of conn h) seq (legal conn).prefix

pub returns-clause-accepted : goal.returns-clause-accepted
returns-clause-accepted c = λ T limit conn seq h legal. fate-of-taken (record { conn = conn; table = T; limit = limit }) (trace_of conn h) seq (legal conn).prefix
