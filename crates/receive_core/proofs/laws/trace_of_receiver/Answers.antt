use Rattle.receive_core.proofs.Living.{takes_each, stream_is_short, stores_are_few}
use Rattle.receive_core.proofs.laws.trace_of_receiver.Goals as goal

pub returns-clause-each : goal.returns-clause-each
returns-clause-each c = takes_each

pub returns-clause-short : goal.returns-clause-short
returns-clause-short c = stream_is_short c.frame_is_unique.ensures.size c.frame_is_unique.ensures.begun

pub returns-clause-stores : goal.returns-clause-stores
returns-clause-stores c = stores_are_few
