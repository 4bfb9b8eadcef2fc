use Rattle.frame_transport.proofs.FaultFacts.{none_before_length}
use Rattle.frame_transport.proofs.Splitting.{frame_unique, length-bytes_of, partial_of_nothing, stays_short}
use Rattle.frame_transport.proofs.laws.frame_is_unique.Goals as goal

pub returns : goal.returns
returns c = record { once = frame_unique; size = length-bytes_of; nothing = partial_of_nothing; short = none_before_length; begun = stays_short }
