use Rattle.frame_transport.proofs.Splitting.{StandFrom-append, length-joined, splits_behind}
use Rattle.frame_transport.proofs.laws.frames_join.Goals as goal

pub returns : goal.returns
returns c = record { places = StandFrom-append; size = length-joined; splits = splits_behind }
