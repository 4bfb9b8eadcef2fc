use Rattle.frame_transport.proofs.Splitting.{always_splits, splits_once, fault_stays, always_ends, ends_once}
use Rattle.frame_transport.proofs.laws.split_is_unique.Goals as goal

pub returns : goal.returns
returns c = record { splits = always_splits; once = splits_once; stays = fault_stays; ends = always_ends; one_end = ends_once }
