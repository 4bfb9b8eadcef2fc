use Rattle.receive_heap.proofs.OneLayout.{held_determine_holes}
use Rattle.receive_heap.proofs.laws.held_determine_holes.Goals as goal

pub returns : goal.returns
returns c = held_determine_holes
