use Rattle.shared_heap.proofs.Calls.{has_loaded}
use Rattle.shared_heap.proofs.laws.loads_preserve_reader.Goals as goal

pub returns : goal.returns
returns c = has_loaded
