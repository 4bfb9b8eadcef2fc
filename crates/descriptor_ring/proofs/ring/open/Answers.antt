use Rattle.descriptor_ring.specs.Rings.{IsDescriptorOf}
use Rattle.descriptor_ring.proofs.Moves.{begins}
use Rattle.descriptor_ring.proofs.ring.open.Goals as goal

pub ruled-requires-clause-rule : goal.ruled-requires-clause-rule
ruled-requires-clause-rule c = begins IsDescriptorOf 4294967294
