use Rattle.std.proofs.Common.{◌^◌}
use Rattle.descriptor_ring.proofs.Moves.{begins}
use Rattle.descriptor_ring.proofs.numbers.open_numbers.Goals as goal

pub ruled-requires-clause-rule : goal.ruled-requires-clause-rule
ruled-requires-clause-rule c = begins (λ _ _. Unit {0}) (2 ^ 61)
