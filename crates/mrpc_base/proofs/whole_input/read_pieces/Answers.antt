use Rattle.std.proofs.Common.{arith, rules}
use Rattle.mrpc_base.proofs.InputBytes.{all_of_consumed}
use Rattle.mrpc_base.proofs.whole_input.read_pieces.Goals as goal

pub returns-in-End-clause-whole : goal.returns-in-End-clause-whole
returns-in-End-clause-whole g c = (omega arith, all_of_consumed _ _ _ c.loop-text.invariant.0.text_is (c.in-End.ensures.end (search rules)))
