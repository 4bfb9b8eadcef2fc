use Rattle.wire_base.proofs.Varints.{AreFilled}
use Rattle.wire_base.proofs.varint.fill_varint.Given as goal

abbrev pub invariant-loop-place : goal.invariant-loop-place
invariant-loop-place l = AreFilled l.out l.place l.rest l.v
