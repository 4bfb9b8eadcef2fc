use Rattle.mrpc_table.specs.View.{node_of}
use Rattle.wire_decode.specs.Gathered.{IsGathered}
use Rattle.wire_decode.proofs.merge.gathered.Given as goal

abbrev pub invariant-loop-number : goal.invariant-loop-number
invariant-loop-number l = IsGathered l.fields (node_of l.yielded) (node_of l.held.items)
