use Rattle.proto_set.proofs.Linked.{KeepsBefore}
use Rattle.proto_set.proofs.links.Graph.new.Given as goal

abbrev pub invariant-loop-file : goal.invariant-loop-file
invariant-loop-file l = KeepsBefore l.fn.members l.file l.links.items
