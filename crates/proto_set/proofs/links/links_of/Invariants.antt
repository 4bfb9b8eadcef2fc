use Rattle.proto_set.proofs.Linked.{LinksBefore}
use Rattle.proto_set.proofs.links.links_of.Given as goal

abbrev pub invariant-loop-n : goal.invariant-loop-n
invariant-loop-n l = LinksBefore l.fn.members l.fn.file l.n l.links
