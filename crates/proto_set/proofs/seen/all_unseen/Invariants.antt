use Rattle.std.proofs.Common.{◌≡◌, replicate, false}
use Rattle.proto_set.proofs.seen.all_unseen.Given as goal

abbrev pub invariant-loop : goal.invariant-loop
invariant-loop l = l.marks.items ≡ replicate l.counter false
