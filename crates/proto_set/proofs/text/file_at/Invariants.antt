-- the remaining offset is the given one minus the sizes of the texts so far
use Rattle.std.proofs.Common.{◌≡◌, ◌+◌, sum, take}
use Rattle.proto_set.proofs.text.file_at.Given as goal

abbrev pub invariant-loop-k : goal.invariant-loop-k
invariant-loop-k l = l.rest + sum (take l.k l.sizes) ≡ l.fn.place
