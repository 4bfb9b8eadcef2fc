use Rattle.std.proofs.Common.{◌≡◌, take}
use Rattle.proto_set.specs.Joining.{sizes_of}
use Rattle.schema_files.proofs.resolver.sizes.Given as goal

-- the sizes of the linked files so far
abbrev pub invariant-loop-k : goal.invariant-loop-k
invariant-loop-k l = l.sizes.items ≡ take l.k (sizes_of l.parts)
