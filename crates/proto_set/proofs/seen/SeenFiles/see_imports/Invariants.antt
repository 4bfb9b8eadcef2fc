use Rattle.std.proofs.Common.{take}
use Rattle.proto_set.specs.Seeing.{HasSeenMore, IsLinked}
use Rattle.proto_set.proofs.seen.SeenFiles.see_imports.Given as goal

-- the imports up to here
abbrev pub invariant-loop-link : goal.invariant-loop-link
invariant-loop-link l = HasSeenMore (IsLinked (take l.link-index l.links)) l.fn.self l.self
