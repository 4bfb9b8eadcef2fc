use Rattle.std.proofs.Common.{take}
use Rattle.schema_symbols.specs.Parts.{KnowsLastIndices, values_of}
use Rattle.schema_symbols.proofs.parts.last_places.Given as goal

abbrev pub invariant-loop-i : goal.invariant-loop-i
invariant-loop-i l = KnowsLastIndices (take l.i (values_of l.parts)) l.places
