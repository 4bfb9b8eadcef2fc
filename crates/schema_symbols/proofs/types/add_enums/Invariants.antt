use Rattle.std.proofs.Common.{length}
use Rattle.schema_symbols.specs.Types.{KnowsTypes, declared_in}
use Rattle.schema_symbols.proofs.types.add_enums.Given as goal

abbrev pub invariant-loop-i : goal.invariant-loop-i
invariant-loop-i l = KnowsTypes l.fn.places (length l.fn.places.messages) l.i (declared_in l.types)
