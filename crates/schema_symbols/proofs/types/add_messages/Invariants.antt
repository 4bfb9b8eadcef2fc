use Rattle.schema_symbols.specs.Types.{KnowsTypes, declared_in}
use Rattle.schema_symbols.proofs.types.add_messages.Given as goal

abbrev pub invariant-loop-i : goal.invariant-loop-i
invariant-loop-i l = KnowsTypes l.fn.places l.i 0 (declared_in l.types)
