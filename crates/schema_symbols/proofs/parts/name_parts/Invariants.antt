use Rattle.std.proofs.Common.{◌≡◌, ◌++◌, length}
use Rattle.mrpc_table.specs.Names.{parts_of}
use Rattle.schema_symbols.specs.Parts.{values_of}
use Rattle.schema_symbols.proofs.parts.name_parts.Given as goal

abbrev pub invariant-loop-part : goal.invariant-loop-part
invariant-loop-part l = values_of l.parts.items ++ parts_of l.rest ≡ parts_of l.fn.name

abbrev pub decreases-loop-part : goal.decreases-loop-part
decreases-loop-part l = length l.rest
