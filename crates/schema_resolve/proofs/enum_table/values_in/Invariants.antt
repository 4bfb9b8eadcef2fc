use Rattle.std.proofs.Common.{◌≡◌, map, take}
use Rattle.schema_resolve.specs.InOrder.{decl_value_pair, value_pair}
use Rattle.schema_resolve.proofs.enum_table.values_in.Given as goal

abbrev pub invariant-loop-i : goal.invariant-loop-i
invariant-loop-i l = map value_pair l.values.items ≡ map decl_value_pair (take l.i l.decls)
