use Rattle.schema_resolve.proofs.EnumTables.{values_of}
use Rattle.schema_resolve.proofs.enum_table.sorted.Goals as goal

pub returns : goal.returns
returns c =
    values_of c.args.decls.now _ _ c.requires.distinct c.in_ok-values.ensures c.in_ok-sort.ensures.permutation
    c.in_ok-sort.ensures.sorted
