use Rattle.std.proofs.Common.{subst}
use Rattle.proto_ast.specs.declared.file.File.{File}
use Rattle.proto_ast.specs.Joined.{alone}
use Rattle.schema_resolve.specs.Tables.{IsTableOf}
use Rattle.scenario_entries.proofs.policy_laws.schema_table_is_unique.Goals as goal

pub returns : goal.returns
returns c = λ text T U h k.
    let same = c.file_is_unique.ensures text k.file h.file k.reads h.reads in
    let other = subst (λ (F : File). IsTableOf (alone F) U) same k.resolves.table in
    c.resolved_table_is_unique.ensures (alone h.file) T U (c.alone_is_ordered.ensures.ordered text h.file h.reads) h.resolves.table other
