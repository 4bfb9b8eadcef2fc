use Rattle.std.proofs.Common.{◌≡◌, List, subst}
use Rattle.proto_set.specs.Joining.{joined}
use Rattle.proto_set.specs.declared.linked_file.LinkedFile.{LinkedFile}
use Rattle.schema_resolve.specs.Tables.{IsTableOf}
use Rattle.schema_files.proofs.laws.files_table_is_unique.Goals as goal

pub returns : goal.returns
returns c files t u R S =
    let same : R.parts ≡ S.parts = c.join_is_unique.ensures files R.parts S.parts R.joins S.joins in
    c.resolved_table_is_unique.ensures (joined S.parts) t u
    (c.joined_is_ordered.ensures.ordered S.parts (c.joined_is_well_placed.ensures files S.parts S.joins))
    (subst (λ (ps : List LinkedFile). IsTableOf (joined ps) t) same R.resolves.table) S.resolves.table
