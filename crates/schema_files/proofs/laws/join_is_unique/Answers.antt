use Rattle.schema_files.proofs.Ones.{joined_one}
use Rattle.schema_files.proofs.laws.join_is_unique.Goals as goal

pub returns : goal.returns
returns c files ps qs A B =
    (joined_one (record { one_file = c.file_is_unique.ensures; one_reach = c.import_closure_is_unique.ensures }) files ps qs A B).parts
