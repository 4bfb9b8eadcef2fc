use Rattle.mrpc_table.specs.Normal.{fields_of}
use Rattle.mrpc_table.proofs.PathFinding.{fields-ascend}
use Rattle.mrpc_table.proofs.path_laws.normal_ascends.Goals as goal

pub returns : goal.returns
returns c = λ T msg t normal. fields-ascend T (fields_of T msg) 0 t normal.fields
