use Rattle.mrpc_table.proofs.PathFinding.{numbers-ascend}
use Rattle.mrpc_table.proofs.path_laws.numbers_ascend.Goals as goal

pub returns : goal.returns
returns c = λ t up. numbers-ascend 0 t up
