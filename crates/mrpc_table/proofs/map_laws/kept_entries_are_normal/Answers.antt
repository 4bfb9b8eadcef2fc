use Rattle.mrpc_table.proofs.MapOrder.{last-kinds, last-ascend, last-depth, last-some}
use Rattle.mrpc_table.proofs.map_laws.kept_entries_are_normal.Goals as goal

pub returns-clause-kinds : goal.returns-clause-kinds
returns-clause-kinds c = last-kinds

pub returns-clause-ascend : goal.returns-clause-ascend
returns-clause-ascend c = last-ascend

pub returns-clause-depth : goal.returns-clause-depth
returns-clause-depth c = last-depth

pub returns-clause-some : goal.returns-clause-some
returns-clause-some c = last-some
