use Rattle.mrpc_table.specs.Text.{table_text}
use Rattle.table_text.proofs.FirstFaults.{one_first, none_first, first_within}
use Rattle.table_text.proofs.SameFaults.{judged_first}
use Rattle.table_text.proofs.read.table_fault_is_unique.Goals as goal

pub returns-clause-one : goal.returns-clause-one
returns-clause-one c = λ text m n r q h k. one_first text m n r q (judged_first text m r h) (judged_first text n q k)

pub returns-clause-none : goal.returns-clause-none
returns-clause-none c = λ t line reason valid h. none_first t line reason valid (judged_first (table_text t) line reason h)

pub returns-clause-place : goal.returns-clause-place
returns-clause-place c = λ text line reason h. first_within text line reason (judged_first text line reason h)
