use Rattle.std.proofs.Common.{inl, inr}
use Rattle.table_text.proofs.SameFaults.{first_judged}
use Rattle.table_text.proofs.WholeTables.{table_or_first}
use Rattle.table_text.proofs.read.table_or_fault.Goals as goal

pub returns : goal.returns
returns c = λ text. elim (table_or_first text) [
  | inl table ↦ inl table
  | inr first ↦ inr (first.0, first.1, first_judged text first.0 first.1 first.2)
]
