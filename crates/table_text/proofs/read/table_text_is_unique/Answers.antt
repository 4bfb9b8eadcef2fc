use Rattle.table_text.proofs.ReadLemmas.{one_each}
use Rattle.table_text.proofs.read.table_text_is_unique.Goals as goal

pub returns : goal.returns
returns c = one_each
