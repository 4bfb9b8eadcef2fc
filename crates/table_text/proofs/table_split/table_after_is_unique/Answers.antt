use Rattle.table_text.proofs.TableCuts.{one_behind}
use Rattle.table_text.proofs.WholeTables.{behind_or_endless, canonical_behind, canonical_endless}
use Rattle.table_text.proofs.table_split.table_after_is_unique.Goals as goal

pub returns-clause-one : goal.returns-clause-one
returns-clause-one c = one_behind

pub returns-clause-some : goal.returns-clause-some
returns-clause-some c = behind_or_endless

pub returns-clause-canonical : goal.returns-clause-canonical
returns-clause-canonical c = canonical_behind

pub returns-clause-endless : goal.returns-clause-endless
returns-clause-endless c = canonical_endless
