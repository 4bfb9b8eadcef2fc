use Rattle.schema_symbols.proofs.ScopeLemmas.{number_full, number_same, number_small}
use Rattle.schema_symbols.proofs.laws.scope_number_is_unique.Goals as goal

pub returns-clause-scope : goal.returns-clause-scope
returns-clause-scope c F s t k m n = number_full m n

pub returns-clause-number : goal.returns-clause-number
returns-clause-number c F s k l m n = number_same m n

pub returns-clause-small : goal.returns-clause-small
returns-clause-small c F s k n = number_small n
