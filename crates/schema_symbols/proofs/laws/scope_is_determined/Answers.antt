use Rattle.schema_symbols.proofs.ScopeLemmas.{scope_one as same_scope, has_scope}
use Rattle.schema_symbols.proofs.laws.scope_is_determined.Goals as goal

pub returns-clause-exists : goal.returns-clause-exists
returns-clause-exists c = has_scope

pub returns-clause-one : goal.returns-clause-one
returns-clause-one c F home s t h k = same_scope h k
