use Rattle.std.proofs.Common.{rules}
use Rattle.tenant_quota.proofs.Steps.{begins}
use Rattle.tenant_quota.proofs.opening.open.Goals as goal

pub of_words-requires : goal.of_words-requires
of_words-requires c = begins _ _ (search rules)
