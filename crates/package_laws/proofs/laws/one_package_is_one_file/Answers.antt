use Rattle.package_laws.proofs.Resolved.{resolved_alone, resolved_together}
use Rattle.package_laws.proofs.laws.one_package_is_one_file.Goals as goal

pub returns-clause-one_file : goal.returns-clause-one_file
returns-clause-one_file c = resolved_alone

pub returns-clause-several : goal.returns-clause-several
returns-clause-several c = resolved_together
