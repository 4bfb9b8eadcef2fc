use Rattle.std.proofs.Common.{refl}
use Rattle.schema_files.specs.Resolving.{import_at_fault}
use Rattle.schema_files.proofs.resolver.reached.Goals as goal

pub returns-in-Err-At-clause-fault : goal.returns-in-Err-At-clause-fault
returns-in-Err-At-clause-fault c = λ files read.
    import_at_fault c.args.members.now c.in-Err-At.reason c.in-Err-At.span read
    (rw c.in-Err-At.field-0-is at c.in-Err-At.ensures.fault) refl
