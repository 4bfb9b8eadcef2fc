use Rattle.std.proofs.Common.{sym, subst}
use Rattle.schema_validation.specs.Violations.{IsFirstViolation}
use Rattle.schema_resolve.specs.Resolving.{IsFaultOfAll}
use Rattle.schema_resolve.proofs.Answering.{stands_behind}
use Rattle.schema_resolve.proofs.resolved.resolve_together.Goals as goal

pub new-requires : goal.new-requires
new-requires c = stands_behind c.args.files.now c.requires.formed

pub returns-in-Some-clause-only : goal.returns-in-Some-clause-only
returns-in-Some-clause-only c = λ t r.
    let first = subst (IsFirstViolation c.args.files.now) c.in-Some.is c.in_ok-offence.ensures in
    absurd (r.clean c.in-Some.offence.reason c.in-Some.offence.span first.offence)

pub returns-in-Some-clause-offence : goal.returns-in-Some-clause-offence
returns-in-Some-clause-offence c =
    subst (IsFaultOfAll c.args.files.now) (sym c.fault_of.ensures)
    (subst (IsFirstViolation c.args.files.now) c.in-Some.is c.in_ok-offence.ensures)
