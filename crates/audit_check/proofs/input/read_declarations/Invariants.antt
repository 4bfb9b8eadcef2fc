-- The declarations so far.
use Rattle.std.proofs.Common.{length}
use Rattle.policy_declarations.specs.Declarations.{no_declarations}
use Rattle.audit_check.specs.Inputs.{HasDeclarations}
use Rattle.audit_check.proofs.input.read_declarations.Given as goal

abbrev pub invariant-loop-line : goal.invariant-loop-line
invariant-loop-line l = HasDeclarations l.table no_declarations l.text l.declared l.rest

abbrev pub decreases-loop-line : goal.decreases-loop-line
decreases-loop-line l = length l.rest
