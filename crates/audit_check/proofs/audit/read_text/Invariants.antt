use Rattle.std.proofs.Common.{length}
use Rattle.audit_check.specs.TextProgress.{IsRead}
use Rattle.audit_check.proofs.audit.read_text.Given as goal

abbrev pub invariant-loop-rest : goal.invariant-loop-rest
invariant-loop-rest l = IsRead l.table l.declared l.loads l.text l.rest l.progress

abbrev pub decreases-loop-rest : goal.decreases-loop-rest
decreases-loop-rest l = length l.rest
