-- The lines so far are the clears so far, and none is at fault.
use Rattle.policy_redact.specs.Reading.{AreRead}
use Rattle.policy_redact.proofs.read.read_lines.Given as goal

abbrev pub invariant-loop-place : goal.invariant-loop-place
invariant-loop-place l = AreRead l.table l.lines l.place l.clears.items
