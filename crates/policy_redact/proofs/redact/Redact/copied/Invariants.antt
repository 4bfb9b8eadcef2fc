use Rattle.std.proofs.Common.{◌≡◌, take}
use Rattle.policy_redact.proofs.redact.Redact.copied.Given as goal

abbrev pub invariant-loop-clear : goal.invariant-loop-clear
invariant-loop-clear l = l.copies.items ≡ take l.clear-index l.clears
