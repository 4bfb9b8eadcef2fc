-- The way gets shorter with each message that it enters.
use Rattle.std.proofs.Common.{length, ◌+◌, ◌*◌}
use Rattle.policy_redact.proofs.remove.+remove.Given as goal

abbrev pub decreases-remove_inside : goal.decreases-remove_inside
decreases-remove_inside l = 2 * length l.way.now + 1

abbrev pub decreases-remove_at : goal.decreases-remove_at
decreases-remove_at l = 2 * length l.way.now
