use Rattle.std.proofs.Common.{◌≡◌, ◌≤◌, ℕ, length, slice_get, vec_len}
use Rattle.std.specs.BTreeMap.{get}
use Rattle.std.specs.Ordering.{nat_cmp}
use Rattle.audit_check.specs.States.{checker_in, checker_of}
use Rattle.audit_check.specs.declared.connections.TheConstants.{NEAR}
use Rattle.audit_check.proofs.connections.Checkers.gather.Given as goal

abbrev pub invariant-loop-checker : goal.invariant-loop-checker
invariant-loop-checker l = record {
  all : (conn : ℕ) → checker_in (slice_get l.near.items conn) (get nat_cmp l.all conn) ≡ checker_of l.fn.self conn;
  few : length l.near.items ≤ NEAR;
}

abbrev pub decreases-loop-checker : goal.decreases-loop-checker
decreases-loop-checker l = vec_len l.near
