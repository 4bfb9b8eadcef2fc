-- The remaining digits, and those that are written.
use Rattle.std.proofs.Common.{◌≡◌, ◌+◌, ◌≤◌, ◌++◌, drop, length}
use Rattle.std.specs.Fmt.{decimal}
use Rattle.audit_text.proofs.row.put_number.Given as goal

abbrev pub invariant-loop-left : goal.invariant-loop-left
invariant-loop-left l = record {
  within : l.start ≤ l.fn.end;
  place : l.start + length (decimal l.fn.number) ≡ l.fn.end + length (decimal l.left);
  written : decimal l.left ++ drop l.start l.row ≡ decimal l.fn.number ++ drop l.fn.end l.fn.row;
}

abbrev pub decreases-loop-left : goal.decreases-loop-left
decreases-loop-left l = l.left
