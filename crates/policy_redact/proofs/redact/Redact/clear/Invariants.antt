-- The tree is that after the clears so far.
use Rattle.std.proofs.Common.{◌≡◌, ◌<◌, take}
use Rattle.std.specs.Bool.{OnTrue, OnFalse}
use Rattle.mrpc_table.specs.Weight.{weight}
use Rattle.mrpc_table.specs.declared.table.Table.{Table}
use Rattle.mrpc_table.specs.Calls.{IsCallOf}
use Rattle.policy_redact.specs.Redacting.{cleared_call}
use Rattle.policy_redact.proofs.redact.Redact.clear.Given as goal

abbrev pub invariant-loop-clear : goal.invariant-loop-clear
invariant-loop-clear l = record {
  left : l.call ≡ cleared_call (take l.clear-index l.self) l.fn.call;
  smaller : OnTrue l.changed (weight l.call.tree < weight l.fn.call.tree);
  unchanged : OnFalse l.changed (l.call ≡ l.fn.call);
  fits : (T : Table) → IsCallOf T l.fn.call → IsCallOf T l.call;
}
