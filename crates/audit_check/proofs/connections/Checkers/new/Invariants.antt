use Rattle.std.proofs.Common.{◌≡◌, ℕ, [], length, slice_get}
use Rattle.mrpc_table.specs.declared.table.Table.{Table}
use Rattle.audit_check.specs.States.{KnowsOn}
use Rattle.audit_check.proofs.connections.Checkers.new.Given as goal

abbrev pub invariant-loop-conn : goal.invariant-loop-conn
invariant-loop-conn l = record {
  many : length l.near.items ≡ l.conn;
  knows : (T : Table) (conn : ℕ) → KnowsOn T l.limit conn [] (slice_get l.near.items conn);
}
