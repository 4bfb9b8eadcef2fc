use Rattle.std.proofs.Common.{◌≡◌, ◌++◌, ◌+◌, ◌≤◌, All, length}
use Rattle.audit_text.specs.Lines.{audit}
use Rattle.audit_text.specs.Writable.{IsWritable}
use Rattle.audit_text.proofs.reading.read_audit.Given as goal

abbrev pub decreases-loop-rest : goal.decreases-loop-rest
decreases-loop-rest l = length l.rest

abbrev pub invariant-loop-rest : goal.invariant-loop-rest
invariant-loop-rest l = record {
  text : l.text ≡ audit l.table l.history ++ l.rest;
  told : All (IsWritable l.table l.declared) l.history;
  room : length l.history + length l.rest ≤ length l.text;
}
