use Rattle.std.proofs.Common.{drop, map}
use Rattle.std.specs.Fmt.{decimal}
use Rattle.mrpc_table.specs.Lines.{after_spaces}
use Rattle.wire_encode.specs.Written.{AreWrittenBefore}
use Rattle.audit_text.proofs.row.put_numbers.Given as goal

abbrev pub invariant-loop-place : goal.invariant-loop-place
invariant-loop-place l = AreWrittenBefore l.fn.row l.row l.fn.end l.start (after_spaces (map decimal (drop l.place l.numbers)))
