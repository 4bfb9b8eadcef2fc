use Rattle.std.proofs.Common.{◌≡◌, take, ℕ}
use Rattle.std.specs.Prelude.{sum_by}
use Rattle.proto_ast.specs.declared.file.Span.{Span}
use Rattle.schema_validation.specs.Recording.{HasRecorded, IsOfFirst, IsOfElement}
use Rattle.mrpc_table.specs.Capped.{capped}
use Rattle.schema_validation.specs.Lengths.{IsPast}
use Rattle.schema_validation.proofs.lines.note_lines.Given as goal

abbrev pub invariant-loop-i : goal.invariant-loop-i
invariant-loop-i l = record {
  total : l.total ≡ capped (sum_by (λ (y : Span × ℕ). y.1) (take l.i l.lines));
  meets : HasRecorded (IsOfFirst l.i (IsOfElement l.lines (IsPast l.lines))) l.initial.first l.first;
}
