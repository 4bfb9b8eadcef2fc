use Rattle.proto_ast.specs.Joined.{alone}
use Rattle.text_commands.proofs.laws.file_law.Goals as goal

pub returns : goal.returns
returns c = record {
  either = c.file_or_fault.ensures.either;
  never_neither = λ text F reads.
      c.table_or_violation.ensures.not_neither F (c.alone_is_ordered.ensures.formed text F reads)
      (c.alone_is_ordered.ensures.ordered text F reads);
  file_is_unique = c.file_is_unique.ensures;
  fault_is_unique = c.text_fault_is_unique.ensures;
  file_or_fault = c.file_or_fault.ensures.not_both;
  table_is_unique = λ text F T U reads. c.resolved_table_is_unique.ensures (alone F) T U (c.alone_is_ordered.ensures.ordered text F reads);
  violation_is_unique = λ text F q r s t reads.
      c.file_violation_is_unique.ensures F q r s t (c.alone_is_ordered.ensures.ordered text F reads);
  table_or_violation = c.table_or_violation.ensures.not_both;
}
