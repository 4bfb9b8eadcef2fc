use Rattle.schema_files.proofs.Neither.{never_neither}
use Rattle.schema_files.proofs.Ones.{table_or_first}
use Rattle.schema_files.proofs.laws.table_or_files_fault.Goals as goal

pub returns-clause-never_both : goal.returns-clause-never_both
returns-clause-never_both c =
    table_or_first (record { one_file = c.file_is_unique.ensures; one_reach = c.import_closure_is_unique.ensures })
    (record { file_not_fault = c.file_or_fault.ensures.not_both; reach_not_fault = c.import_closure_or_fault.ensures.not_both })
    c.valid_or_rejected.ensures.never_both

pub returns-clause-never_neither : goal.returns-clause-never_neither
returns-clause-never_neither c =
    never_neither
    (record {
      paths = c.valid_or_rejected.ensures.never_neither;
      text = c.file_or_fault.ensures.either;
      imports = c.import_closure_or_fault.ensures.not_neither;
      offences = c.table_or_violation.ensures.not_neither_of_all;
    })
    (record {
      sound = c.joined_is_well_placed.ensures;
      formed = c.joined_is_ordered.ensures.formed;
      ordered = c.joined_is_ordered.ensures.ordered;
      stand = c.violations_have_spans.ensures;
      own = c.offset_is_in_one_file.ensures.own;
    })
