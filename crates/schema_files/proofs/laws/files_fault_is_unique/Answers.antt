use Rattle.schema_files.proofs.Ones.{first_one}
use Rattle.schema_files.proofs.laws.files_fault_is_unique.Goals as goal

pub returns : goal.returns
returns c files =
    first_one (record { one_file = c.file_is_unique.ensures; one_reach = c.import_closure_is_unique.ensures })
    (record { file_not_fault = c.file_or_fault.ensures.not_both; reach_not_fault = c.import_closure_or_fault.ensures.not_both })
    (record { one_text_fault = c.text_fault_is_unique.ensures; one_import_fault = c.import_fault_is_unique.ensures })
    c.valid_or_rejected.ensures.once c.valid_or_rejected.ensures.never_both
    files
    (record {
      ordered = λ ps A. c.joined_is_ordered.ensures.ordered ps (c.joined_is_well_placed.ensures files ps A);
      one_offence = c.first_violation_is_unique.ensures;
      one_text = c.offset_is_in_one_file.ensures.one;
    })
