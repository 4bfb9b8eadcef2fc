use Rattle.schema_files.proofs.Sounds.{parts_sound}
use Rattle.schema_files.proofs.laws.joined_is_well_placed.Goals as goal

pub returns : goal.returns
returns c files ps A =
    parts_sound (record {
      formed = c.file_is_ordered.ensures.formed;
      ordered = c.file_is_ordered.ensures.ordered;
      within = c.file_is_within.ensures;
    }) files A.members A.reach ps A.read A.reached A.parts
