use Rattle.schema_validation.proofs.Meetings.{meets_then, meets_as, meets_least}
use Rattle.schema_validation.proofs.Judging.{enum_to, enum_from}
use Rattle.schema_validation.proofs.enums.note_enum.Goals as goal

pub returns : goal.returns
returns c =
    meets_as _ _ _ _
    (meets_then _ _ _ _ _
    (meets_then _ _ _ _ _
    (meets_then _ _ _ _ _ (meets_least _ _ _ _ _ _ c.note_if.ensures) c.note_long.ensures)
    c.in_ok-note_numbers.ensures)
    c.in_ok-note_names.ensures)
    (enum_to c.args.i c.args.choices.now) (enum_from c.args.i c.args.choices.now)
