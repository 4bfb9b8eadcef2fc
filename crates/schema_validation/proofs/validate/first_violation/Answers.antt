use Rattle.schema_validation.proofs.Meetings.{meets_then, meets_as}
use Rattle.schema_validation.proofs.Judging.{file_to, file_from}
use Rattle.schema_validation.proofs.Firsts.{first_is}
use Rattle.schema_validation.proofs.validate.first_violation.Goals as goal

pub returns : goal.returns
returns c =
    first_is _ _ _ c.new-first.ensures
    (meets_as _ _ _ _
    (meets_then _ _ _ _ _
    (meets_then _ _ _ _ _
    (meets_then _ _ _ _ _
    (meets_then _ _ _ _ _
    (meets_then _ _ _ _ _
    (meets_then _ _ _ _ _
    (meets_then _ _ _ _ _ c.note_packages.ensures c.in_ok-note_duplicates.ensures)
    c.in_ok-note_messages.ensures)
    c.in_ok-note_enums.ensures)
    c.note_services.ensures)
    c.note_methods.ensures)
    c.note_long.ensures)
    c.in_ok-note_text.ensures)
    (file_to _) (file_from _))
