use Rattle.schema_validation.specs.Entries.{entries_of, IsRedeclared}
use Rattle.schema_validation.specs.Recording.{HasRecorded, IsOfFirst, IsOfElement}
use Rattle.schema_validation.proofs.names.note_later.Given as goal

-- the duplicates among the names so far are recorded
abbrev pub invariant-loop-i : goal.invariant-loop-i
invariant-loop-i l =
    HasRecorded (IsOfFirst l.i (IsOfElement (entries_of l.names) (IsRedeclared (entries_of l.names)))) l.initial.first l.first
