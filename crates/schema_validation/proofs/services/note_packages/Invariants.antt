use Rattle.schema_validation.specs.Recording.{HasRecorded, IsOfFirst, IsOfElement, IsPackageViolationAt}
use Rattle.schema_validation.proofs.services.note_packages.Given as goal

-- the violations of the packages so far are recorded
abbrev pub invariant-loop-i : goal.invariant-loop-i
invariant-loop-i l = HasRecorded (IsOfFirst l.i (IsOfElement l.fn.files.heads IsPackageViolationAt)) l.initial.first l.first
