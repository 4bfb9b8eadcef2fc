use Rattle.std.proofs.Common.{sym, ap, ◌∙◌}
use Rattle.schema_validation.specs.Members.{IsReservedName, IsNameViolation}
use Rattle.schema_validation.specs.ReservedNames.{has_reserved_name}
use Rattle.schema_validation.specs.declared.reason.ResolveReason.TheVariants.{Reserved, Limit}
use Rattle.schema_validation.proofs.Meetings.{meets_then, meets_as, meets_when, meets_least}
use Rattle.schema_validation.proofs.Judging.{NameParts, name_to, name_from}
use Rattle.schema_validation.proofs.name_set.NameSet.note_name.Goals as goal

pub returns : goal.returns
returns c words keeps =
    let w = c.args.word.now in
    let same = c.has-reserved.ensures ∙ ap (has_reserved_name c.args.self.now) c.as_slice.ensures in
    meets_as (NameParts words c.args.limit c.args.i w) (IsNameViolation words c.args.limit c.args.i w) c.args.first.now
    c.note_if-2.new.self
    (meets_then _ _ _ _ _
    (meets_then _ _ _ _ _
    (meets_when (IsReservedName words w.name) c.has-reserved.result Reserved w.span c.args.first.now c.note_if.new.self
    (λ t. (keeps w.name).0 (sym same ∙ t)) (λ r. same ∙ (keeps w.name).1 r) c.note_if.ensures)
    c.note_long.ensures)
    (meets_least c.args.limit c.args.i Limit w.span c.note_long.new.first c.note_if-2.new.self c.note_if-2.ensures))
    (name_to words c.args.limit c.args.i w) (name_from words c.args.limit c.args.i w)
