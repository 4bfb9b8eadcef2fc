use Rattle.std.proofs.Common.{◌≡◌}
use Rattle.std.specs.Prelude.{pos}
use Rattle.mrpc_table.specs.Valid.{IsFieldNumber}
use Rattle.schema_validation.specs.Types.{signed_value}
use Rattle.schema_validation.specs.Members.{IsFieldNumberOf}
use Rattle.schema_validation.specs.declared.reason.ResolveReason.TheVariants.{NumberRange, DuplicateNumber, Reserved}
use Rattle.schema_validation.proofs.Meetings.{meets_then, meets_where}
use Rattle.schema_validation.proofs.Unless.{meets_unless}
use Rattle.schema_validation.proofs.messages.note_number.Goals as goal

pub returns : goal.returns
returns c =
    let number = c.args.number.now in
    meets_then _ _ _ _ _
    (meets_then _ _ _ _ _
    (meets_unless (IsFieldNumberOf (signed_value number) → ⊥) (λ n. (signed_value number ≡ pos n) × IsFieldNumber n)
    c.field_number.result c.is_none-out_of_range.result NumberRange number.span c.args.first.now c.note_if.new.self
    c.is_none-out_of_range.ensures c.field_number.ensures (λ n h q p. p (n, q.0, q.1)) c.note_if.ensures)
    (meets_where c.args.is_met DuplicateNumber number.span c.note_if.new.self c.note_if-2.new.self c.note_if-2.ensures))
    (meets_where c.args.is_reserved Reserved number.span c.note_if-2.new.self c.note_if-3.new.self c.note_if-3.ensures)
