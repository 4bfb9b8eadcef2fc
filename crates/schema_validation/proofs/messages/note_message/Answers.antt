use Rattle.std.proofs.Common.{List, subst}
use Rattle.mrpc_table.specs.declared.limits.TheConstants.{MAX_MESSAGES}
use Rattle.proto_ast.specs.declared.file.FieldDecl.{FieldDecl}
use Rattle.schema_validation.specs.Members.{IsTypeViolation, IsMessageViolation}
use Rattle.schema_validation.specs.Recording.{HasRecorded, IsOfAny, IsOfElement}
use Rattle.schema_validation.specs.declared.reason.ResolveReason.TheVariants.{Limit}
use Rattle.schema_validation.proofs.Meetings.{meets_then, meets_as, meets_least}
use Rattle.schema_validation.proofs.Judging.{MessageParts, message_to, message_from}
use Rattle.schema_validation.proofs.messages.note_message.Goals as goal

pub returns : goal.returns
returns c scope h =
    let m = c.args.message.now in
    let F = c.args.scopes.now in
    let file = m.file in
    meets_as (MessageParts F file scope c.args.i m) (IsMessageViolation F file scope c.args.i m) c.args.first.now
    c.note_oneofs.new.first
    (meets_then _ _ _ _ _
    (meets_then _ _ _ _ _
    (meets_then _ _ _ _ _
    (meets_then _ _ _ _ _
    (meets_then _ _ _ _ _
    (meets_least MAX_MESSAGES c.args.i Limit m.name.span c.args.first.now c.note_if.new.self c.note_if.ensures)
    c.note_long.ensures)
    (subst (λ (fields : List FieldDecl). HasRecorded (IsOfAny (IsOfElement fields (λ i. IsTypeViolation F file scope)))
    c.note_long.new.first
    c.note_all_types.new.first) c.as_slice.ensures (c.note_all_types.ensures scope h)))
    c.in_ok-note_numbers.ensures)
    c.in_ok-note_names.ensures)
    c.note_oneofs.ensures)
    (message_to F file scope c.args.i m) (message_from F file scope c.args.i m)
