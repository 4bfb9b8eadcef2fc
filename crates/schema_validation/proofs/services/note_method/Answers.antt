use Rattle.mrpc_table.specs.declared.limits.TheConstants.{MAX_METHODS}
use Rattle.proto_ast.specs.Joined.{package_at}
use Rattle.schema_validation.specs.Members.{IsMethodViolation}
use Rattle.schema_validation.specs.declared.reason.ResolveReason.TheVariants.{Limit}
use Rattle.schema_validation.proofs.Meetings.{meets_then, meets_as, meets_least}
use Rattle.schema_validation.proofs.Judging.{MethodParts, method_to, method_from}
use Rattle.schema_validation.proofs.services.note_method.Goals as goal

pub returns : goal.returns
returns c =
    let F = c.args.scopes.now in
    let file = c.args.file in
    let r = c.args.rpc.now in
    meets_as (MethodParts F file (package_at F file) c.args.i r) (IsMethodViolation F file (package_at F file) c.args.i r)
    c.args.first.now
    c.note_message-2.new.first
    (meets_then _ _ _ _ _
    (meets_then _ _ _ _ _
    (meets_then _ _ _ _ _
    (meets_least MAX_METHODS c.args.i Limit r.name.span c.args.first.now c.note_if.new.self c.note_if.ensures)
    c.note_long.ensures)
    c.note_message.ensures)
    c.note_message-2.ensures)
    (method_to F file (package_at F file) c.args.i r) (method_from F file (package_at F file) c.args.i r)
