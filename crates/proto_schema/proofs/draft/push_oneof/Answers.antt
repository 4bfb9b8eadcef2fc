use Rattle.std.proofs.Common.{◌++◌, [], ◌∷◌, sym}
use Rattle.proto_schema.proofs.Drafts.{edit_set, edit_beyond}
use Rattle.proto_ast.specs.declared.file.MessageDecl.{MessageDecl}
use Rattle.proto_schema.proofs.draft.push_oneof.Goals as goal

pub returns-in_ok-push : goal.returns-in_ok-push
returns-in_ok-push c =
    rw c.in_ok-push.ensures.ok
    (sym (edit_set c.args.place (λ (m : MessageDecl). record m { oneofs = m.oneofs ++ c.args.name ∷ [] })
    c.args.messages.now c.index-messages-place.result c.if-place-messages.true))

pub returns-else-place-messages : goal.returns-else-place-messages
returns-else-place-messages c = sym (edit_beyond c.args.place _ c.args.messages.now c.if-place-messages.false)
