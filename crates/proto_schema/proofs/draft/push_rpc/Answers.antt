use Rattle.std.proofs.Common.{◌++◌, [], ◌∷◌, sym}
use Rattle.proto_schema.proofs.Drafts.{edit_set, edit_beyond}
use Rattle.proto_ast.specs.declared.file.ServiceDecl.{ServiceDecl}
use Rattle.proto_schema.proofs.draft.push_rpc.Goals as goal

pub returns-in_ok-push : goal.returns-in_ok-push
returns-in_ok-push c =
    rw c.in_ok-push.ensures.ok
    (sym (edit_set c.args.place (λ (m : ServiceDecl). record m { rpcs = m.rpcs ++ c.args.rpc ∷ [] })
    c.args.services.now c.index-services-place.result c.if-place-services.true))

pub returns-else-place-services : goal.returns-else-place-services
returns-else-place-services c = sym (edit_beyond c.args.place _ c.args.services.now c.if-place-services.false)
