use Rattle.std.proofs.Common.{◌++◌, sym}
use Rattle.proto_schema.proofs.Drafts.{edit_set, edit_beyond}
use Rattle.proto_ast.specs.declared.file.EnumDecl.{EnumDecl}
use Rattle.proto_schema.proofs.draft.push_value_names.Goals as goal

pub returns-in_ok-append : goal.returns-in_ok-append
returns-in_ok-append c =
    rw c.in_ok-append.ensures
    (sym (edit_set c.args.place (λ (m : EnumDecl). record m { names = m.names ++ c.args.names }) c.args.enums.now
    c.index-enums-place.result c.if-place-enums.true))

pub returns-else-place-enums : goal.returns-else-place-enums
returns-else-place-enums c = sym (edit_beyond c.args.place _ c.args.enums.now c.if-place-enums.false)
