use Rattle.std.proofs.Common.{◌≡◌, sym, ◌∙◌, ap}
use Rattle.std.specs.Prelude.{◌==◌}
use Rattle.std.specs.List.{list_any}
use Rattle.proto_ast.specs.Joined.{Joined}
use Rattle.proto_ast.specs.declared.joined.Head.{Head}
use Rattle.schema_symbols.proofs.PlaceLemmas.{sees_iff}
use Rattle.schema_symbols.proofs.scope_indices.ScopeIndices.sees.Goals as goal

pub returns : goal.returns
returns c =
    let any : c.contains.result ≡ list_any (λ y. y == c.args.other) c.index-heads-file.result.sees =
    c.contains.ensures.value ∙ ap (list_any (λ y. y == c.args.other)) (c.as_slice.ensures ∙ ap (λ (h : Head). h.sees) (sym c.index-heads-file.is)) in
    sees_iff c.heads.result.now c.args.file c.args.other c.index-heads-file.result c.contains.result
    (c.heads.ensures ∙ ap (λ (F : Joined). F.heads) c.self.view_is) c.requires c.index-heads-file.is any
