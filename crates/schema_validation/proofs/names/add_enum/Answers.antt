use Rattle.std.proofs.Common.{◌++◌, map, ap, ◌∙◌, subst}
use Rattle.std.proofs.lemmas.Result.{on_ok_weaker}
use Rattle.schema_validation.specs.Entries.{name_entry, entries_of}
use Rattle.proto_ast.specs.Joined.{enclosing_of_enum}
use Rattle.proto_ast.specs.declared.joined.Enclosing.{Enclosing}
use Rattle.schema_validation.proofs.EntryLists.{IsTheNumber, pushed, adds_enum}
use Rattle.schema_validation.proofs.names.add_enum.Goals as goal

pub returns-clause-names : goal.returns-clause-names
returns-clause-names c =
    let x = c.args.choices.now in
    let k = c.number_in-scope.result in
    let outer : IsTheNumber c.args.scopes.now (enclosing_of_enum x) k =
    subst (λ (h : Enclosing). IsTheNumber c.args.scopes.now h k) c.enclosing.ensures
    (c.number_in-scope.ensures.has, c.number_in-scope.ensures.one) in
    let one =
    pushed c.args.names.now.items c.push.new.self.items c.name_in.result (name_entry k x.name)
    c.in_ok-push.ensures.items c.name_in.ensures in
    on_ok_weaker c.add_values.result
    (λ values i. adds_enum c.args.scopes.now i x k outer
    _ _ _ one
    (values ∙ ap (λ xs. entries_of c.push.new.self.items ++ map (λ v. name_entry k v.name) xs) c.as_slice.ensures))
    c.add_values.ensures
