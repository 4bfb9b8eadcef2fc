use Rattle.std.proofs.Common.{◌++◌, map, ap, ◌∙◌, subst}
use Rattle.std.proofs.lemmas.Result.{on_ok_weaker}
use Rattle.schema_validation.specs.Entries.{name_entry, entries_of}
use Rattle.proto_ast.specs.Joined.{enclosing_of}
use Rattle.proto_ast.specs.declared.joined.Enclosing.{Enclosing}
use Rattle.schema_validation.proofs.EntryLists.{IsTheNumber, pushed, adds_message}
use Rattle.schema_validation.proofs.names.add_message.Goals as goal

pub returns-clause-names : goal.returns-clause-names
returns-clause-names c =
    let F = c.args.scopes.now in
    let m = c.args.message.now in
    let k = c.number_in-outer.result in
    let l = c.number_in-inner.result in
    let outer : IsTheNumber F (enclosing_of m) k =
    subst (λ (h : Enclosing). IsTheNumber F h k) c.enclosing.ensures
    (c.number_in-outer.ensures.has, c.number_in-outer.ensures.one) in
    let one =
    pushed c.args.names.now.items c.push.new.self.items c.name_in.result (name_entry k m.name)
    c.in_ok-push.ensures.items c.name_in.ensures in
    let fields =
    c.in_ok-add_fields.ensures
    ∙ ap (λ xs. entries_of c.push.new.self.items ++ map (λ f. name_entry l f.name) xs) c.as_slice.ensures in
    on_ok_weaker c.add_oneofs.result
    (λ oneofs. adds_message F c.args.i m k l outer
    (c.number_in-inner.ensures.has, c.number_in-inner.ensures.one) _ _ _ _ one fields
    (oneofs ∙ ap (λ xs. entries_of c.add_fields.new.names.items ++ map (name_entry l) xs) c.as_slice-2.ensures))
    c.add_oneofs.ensures
