use Rattle.std.proofs.Common.{◌++◌, map, ap, ◌∙◌}
use Rattle.std.proofs.lemmas.Result.{on_ok_weaker}
use Rattle.schema_validation.specs.Entries.{name_entry, entries_of}
use Rattle.schema_validation.proofs.EntryLists.{pushed, adds_service}
use Rattle.schema_validation.proofs.names.add_service.Goals as goal

pub returns-clause-names : goal.returns-clause-names
returns-clause-names c =
    let x = c.args.service.now in
    let k = c.number_in-outer.result in
    let l = c.args.scope in
    let one =
    pushed c.args.names.now.items c.push.new.self.items c.name_in.result (name_entry k x.name)
    c.in_ok-push.ensures.items c.name_in.ensures in
    on_ok_weaker c.add_rpcs.result
    (λ rpcs i own. adds_service c.args.scopes.now i x k l (c.number_in-outer.ensures.has, c.number_in-outer.ensures.one)
    own _ _ _ one
    (rpcs ∙ ap (λ xs. entries_of c.push.new.self.items ++ map (λ r. name_entry l r.name) xs) c.as_slice.ensures))
    c.add_rpcs.ensures
