use Rattle.std.proofs.Common.{rules}
use Rattle.std.proofs.lemmas.List.Sorted.{answers_always}
use Rattle.mrpc_table.proofs.FieldLemmas.{slice_get_found, missed}
use Rattle.mrpc_table.proofs.field_search.search.Goals as goal

pub returns-in-Ok-clause-found : goal.returns-in-Ok-clause-found
returns-in-Ok-clause-found c =
    let by_number = c.in-Ok.ensures.position (λ f. f.number) (answers_always _ _ _ (λ f a r g called. search rules)) in
    slice_get_found c.args.fields.now c.requires c.args.number c.in-Ok.place c.in-Ok.ensures.bound by_number

pub returns-in-Err-clause-absent : goal.returns-in-Err-clause-absent
returns-in-Err-clause-absent c =
    let by_number = c.in-Err.ensures.position (λ f. f.number) (answers_always _ _ _ (λ f a r g called. search rules)) in
    missed c.args.fields.now c.args.number c.in-Err.field-0 c.requires by_number
