use Rattle.std.proofs.Common.{◌≡◌, arith}
use Rattle.std.proofs.lemmas.Bool.Decides.{nat_tests}
use Rattle.mrpc_table.proofs.FieldLemmas.{slice_get_tried}
use Rattle.mrpc_table.proofs.field_search.has_number_at.Goals as goal

pub returns-in-Some-clause-found : goal.returns-in-Some-clause-found
returns-in-Some-clause-found c same =
    let h = c.in-Some.ensures.lookup in
    let number : c.in-Some.field.now.number ≡ c.args.number = grind (arith, nat_tests) in
    slice_get_tried c.args.fields.now c.requires c.args.number c.args.place c.in-Some.field.now h.3.0 h.1 number
