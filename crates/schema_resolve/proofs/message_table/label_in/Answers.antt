use Rattle.std.proofs.Common.{ℕ, refl, sym, subst}
use Rattle.std.specs.Prelude.{Option}
use Rattle.mrpc_table.specs.declared.table.Label.TheVariants.{Member}
use Rattle.schema_resolve.specs.Joining.{IsLabelled}
use Rattle.schema_resolve.proofs.message_table.label_in.Goals as goal

pub returns-in_ok-place_of-in-Some-clause-label : goal.returns-in_ok-place_of-in-Some-clause-label
returns-in_ok-place_of-in-Some-clause-label c =
    let p = c.in_ok-place_of-in-Some.field-0 in
    let P : Option ℕ → Type 0 = λ o.
    IsLabelled c.args.words.now o c.args.judged.now.form.label c.args.oneofs.now c.place_of.new.self (Member p) in
    subst P (sym c.in-Some.is)
    (p, refl, c.in_ok-place_of-in-Some.ensures.place, c.in_ok-place_of-in-Some.ensures.named)
