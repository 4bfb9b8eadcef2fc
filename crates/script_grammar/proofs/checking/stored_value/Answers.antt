use Rattle.std.proofs.Common.{Some, None, refl, inl, inr}
use Rattle.mrpc_table.specs.declared.words.Decimal.TheVariants.{Small, Large}
use Rattle.script_grammar.proofs.Stored.{found_by}
use Rattle.script_grammar.proofs.checking.stored_value.Goals as goal

pub returns-in-None : goal.returns-in-None
returns-in-None c = inl (found_by c.args.word.now None c.in-None.ensures, refl)

pub returns-in-Some-Large : goal.returns-in-Some-Large
returns-in-Some-Large c =
    let is = rw c.in-Some-Large.field-0-is at c.in-Some-Large.ensures in
    let f = found_by c.args.word.now (Some Large) is in
    inr (f.0, f.1, f.2, refl)

pub returns-in-Some-Small : goal.returns-in-Some-Small
returns-in-Some-Small c =
    let is = rw c.in-Some-Small.field-0-is at c.in-Some-Small.ensures in
    found_by c.args.word.now (Some (Small c.in-Some-Small.value)) is
