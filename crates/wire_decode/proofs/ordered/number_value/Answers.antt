use Rattle.std.proofs.Common.{subst, sym, ℕ, ◌%◌}
use Rattle.mrpc_table.specs.Node.{number}
use Rattle.wire_decode.specs.Ordered.{IsValue}
use Rattle.wire_decode.proofs.OrderlyValues.{number-value}
use Rattle.wire_decode.proofs.ordered.number_value.Goals as goal

pub returns-clause-found : goal.returns-clause-found
returns-clause-found c =
    let found = c.in_ok-v.ensures.found in
    let P : ℕ → Type 0 = λ x. IsValue c.args.table.now c.args.room c.args.kind c.args.bytes.now c.args.start (c.args.tag % 8) (number x) c.in_ok-v.next in
    subst P (sym c.word_form_of.ensures)
    (number-value c.args.table.now c.args.room c.args.kind c.args.bytes.now c.args.start
    (c.args.tag % 8) c.in_ok-v.v c.in_ok-v.next found.0 c.requires.numeric c.in_ok-v.ensures.fits found.1 found.2)
