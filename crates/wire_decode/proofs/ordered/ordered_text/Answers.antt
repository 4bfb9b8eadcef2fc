use Rattle.std.proofs.Common.{◌%◌, List, ℕ, refl, subst, sym}
use Rattle.mrpc_table.specs.Node.{run}
use Rattle.mrpc_table.specs.declared.table.Kind.TheVariants.{Text}
use Rattle.wire_decode.specs.Ordered.{IsValue}
use Rattle.wire_decode.proofs.OrderlyValues.{run-value}
use Rattle.wire_decode.proofs.ordered.ordered_text.Goals as goal

pub returns-clause-found : goal.returns-clause-found
returns-clause-found c =
    let bytes = c.args.bytes.now in
    let P : List ℕ → Type 0 = λ x. IsValue c.args.table.now c.args.room Text bytes c.args.start (c.args.tag % 8) (run x) c.in_ok-first.end in
    subst P (sym c.in_ok-run.ensures) (run-value c.args.table.now c.args.room Text bytes c.args.start
    (c.args.tag % 8) c.in_ok-first.first c.in_ok-first.end refl c.if-tag-ne2.false c.in_ok-first.ensures.found
    (λ e. c.is_text.ensures.yes c.if-not-is_text.false))
