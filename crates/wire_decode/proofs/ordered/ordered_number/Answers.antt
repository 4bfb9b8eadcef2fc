use Rattle.std.proofs.Common.{◌∙◌, ◌/◌, ◌%◌, ap, subst, sym, ℕ}
use Rattle.mrpc_table.specs.Node.{number, no_fields}
use Rattle.mrpc_table.specs.View.{node_of}
use Rattle.wire_decode.specs.Merged.{join_fields}
use Rattle.wire_decode.specs.Contents.{with_content}
use Rattle.wire_decode.specs.Ordered.{IsValue}
use Rattle.wire_decode.proofs.OrderlyValues.{number-value, single-field, on-ok-has}
use Rattle.wire_decode.proofs.ordered.ordered_number.Goals as goal

pub returns-clause-found : goal.returns-clause-found
returns-clause-found c =
    let T = c.args.table.now in
    let bytes = c.args.bytes.now in
    let n = c.args.tag / 8 in
    let old = node_of c.args.whole.now.items in
    let found = c.in_ok-v.ensures.found in
    let P : ℕ → Type 0 = λ x. IsValue T c.args.room c.args.kind bytes c.args.start (c.args.tag % 8) (number x) c.in_ok-v.next in
    let value = subst P (sym c.word_form_of.ensures) (number-value T c.args.room c.args.kind bytes c.args.start
    (c.args.tag % 8) c.in_ok-v.v c.in_ok-v.next found.0 c.requires.numeric c.in_ok-v.ensures.fits found.1 found.2)
    in
    let pushed = on-ok-has c.push_content.result _ _ c.in_ok-ok.ensures.value c.push_content.ensures in
    single-field T c.args.room c.args.label c.args.kind bytes c.args.tag c.args.start c.in_ok-v.next
    (number c.word_form_of.result) old (node_of c.push_content.new.whole.items) c.requires.single value
    (pushed ∙ ap (λ o. join_fields old (with_content n o no_fields)) c.single_content.ensures)
