use Rattle.std.proofs.Common.{◌≤◌, ◌∙◌, arith, length, sym}
use Rattle.graph_form.proofs.FewOneofs.{few_oneofs, oneofs_at, no_oneofs_at}
use Rattle.graph_form.proofs.size.oneof_count.Goals as goal

pub overflow_cast-result : goal.overflow_cast-result
overflow_cast-result c =
    let few : length c.in-Some.message.now.oneofs ≤ 128 = few_oneofs c.args.table.now c.args.msg c.in-Some.message.now c.requires c.in-Some.ensures.some in
    omega (arith, few, c.len.ensures)

pub returns-in-Some-clause-number : goal.returns-in-Some-clause-number
returns-in-Some-clause-number c = c.len.ensures ∙ sym (oneofs_at c.args.table.now c.args.msg c.in-Some.message.now c.in-Some.ensures.some)

pub returns-in-Some-clause-few : goal.returns-in-Some-clause-few
returns-in-Some-clause-few c =
    let few : length c.in-Some.message.now.oneofs ≤ 128 = few_oneofs c.args.table.now c.args.msg c.in-Some.message.now c.requires c.in-Some.ensures.some in
    omega (arith, few, c.len.ensures)

pub returns-in-None-clause-number : goal.returns-in-None-clause-number
returns-in-None-clause-number c = sym (no_oneofs_at c.args.table.now c.args.msg c.in-None.ensures.none)
