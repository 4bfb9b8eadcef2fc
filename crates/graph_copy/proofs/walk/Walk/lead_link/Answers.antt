use Rattle.std.proofs.Common.{arith, inl}
use Rattle.graph_form.specs.Roles.{size_words}
use Rattle.graph_form.specs.declared.reason.Reason.TheVariants.{Address, Depth}
use Rattle.graph_copy.proofs.Fitting.{lies_by_not, not_deep}
use Rattle.graph_copy.proofs.walk.Walk.lead_link.Goals as goal

pub overflow_add-depth : goal.overflow_add-depth
overflow_add-depth c =
    let low = not_deep c.args.depth (λ deep. c.requires.fine Depth (c.if-value-eq0.false, deep)) in omega (arith, low)

pub expect_node-requires-clause-lies : goal.expect_node-requires-clause-lies
expect_node-requires-clause-lies c =
    let lies = lies_by_not c.args.self.now.size c.args.value (size_words c.args.table.now c.args.message) (λ no. c.requires.fine Address (inl c.if-value-eq0.false, no)) in
    omega (arith, lies.to_end, c.size_words-words.ensures)
