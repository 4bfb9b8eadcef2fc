use Rattle.mrpc_table.specs.Lines.{words_of}
use Rattle.script_grammar.specs.Lines.{has_form}
use Rattle.script_grammar.proofs.Walking.{form_short, form_end}
use Rattle.script_grammar.proofs.form.has_form.Goals as goal

pub returns-in_default : goal.returns-in_default
returns-in_default c =
    form_short c.args.sorts.now c.loop-sort.sort-index c.loop-sort.rest (has_form c.args.sorts.now (words_of c.args.line.now)) c.loop-sort-test.true c.in_default.is c.loop-sort.invariant

pub returns : goal.returns
returns c =
    form_end c.args.sorts.now c.loop-sort.sort-index c.loop-sort.rest c.is_none.result
    (has_form c.args.sorts.now (words_of c.args.line.now)) c.loop-sort-test.false c.is_none.ensures
    c.loop-sort.invariant
