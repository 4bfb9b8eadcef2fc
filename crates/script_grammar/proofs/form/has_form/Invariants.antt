-- The line has the form exactly if the remaining words fit the remaining sorts.
use Rattle.std.proofs.Common.{◌≡◌, drop}
use Rattle.mrpc_table.specs.Lines.{words_of}
use Rattle.script_grammar.specs.Lines.{has_form}
use Rattle.script_grammar.specs.Remainders.{words_in}
use Rattle.script_grammar.proofs.form.has_form.Given as goal

abbrev pub invariant-loop-sort : goal.invariant-loop-sort
invariant-loop-sort l = has_form (drop l.sort-index l.sorts) (words_in l.rest) ≡ has_form l.sorts (words_of l.line)
