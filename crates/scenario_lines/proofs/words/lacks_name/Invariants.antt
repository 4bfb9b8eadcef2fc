-- A name is lacking exactly if the remaining words lack one, or one was found before.
use Rattle.std.proofs.Common.{◌≡◌, false, drop}
use Rattle.mrpc_table.specs.Lines.{words_of}
use Rattle.script_grammar.specs.Remainders.{words_in}
use Rattle.scenario_lines.specs.Judging.{lacks_name}
use Rattle.scenario_lines.proofs.words.lacks_name.Given as goal

abbrev pub invariant-loop-sort : goal.invariant-loop-sort
invariant-loop-sort l = lacks_name l.lacks (drop l.sort-index l.sorts) (words_in l.rest) ≡ lacks_name false l.sorts (words_of l.line)
