-- The values of the words so far, or their first reason; and the remaining words.
use Rattle.std.proofs.Common.{◌≡◌, ◌≤◌, length, take, drop}
use Rattle.arrayvec.specs.ArrayVec.{array_vec_len}
use Rattle.mrpc_table.specs.Lines.{words_of}
use Rattle.script_grammar.specs.Remainders.{words_in}
use Rattle.script_grammar.proofs.Verdicts.{IsState}
use Rattle.script_grammar.proofs.checking.check_words.Given as goal

abbrev pub invariant-loop-sort : goal.invariant-loop-sort
invariant-loop-sort l = record {
  within : l.sort-index ≤ length (words_of l.line);
  rest : drop l.sort-index (words_of l.line) ≡ words_in l.rest;
  state : IsState (take l.sort-index l.sorts) (take l.sort-index (words_of l.line)) l.said.items l.first;
  room : array_vec_len l.said ≤ l.sort-index;
}
