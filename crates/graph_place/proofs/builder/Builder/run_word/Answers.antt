use Rattle.std.proofs.Common.{◌∙◌}
use Rattle.std.proofs.lemmas.Result.{on_ok_weaker}
use Rattle.graph_place.proofs.builder.Builder.run_word.Goals as goal

pub returns-clause-free : goal.returns-clause-free
returns-clause-free c = c.put.ensures.free ∙ c.take-place.ensures.free

pub returns-clause-word : goal.returns-clause-word
returns-clause-word c = on_ok_weaker c.put.result (λ words. (c.word_of.result, c.word_of.ensures, cc (words, c.take-place.ensures.words, c.take-place.ensures.first))) c.put.ensures.words
