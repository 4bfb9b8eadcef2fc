use Rattle.std.proofs.Common.{refl, sym, ◌∙◌}
use Rattle.std.proofs.lemmas.Bool.{false≢true}
use Rattle.script_grammar.proofs.checking.fixed_word.Goals as goal

pub returns-else-is : goal.returns-else-is
returns-else-is c = (λ e. false≢true (sym c.if-is.false ∙ c.is.ensures.1 e), refl)
