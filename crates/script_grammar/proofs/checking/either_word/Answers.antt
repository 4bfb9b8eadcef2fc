use Rattle.std.proofs.Common.{refl, sym, ◌∙◌}
use Rattle.std.proofs.lemmas.Bool.{false≢true}
use Rattle.script_grammar.proofs.checking.either_word.Goals as goal

pub returns-else-is-2 : goal.returns-else-is-2
returns-else-is-2 c = (
  λ e. false≢true (sym c.if-is.false ∙ c.is.ensures.1 e),
  λ e. false≢true (sym c.if-is-2.false ∙ c.is-else-is.ensures.1 e),
  refl,
)
