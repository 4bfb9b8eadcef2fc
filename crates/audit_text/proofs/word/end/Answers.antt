use Rattle.std.proofs.Common.{ap, sym, ◌∙◌}
use Rattle.audit_text.specs.Reading.{read_end, words_in}
use Rattle.audit_text.proofs.WordsOfLines.{words-left}
use Rattle.audit_text.proofs.word.end.Goals as goal

pub returns-in-Some : goal.returns-in-Some
returns-in-Some c = sym (ap (λ r. read_end (words_in r)) c.in-Some.is ∙ words-left c.in-Some.field-0.now)
