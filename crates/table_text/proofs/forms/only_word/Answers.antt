use Rattle.std.proofs.Common.{◌∷◌, ◌∙◌, ap}
use Rattle.table_text.proofs.ListLemmas.{has_part}
use Rattle.table_text.proofs.forms.only_word.Goals as goal

pub returns-in-Some-clause-more : goal.returns-in-Some-clause-more
returns-in-Some-clause-more c =
    let rest = has_part 32 c.in-Some.field-0.1.now in
    (c.in-Some.field-0.0.now, rest.0, rest.1, c.in-Some.ensures ∙ ap (λ ws. c.in-Some.field-0.0.now ∷ ws) rest.2)
