use Rattle.audit_text.proofs.Texts.{front-same, text-same}
use Rattle.audit_text.proofs.laws.history_of_text_is_unique.Goals as goal

pub returns-clause-front : goal.returns-clause-front
returns-clause-front c = λ T declared x y a b valid h k e.
    front-same c.meaning_is_unique.ensures c.meaning_of_encoding.ensures T valid declared x y a b h k e

pub returns-clause-text : goal.returns-clause-text
returns-clause-text c = λ T declared h k valid all every e.
    text-same c.meaning_is_unique.ensures c.meaning_of_encoding.ensures T valid declared h k all every e
