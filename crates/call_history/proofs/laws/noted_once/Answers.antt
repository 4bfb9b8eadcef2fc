use Rattle.std.proofs.Common.{◌∷◌, subst}
use Rattle.engine_core.specs.declared.outcome.Noted.TheVariants as notes
use Rattle.call_history.specs.Legal.{IsLegalPrefix}
use Rattle.call_history.specs.declared.happening.Happening.TheVariants.{Charged, Drawn, Counted}
use Rattle.call_history.proofs.Fates.{earlier-prefix}
use Rattle.call_history.proofs.Once.{called-once}
use Rattle.call_history.proofs.laws.noted_once.Goals as goal

pub returns-clause-charged : goal.returns-clause-charged
returns-clause-charged c = λ T limit conn seq left name h later earlier legal is.
    (let both : IsLegalPrefix (record { conn = conn; table = T; limit = limit }) (Charged seq name left ∷ earlier) =
    earlier-prefix (record { conn = conn; table = T; limit = limit }) later (Charged seq name left ∷ earlier)
    (subst (IsLegalPrefix (record { conn = conn; table = T; limit = limit })) is (legal conn).prefix) in
    called-once c.change_preserves_chain.ensures (record { conn = conn; table = T; limit = limit }) earlier seq name
    (notes.Charged left) both.0 both.1.notes_due)

pub returns-clause-drawn : goal.returns-clause-drawn
returns-clause-drawn c = λ T limit conn seq window ticket name h later earlier legal is.
    (let both : IsLegalPrefix (record { conn = conn; table = T; limit = limit }) (Drawn seq name window ticket ∷ earlier) =
    earlier-prefix (record { conn = conn; table = T; limit = limit }) later (Drawn seq name window ticket ∷ earlier)
    (subst (IsLegalPrefix (record { conn = conn; table = T; limit = limit })) is (legal conn).prefix) in
    called-once c.change_preserves_chain.ensures (record { conn = conn; table = T; limit = limit }) earlier seq name
    (notes.Drawn window ticket) both.0 both.1.notes_due)

pub returns-clause-counted : goal.returns-clause-counted
returns-clause-counted c = λ T limit conn seq name h later earlier legal is.
    (let both : IsLegalPrefix (record { conn = conn; table = T; limit = limit }) (Counted seq name ∷ earlier) =
    earlier-prefix (record { conn = conn; table = T; limit = limit }) later (Counted seq name ∷ earlier)
    (subst (IsLegalPrefix (record { conn = conn; table = T; limit = limit })) is (legal conn).prefix) in
    called-once c.change_preserves_chain.ensures (record { conn = conn; table = T; limit = limit }) earlier seq name
    (notes.Counted) both.0 both.1.notes_due)
