use Rattle.std.proofs.Common.{◌∷◌, subst}
use Rattle.call_history.specs.Legal.{IsLegalPrefix}
use Rattle.call_history.specs.declared.happening.Happening.TheVariants.{Redacted}
use Rattle.call_history.proofs.Clearing.{redacted-once}
use Rattle.call_history.proofs.Fates.{earlier-prefix}
use Rattle.call_history.proofs.laws.redacted_once.Goals as goal

pub returns : goal.returns
returns c = λ T limit conn seq version name h later earlier legal is.
    let both : IsLegalPrefix (record { conn = conn; table = T; limit = limit }) (Redacted seq name version ∷ earlier) =
    earlier-prefix (record { conn = conn; table = T; limit = limit }) later (Redacted seq name version ∷ earlier)
    (subst (IsLegalPrefix (record { conn = conn; table = T; limit = limit })) is (legal conn).prefix) in
    redacted-once (record { chains = c.change_preserves_chain.ensures; again = c.clear_is_idempotent.ensures; either = c.clears_commute.ensures.either_first })
    (record { conn = conn; table = T; limit = limit }) earlier seq version name both.0 both.1.notes_due
