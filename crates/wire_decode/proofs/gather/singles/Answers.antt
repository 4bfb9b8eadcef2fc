use Rattle.std.proofs.Common.{ap, [], ◌∷◌, refl}
use Rattle.mrpc_table.specs.View.{item_of, content_of}
use Rattle.wire_decode.specs.Merged.{singles_in}
use Rattle.wire_decode.specs.TwoInOne.{are_both}
use Rattle.wire_decode.proofs.gather.singles.Goals as goal

pub returns-in_ok-value-in-One-before : goal.returns-in_ok-value-in-One-before
returns-in_ok-value-in-One-before c =
    are_both (item_of c.in-One-before.first) (item_of c.in-One.value) (item_of c.in_ok-value-in-One-before.value)
    (ap (λ x. singles_in (content_of x ∷ [])) c.in-One-before.is) (ap (λ x. singles_in (content_of x ∷ [])) c.in-One.is) refl
    c.in_ok-value-in-One-before.ensures
