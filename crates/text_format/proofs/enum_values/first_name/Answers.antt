use Rattle.std.proofs.Common.{◌≡◌, ap, sym, ◌∙◌, FitsSigned, rules}
use Rattle.std.specs.Int.{w32, w64, cast_signed, cast_unsigned}
use Rattle.std.proofs.lemmas.Int.{to_z-of_z}
use Rattle.text_format.proofs.SortedNames.{none_behind, none_here}
use Rattle.text_format.proofs.enum_values.first_name.Goals as goal

pub returns-then-place-values-clause-absent : goal.returns-then-place-values-clause-absent
returns-then-place-values-clause-absent c = none_behind c.args.values.now (cast_signed w64 c.args.word) c.first_from-place.result c.first_from-place.ensures.before c.if-place-values.true

pub returns-then-from-cast_signed-clause-absent : goal.returns-then-from-cast_signed-clause-absent
returns-then-from-cast_signed-clause-absent c =
    let number = c.index-values-place.result.0 in
    let fits : FitsSigned w32 number = search rules in
    let other : number ≡ cast_signed w64 c.args.word → ⊥ =
    λ same. c.if-from-cast_signed.true (ap (cast_unsigned w64) (c.from.ensures ∙ to_z-of_z w32 number fits ∙ same ∙ sym c.cast_signed.ensures)) in
    none_here c.args.values.now (cast_signed w64 c.args.word) c.first_from-place.result c.index-values-place.result c.requires
    c.first_from-place.ensures.before c.first_from-place.ensures.behind c.if-place-values.false c.index-values-place.is other
