use Rattle.std.proofs.Common.{◌≡◌, ◌<◌, ℕ, arith, ap, sym, ◌∙◌}
use Rattle.std.specs.Prelude.{slice_index}
use Rattle.audit_text.specs.declared.hexadecimal.TheConstants.{VALUES}
use Rattle.audit_text.proofs.Values.{digit-of, value-of}
use Rattle.audit_text.proofs.hexadecimal.value_of.Goals as goal

pub returns-then-value-lt16 : goal.returns-then-value-lt16
returns-then-value-lt16 c =
    let same : c.from.result ≡ c.args.digit = c.from.ensures in
    let small : slice_index VALUES c.from.result < 16 = c.if-value-lt16.true in
    (small, sym same ∙ digit-of c.from.result (omega (arith, same, c.ranges.digit.fits)) small)

pub returns-else-value-lt16 : goal.returns-else-value-lt16
returns-else-value-lt16 c = λ value less is.
    (let same : c.from.result ≡ c.args.digit = c.from.ensures in
    let e : slice_index VALUES c.from.result ≡ value = ap (λ (d : ℕ). slice_index VALUES d) (same ∙ is) ∙ value-of value less in
    omega (arith, e, less, c.if-value-lt16.false))
