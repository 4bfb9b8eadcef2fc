use Rattle.std.proofs.Common.{◌≡◌, ◌<◌, ◌≤◌, true, get_or, length, sym, ◌∙◌, arith}
use Rattle.std.specs.Char.{is_ascii_digit}
use Rattle.audit_text.proofs.ShortNumbers.{digit_is, digits_more, fits_by_a_digit, less_by_a_digit, value_more}
use Rattle.audit_text.proofs.word.prefix_number.Goals as goal

pub overflow_mul-number : goal.overflow_mul-number
overflow_mul-number c =
    let few : c.loop-count.count < 19 = omega arith in
    omega (arith, fits_by_a_digit c.loop-count.number c.loop-count.count 0 c.loop-count.invariant.small few (omega arith))

pub overflow_add-number : goal.overflow_add-number
overflow_add-number c =
    let here : is_ascii_digit (get_or c.args.text.now c.loop-count.count 0) ≡ true = sym c.is_ascii_digit.ensures.value ∙ c.if-is_ascii_digit.true in
    let range = digit_is (get_or c.args.text.now c.loop-count.count 0) here in
    let digit : c.from.result ≤ 9 = omega (arith, range.1, c.from.ensures) in
    let few : c.loop-count.count < 19 = omega arith in
    let fits = fits_by_a_digit c.loop-count.number c.loop-count.count c.from.result c.loop-count.invariant.small few digit in
    omega (arith, fits)

pub loop-count-preserved : goal.loop-count-preserved
loop-count-preserved c =
    let text = c.args.text.now in
    let i = c.loop-count.count in
    let invariant = c.loop-count.invariant in
    let here : is_ascii_digit (get_or text i 0) ≡ true = sym c.is_ascii_digit.ensures.value ∙ c.if-is_ascii_digit.true in
    let range = digit_is (get_or text i 0) here in
    let digit : c.from.result ≤ 9 = omega (arith, range.1, c.from.ensures) in
    let within : i < length text = omega arith in
    record {
      digits = digits_more text i within invariant.digits here;
      value = value_more text i c.loop-count.number c.from.result within here invariant.value c.from.ensures;
      small = less_by_a_digit c.loop-count.number i c.from.result invariant.small digit;
      few = omega arith;
      within = omega arith;
      most_few = invariant.most_few;
      most_within = invariant.most_within;
    }
