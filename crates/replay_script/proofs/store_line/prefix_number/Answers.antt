use Rattle.std.proofs.Common.{◌≡◌, ℕ, ◌-◌, ◌<◌, ◌≤◌, ◌++◌, List, true, ap, drop, get_or, length, sym, take, ◌∙◌, arith}
use Rattle.std.proofs.Common.{length-drop, take_all, take-append-drop}
use Rattle.std.specs.Char.{is_ascii_digit}
use Rattle.replay_script.proofs.Stores.{decimal_front, digit_is, digits_more, fits, fits_by_a_digit, less_by_a_digit, spells, value_more}
use Rattle.replay_script.proofs.store_line.prefix_number.Goals as goal

pub overflow_mul-number : goal.overflow_mul-number
overflow_mul-number c =
    let few : c.loop-count.count < 19 = omega arith in
    omega (arith, fits_by_a_digit c.loop-count.number c.loop-count.count 0 c.loop-count.invariant.small few (omega arith))

pub overflow_add-number : goal.overflow_add-number
overflow_add-number c =
    let here : is_ascii_digit (get_or c.args.text.now c.loop-count.count 0) ≡ true = sym c.is_ascii_digit-in-loop-count.ensures.value ∙ c.if-is_ascii_digit.true in
    let range = digit_is (get_or c.args.text.now c.loop-count.count 0) here in
    let digit : c.from-in-loop-count.result - c.from-in-loop-count-2.result ≤ 9 = omega (arith, range.1, c.from-in-loop-count.ensures, c.from-in-loop-count-2.ensures) in
    let few : c.loop-count.count < 19 = omega arith in
    let fits = fits_by_a_digit c.loop-count.number c.loop-count.count (c.from-in-loop-count.result - c.from-in-loop-count-2.result) c.loop-count.invariant.small few digit in
    omega (arith, fits)

pub loop-count-preserved : goal.loop-count-preserved
loop-count-preserved c =
    let text = c.args.text.now in
    let i = c.loop-count.count in
    let invariant = c.loop-count.invariant in
    let here : is_ascii_digit (get_or text i 0) ≡ true = sym c.is_ascii_digit-in-loop-count.ensures.value ∙ c.if-is_ascii_digit.true in
    let range = digit_is (get_or text i 0) here in
    let digit : c.from-in-loop-count.result - c.from-in-loop-count-2.result ≤ 9 = omega (arith, range.1, c.from-in-loop-count.ensures, c.from-in-loop-count-2.ensures) in
    let within : i < length text = omega arith in
    record {
      digits = digits_more text i within invariant.digits here;
      value = value_more text i c.loop-count.number (c.from-in-loop-count.result - c.from-in-loop-count-2.result) within here invariant.value
          (omega (arith, c.from-in-loop-count.ensures, c.from-in-loop-count-2.ensures));
      small = less_by_a_digit c.loop-count.number i (c.from-in-loop-count.result - c.from-in-loop-count-2.result) invariant.small digit;
      few = omega arith;
      within = omega arith;
      most_few = invariant.most_few;
      most_within = invariant.most_within;
      some = omega arith;
      alone = invariant.alone;
      up_to = omega arith;
    }

pub returns : goal.returns
returns c =
    let text = c.args.text.now in
    let i = c.loop-count.count in
    let invariant = c.loop-count.invariant in
    let decimal = decimal_front text i invariant.some invariant.within invariant.digits
    (λ zero. omega (arith, invariant.alone zero, invariant.up_to, invariant.some)) in
    let whole : take (length text - i) (drop i text) ≡ drop i text =
    take_all (length text - i) (drop i text) (omega (arith, length-drop i text)) in
    record {
      digits = take i text;
      parts = sym (ap (λ (r : List ℕ). take i text ++ r) whole ∙ take-append-drop i text);
      are_digits = invariant.digits;
      spells = spells (take i text) c.loop-count.number decimal invariant.value;
      small = fits c.loop-count.number i invariant.small invariant.few;
    }
