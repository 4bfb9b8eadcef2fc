use Rattle.std.proofs.Common.{◌<◌, ◌^◌, take, get_or, sym, arith}
use Rattle.std.specs.Char.{digit_value}
use Rattle.std.specs.Str.Parse.{digits_value}
use Rattle.std.proofs.lemmas.Option.{cond_some}
use Rattle.script_grammar.specs.Values.{is_hexadecimal}
use Rattle.script_grammar.proofs.Hexadecimal.{all_more, digit_small, fifteen_digits, word_more}
use Rattle.script_grammar.proofs.value.hexadecimal.Goals as goal

pub overflow_mul-word : goal.overflow_mul-word
overflow_mul-word c =
    let small : digits_value 16 (take c.loop-digit.digit-index c.args.digits.now) < 2 ^ 60 =
    fifteen_digits c.args.digits.now c.loop-digit.digit-index c.loop-digit.invariant.digits (omega arith) in
    omega (arith, small, c.loop-digit.invariant.word)

pub overflow_add-word : goal.overflow_add-word
overflow_add-word c =
    let digit = get_or c.args.digits.now c.loop-digit.digit-index 0 in
    let here = cond_some (is_hexadecimal digit) (digit_value digit) c.in-Some.value (sym c.in-Some.ensures) in
    let small : digits_value 16 (take c.loop-digit.digit-index c.args.digits.now) < 2 ^ 60 =
    fifteen_digits c.args.digits.now c.loop-digit.digit-index c.loop-digit.invariant.digits (omega arith) in
    omega (arith, small, c.loop-digit.invariant.word, digit_small digit here.0, here.1)

pub loop-digit-preserved : goal.loop-digit-preserved
loop-digit-preserved c =
    let digits = c.args.digits.now in
    let i = c.loop-digit.digit-index in
    let digit = get_or digits i 0 in
    let here = cond_some (is_hexadecimal digit) (digit_value digit) c.in-Some.value (sym c.in-Some.ensures) in
    record {
      digits = all_more is_hexadecimal digits i c.loop-digit-test.true c.loop-digit.invariant.digits here.0;
      word = word_more digits i c.loop-digit.word c.in-Some.value c.loop-digit-test.true c.loop-digit.invariant.word (sym here.1);
    }
