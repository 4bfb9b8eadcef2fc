use Rattle.std.proofs.Common.{sym, ◌∙◌}
use Rattle.std.proofs.lemmas.List.{take_rest, drop-drop}
use Rattle.proto_lexer.proofs.string.push_unicode.Goals as goal

pub returns-clause-value : goal.returns-clause-value
returns-clause-value c = rw (take_rest c.args.digits.now c.leading_digit_count-len.result, c.leading_number.ensures, c.leading_digit_count-len.ensures.value) at c.in_ok-more.ensures.value

pub returns-clause-rest : goal.returns-clause-rest
returns-clause-rest c =
    let rest = rw (take_rest c.args.digits.now c.leading_digit_count-len.result, c.leading_number.ensures, c.leading_digit_count-len.ensures.value) at c.in_ok-more.ensures.rest in
    rw c.leading_digit_count-len.ensures.value (sym (drop-drop c.in_ok-more.more _ c.args.digits.now) ∙ rest)
