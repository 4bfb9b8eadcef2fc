use Rattle.std.proofs.Common.{◌≡◌, ◌+◌, ◌%◌, ◌++◌, ◌∷◌, [], ℕ, drop, ap, sym, ◌∙◌, arith}
use Rattle.std.proofs.lemmas.List.{take_rest, append-nil, drop_all, drop-drop}
use Rattle.proto_lexer.specs.Strings.{leading_digit_count, leading_number}
use Rattle.proto_lexer.proofs.Escapes.{escape_none, escape_x, escape_u, escape_wide}
use Rattle.proto_lexer.proofs.string.push_escape.Goals as goal

pub returns-in_default-clause-value : goal.returns-in_default-clause-value
returns-in_default-clause-value c = rw (escape_none c.args.behind.now (omega arith)) (sym (append-nil c.args.out.now))

pub returns-in_default-clause-rest : goal.returns-in_default-clause-rest
returns-in_default-clause-rest c = rw (escape_none c.args.behind.now (omega arith)) (drop_all 0 c.args.behind.now (omega arith))

pub returns-in_ok-push-2-clause-value : goal.returns-in_ok-push-2-clause-value
returns-in_ok-push-2-clause-value c =
    rw (escape_x c.args.behind.now (omega arith) c.if-first-eq120.true)
    (c.in_ok-push-2.ensures.ok ∙ ap (λ (n : ℕ). c.args.out.now ++ n % 256 ∷ []) (c.leading_number-then-first-eq120.ensures ∙ ap (leading_number 16 2) (take_rest c.args.behind.now 1)))

pub returns-in_ok-push-2-clause-rest : goal.returns-in_ok-push-2-clause-rest
returns-in_ok-push-2-clause-rest c =
    let bytes = c.args.behind.now in
    let few_digits : c.leading_digit_count-then-first-eq120.result ≡ leading_digit_count 16 2 (drop 1 bytes) = c.leading_digit_count-then-first-eq120.ensures.value ∙ ap (leading_digit_count 16 2) (take_rest bytes 1) in
    let len : c.leading_digit_count-then-first-eq120.result + 1 ≡ 1 + leading_digit_count 16 2 (drop 1 bytes) = omega (arith, few_digits) in
    rw (escape_x bytes (omega arith) c.if-first-eq120.true) (ap (λ (n : ℕ). drop n bytes) len ∙ sym (drop-drop (leading_digit_count 16 2 (drop 1 bytes)) 1 bytes))

pub returns-in_ok-push_unicode-clause-value : goal.returns-in_ok-push_unicode-clause-value
returns-in_ok-push_unicode-clause-value c =
    rw (escape_u c.args.behind.now (omega arith) c.if-first-eq117.true) (rw (take_rest c.args.behind.now 1) at c.in_ok-push_unicode.ensures.value)

pub returns-in_ok-push_unicode-clause-rest : goal.returns-in_ok-push_unicode-clause-rest
returns-in_ok-push_unicode-clause-rest c =
    rw (escape_u c.args.behind.now (omega arith) c.if-first-eq117.true)
    (sym (drop-drop c.in_ok-push_unicode.field-0 1 c.args.behind.now) ∙ (rw (take_rest c.args.behind.now 1) at c.in_ok-push_unicode.ensures.rest))

pub returns-in_ok-push_unicode-2-clause-value : goal.returns-in_ok-push_unicode-2-clause-value
returns-in_ok-push_unicode-2-clause-value c =
    rw (escape_wide c.args.behind.now (omega arith) c.if-first-eq85.true) (rw (take_rest c.args.behind.now 1) at c.in_ok-push_unicode-2.ensures.value)

pub returns-in_ok-push_unicode-2-clause-rest : goal.returns-in_ok-push_unicode-2-clause-rest
returns-in_ok-push_unicode-2-clause-rest c =
    rw (escape_wide c.args.behind.now (omega arith) c.if-first-eq85.true)
    (sym (drop-drop c.in_ok-push_unicode-2.field-0 1 c.args.behind.now) ∙ (rw (take_rest c.args.behind.now 1) at c.in_ok-push_unicode-2.ensures.rest))
