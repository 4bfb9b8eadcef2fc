use Rattle.std.proofs.Common.{rules, ◌≡◌, ◌^◌, Some, None, sym, ◌∙◌, arith}
use Rattle.audit_text.specs.Reading.{read_number, words_in}
use Rattle.audit_text.proofs.WordsOfLines.{below-none, below-some, narrow-none, narrow-some}
use Rattle.audit_text.proofs.word.number16.Goals as goal

pub returns-in_err-number : goal.returns-in_err-number
returns-in_err-number c =
    let none : read_number (2 ^ 64) (words_in c.args.rest) ≡ None = search rules in
    let low = narrow-none (2 ^ 16) (2 ^ 64) (words_in c.args.rest) (omega arith) none in search (rules, low)

pub returns-then-number-from : goal.returns-then-number-from
returns-then-number-from c =
    let some : read_number (2 ^ 64) (words_in c.args.rest) ≡ Some (c.in_ok-number.number, words_in c.in_ok-number.behind) = search rules in
    let low = narrow-some (2 ^ 16) (2 ^ 64) c.in_ok-number.number (words_in c.args.rest) (words_in c.in_ok-number.behind) some in
    let none = below-none (2 ^ 16) c.in_ok-number.number (words_in c.in_ok-number.behind) (omega arith) in sym (low ∙ none)

pub returns : goal.returns
returns c =
    let some : read_number (2 ^ 64) (words_in c.args.rest) ≡ Some (c.in_ok-number.number, words_in c.in_ok-number.behind) = search rules in
    let low = narrow-some (2 ^ 16) (2 ^ 64) c.in_ok-number.number (words_in c.args.rest) (words_in c.in_ok-number.behind) some in
    let here = below-some (2 ^ 16) c.in_ok-number.number (words_in c.in_ok-number.behind) (omega arith) in sym (low ∙ here)
