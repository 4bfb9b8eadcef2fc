use Rattle.std.proofs.Common.{rules, ◌≡◌, Some, None, Ok, ap, ◌∙◌}
use Rattle.audit_text.specs.Copies.{read_call_numbers}
use Rattle.audit_text.specs.Reading.{words_in}
use Rattle.audit_text.proofs.CopyLines.{no-copy, no-head, some-copy}
use Rattle.audit_text.proofs.copy.accepted_call.Goals as goal

pub returns-in_default : goal.returns-in_default
returns-in_default c =
    let none : read_call_numbers (words_in c.args.rest) ≡ None = search rules in no-head c.args.table.now (words_in c.args.rest) none

pub returns-in-None : goal.returns-in-None
returns-in-None c =
    let head : read_call_numbers (words_in c.args.rest) ≡ Some (c.in-Some.head, words_in c.in-Some.rest) = search rules in
    no-copy c.args.table.now (words_in c.args.rest) (words_in c.in-Some.rest) c.in-Some.head c.copy.result head c.copy.ensures (c.in_ok-copy.was ∙ ap (λ r. Ok r) c.in-None.is)

pub returns-in-Some-2 : goal.returns-in-Some-2
returns-in-Some-2 c =
    let head : read_call_numbers (words_in c.args.rest) ≡ Some (c.in-Some.head, words_in c.in-Some.rest) = search rules in
    some-copy c.args.table.now (words_in c.args.rest) (words_in c.in-Some.rest) c.in-Some.head c.in-Some-2.copy
    c.copy.result head c.copy.ensures (c.in_ok-copy.was ∙ ap (λ r. Ok r) c.in-Some-2.is)
