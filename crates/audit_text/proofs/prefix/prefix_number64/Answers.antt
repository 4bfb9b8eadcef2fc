use Rattle.std.proofs.Common.{◌≡◌, ◌++◌, List, ℕ, ap, ◌∙◌}
use Rattle.std.specs.Fmt.{decimal}
use Rattle.audit_text.proofs.Said.{number-is}
use Rattle.audit_text.proofs.prefix.prefix_number64.Goals as goal

pub returns : goal.returns
returns c =
    let before = c.in_ok-number.ensures in
    let number = c.in_ok-number.number in
    let digits : before.digits ≡ decimal number = number-is before.digits number before.spells before.small in
    (before.small, before.parts ∙ ap (λ (l : List ℕ). l ++ c.in_ok-number.behind.now) digits ∙ ap (λ (l : List ℕ). decimal number ++ l) c.in_ok-rest.ensures)
