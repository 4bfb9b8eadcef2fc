use Rattle.std.proofs.Common.{◌≡◌, ℕ, List, [], subst, arith}
use Rattle.std.proofs.lemmas.List.{nil_from_length}
use Rattle.audit_text.specs.Numbers.{IsNumberBefore}
use Rattle.audit_text.proofs.ShortNumbers.{last_number, number_before}
use Rattle.audit_text.proofs.word.short_number.Goals as goal

pub returns-then-is_empty : goal.returns-then-is_empty
returns-then-is_empty c =
    let text = c.args.text.now in
    let number = c.in_ok-number.number in
    let none : c.in_ok-number.behind.now ≡ [] = nil_from_length c.in_ok-number.behind.now (grind arith) in
    last_number text number (subst (λ (rest : List ℕ). IsNumberBefore text number rest) none c.in_ok-number.ensures)

pub returns : goal.returns
returns c =
    let text = c.args.text.now in
    let number = c.in_ok-number.number in
    number_before text c.in_ok-others.others.now number (subst (λ (rest : List ℕ). IsNumberBefore text number rest) c.in_ok-others.ensures c.in_ok-number.ensures)
