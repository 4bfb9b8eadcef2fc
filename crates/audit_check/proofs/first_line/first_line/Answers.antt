use Rattle.std.proofs.Common.{◌+◌, List, ℕ, take, sym, subst}
use Rattle.std.proofs.lemmas.List.{take_rest}
use Rattle.audit_check.specs.States.{IsFirstLine}
use Rattle.audit_check.proofs.FirstLines.{found, nowhere}
use Rattle.audit_check.proofs.first_line.first_line.Goals as goal

pub returns-in-Some : goal.returns-in-Some
returns-in-Some c =
    let text = c.args.text.now in
    let at = c.in-Some.at in
    subst (λ (l : List ℕ). IsFirstLine text (take (at + 1) text) l) (sym (take_rest text (at + 1))) (found text at c.in-Some.ensures)

pub returns-in-None : goal.returns-in-None
returns-in-None c = nowhere c.args.text.now c.in-None.ensures
