use Rattle.std.proofs.Common.{List, ℕ, Option, sym, subst}
use Rattle.std.specs.Borrow.{Bor}
use Rattle.audit_text.specs.Reading.{words_in}
use Rattle.audit_text.proofs.Spelled.{ReadsTree, read-alone}
use Rattle.audit_text.proofs.copy.copy_at.Goals as goal

pub returns-in-Some : goal.returns-in-Some
returns-in-Some c =
    subst (λ (rest : Option (Bor (List ℕ))). ReadsTree c.args.table.now c.args.message (words_in rest) c.message_of_word.result) (sym c.in-Some.is)
    (read-alone c.args.table.now c.requires.valid c.args.message c.in-Some.text.now c.message_of_word.result c.message_of_word.ensures)
