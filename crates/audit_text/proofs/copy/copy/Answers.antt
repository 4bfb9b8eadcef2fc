use Rattle.std.proofs.Common.{rules, ◌≡◌, ◌∷◌, Some, ap, ◌∙◌, codes}
use Rattle.mrpc_table.specs.Calls.{message_at}
use Rattle.audit_text.specs.Reading.{read_word, words_in}
use Rattle.audit_text.proofs.Causes.{first-said}
use Rattle.audit_text.proofs.CopyLines.{malformed-reads}
use Rattle.audit_text.proofs.LineParts.{head-word}
use Rattle.audit_text.proofs.copy.copy.Goals as goal

pub returns-then-is_word : goal.returns-then-is_word
returns-then-is_word c =
    λ call method number.
    let T = c.args.table.now in
    let first : read_word (words_in c.args.rest) ≡ Some (c.in-Some.word.now, words_in c.in-Some.rest) = search rules in
    let is = head-word c.in-Some.word.now (codes "malformed") (search rules) in
    malformed-reads T call (message_at T c.args.method c.args.number) (words_in c.args.rest) (words_in c.in-Some.rest) c.malformed.result
    (first-said (words_in c.args.rest) (c.in-Some.word.now, words_in c.in-Some.rest) first ∙ ap (λ w. w ∷ words_in c.in-Some.rest) is) c.malformed.ensures
