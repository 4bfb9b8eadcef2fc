use Rattle.std.proofs.Common.{◌≡◌, ◌++◌, Some, None, ap, sym, ◌∙◌}
use Rattle.audit_text.specs.LineWords.{happening_in}
use Rattle.audit_text.proofs.Histories.{front-none, front-some}
use Rattle.audit_text.proofs.reading.prefix_happening.Goals as goal

pub returns-in-None-clause-told : goal.returns-in-None-clause-told
returns-in-None-clause-told c =
    let none : happening_in c.in_ok-read_line.field-0 ≡ None = sym c.happening_in.ensures ∙ c.in-None.is in
    front-none c.line_splits_into_words.ensures.happening c.args.table.now c.requires.valid c.args.declared.now c.args.text.now c.first_line.result.0.now
    (λ front behind is feedless. (c.first_line.ensures.ends front behind is feedless).0) c.in_ok-read_line.field-0 c.in_ok-read_line.ensures.only none

pub returns-in-Some-clause-told : goal.returns-in-Some-clause-told
returns-in-Some-clause-told c =
    let some : happening_in c.in_ok-read_line.field-0 ≡ Some c.in-Some.happened = sym c.happening_in.ensures ∙ c.in-Some.is in
    let front = front-some c.args.table.now c.args.declared.now c.first_line.result.0.now c.in_ok-read_line.field-0
    c.in-Some.happened c.in_ok-read_line.ensures.told c.in_ok-read_line.ensures.writable some in
    (c.first_line.ensures.joined ∙ ap (λ l. l ++ c.first_line.result.1.now) front.0, front.1)
