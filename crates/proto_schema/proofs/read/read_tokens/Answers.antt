use Rattle.std.proofs.Common.{subst, true, false, sym, ◌∙◌}
use Rattle.proto_schema.specs.StatementReading.{ReadingOutcome, IsReadingOutcome}
use Rattle.proto_schema.proofs.SyntaxTokens.{first_list, no_syntax}
use Rattle.proto_schema.proofs.read.read_tokens.Goals as goal

pub returns-then-is_word : goal.returns-then-is_word
returns-then-is_word c = λ ts a.
    let text = c.args.text.now in
    let (us, b, e) = first_list text c.next-first.result ts (c.next-first.ensures.list ts a) (sym c.is_word.ensures ∙ c.if-is_word.true) in
    subst (λ (o : ReadingOutcome). IsReadingOutcome c.read_after_first.result o) (sym e) (c.read_after_first.ensures us b)

pub returns-then-is_none : goal.returns-then-is_none
returns-then-is_none c = λ ts a.
    let text = c.args.text.now in
    rw (c.unexpected.ensures text) (no_syntax text c.next-first.result ts true (c.next-first.ensures.list ts a)
    (sym c.is_word.ensures ∙ c.if-is_word.false) (sym (c.is_none.ensures text) ∙ c.if-is_none.true))

pub returns : goal.returns
returns c = λ ts a.
    let text = c.args.text.now in
    rw (c.proto_fault_at.ensures, c.span_of.ensures)
    (no_syntax text c.next-first.result ts false (c.next-first.ensures.list ts a) (sym c.is_word.ensures ∙ c.if-is_word.false) (sym (c.is_none.ensures text) ∙ c.if-is_none.false))
