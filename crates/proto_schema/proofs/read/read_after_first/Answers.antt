use Rattle.std.proofs.Common.{subst, refl, sym, ◌∙◌}
use Rattle.std.proofs.lemmas.Bool.{false≢true}
use Rattle.proto_grammar.specs.Lexemes.{lexeme}
use Rattle.proto_schema.specs.StatementReading.{ReadingOutcome, IsReadingOutcome}
use Rattle.proto_schema.proofs.Next.{no_equals}
use Rattle.proto_schema.proofs.SyntaxTokens.{no_string_behind, other_string_behind, no_semicolon_behind, semicolon_behind}
use Rattle.proto_schema.proofs.read.read_after_first.Goals as goal

pub returns-then-not-is_punctuator : goal.returns-then-not-is_punctuator
returns-then-not-is_punctuator c = λ ts a.
    let text = c.args.text.now in
    rw (c.unexpected.ensures text) (no_equals text (lexeme text c.args.first) c.next-equals.result ts
    (c.next-equals.ensures.list ts a) (sym (c.is_punctuator.ensures text) ∙ c.if-not-is_punctuator.true))

pub returns-then-not-is_text : goal.returns-then-not-is_text
returns-then-not-is_text c = λ ts a.
    let text = c.args.text.now in
    rw (c.unexpected-then-not-is_text.ensures text)
    (no_string_behind text (lexeme text c.args.first) c.next-equals.result c.next-value.result ts
    (c.next-equals.ensures.list ts a) (sym (c.is_punctuator.ensures text) ∙ c.if-not-is_punctuator.false)
    c.next-value.ensures.list
    (λ k. false≢true (c.if-not-is_text.ensures.1 k)))

pub returns-then-not-branch : goal.returns-then-not-branch
returns-then-not-branch c = λ ts a.
    let text = c.args.text.now in
    rw (c.proto_fault_at.ensures, c.span_of.ensures)
    (other_string_behind text (lexeme text c.args.first) c.next-equals.result c.next-value.result ts
    (c.next-equals.ensures.list ts a) (sym (c.is_punctuator.ensures text) ∙ c.if-not-is_punctuator.false)
    c.next-value.ensures.list
    (c.if-not-is_text.ensures.0 refl) (sym c.in_ok-is_proto3.ensures ∙ c.if-not-branch.true))

pub returns-then-not-is_punctuator-2 : goal.returns-then-not-is_punctuator-2
returns-then-not-is_punctuator-2 c = λ ts a.
    let text = c.args.text.now in
    rw (c.unexpected-then-not-is_punctuator-2.ensures text)
    (no_semicolon_behind text (lexeme text c.args.first) c.next-equals.result c.next-value.result c.next-last.result
    ts (c.next-equals.ensures.list ts a) (sym (c.is_punctuator.ensures text) ∙ c.if-not-is_punctuator.false)
    c.next-value.ensures.list
    (c.if-not-is_text.ensures.0 refl) (sym c.in_ok-is_proto3.ensures ∙ c.if-not-branch.false) c.next-last.ensures.list (sym (c.is_punctuator-2.ensures text) ∙ c.if-not-is_punctuator-2.true))

pub returns : goal.returns
returns c = λ ts a.
    let text = c.args.text.now in
    let (us, b, e) = semicolon_behind text (lexeme text c.args.first) c.next-equals.result c.next-value.result
    c.next-last.result ts (c.next-equals.ensures.list ts a) (sym (c.is_punctuator.ensures text)
    ∙ c.if-not-is_punctuator.false) c.next-value.ensures.list
    (c.if-not-is_text.ensures.0 refl) (sym c.in_ok-is_proto3.ensures ∙ c.if-not-branch.false) c.next-last.ensures.list (sym (c.is_punctuator-2.ensures text) ∙ c.if-not-is_punctuator-2.false) in
    subst (λ (o : ReadingOutcome). IsReadingOutcome c.read_statements.result o) (sym e) (c.read_statements.ensures us b)
