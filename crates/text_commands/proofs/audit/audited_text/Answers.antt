use Rattle.std.proofs.Common.{◌∙◌, ap}
use Rattle.script_grammar.specs.Reasons.{reason_word}
use Rattle.text_commands.proofs.Audited.{front_fault}
use Rattle.text_commands.proofs.audit.audited_text.Goals as goal

pub returns-in-Ok-clause-answer : goal.returns-in-Ok-clause-answer
returns-in-Ok-clause-answer c = c.audit_answer-answer.ensures.answer c.args.input.now c.in-Ok.ensures.read

pub returns-in-Ok-clause-failure : goal.returns-in-Ok-clause-failure
returns-in-Ok-clause-failure c = c.audit_answer-answer.ensures.failure c.args.input.now c.in-Ok.ensures.read

pub audit_answer-answer-requires-clause-short : goal.audit_answer-answer-requires-clause-short
audit_answer-answer-requires-clause-short c = (c.args.input.now, c.in-Ok.ensures.read, c.requires.short)

pub returns-in-Err-At-clause-failure : goal.returns-in-Err-At-clause-failure
returns-in-Err-At-clause-failure c =
    let first = rw c.in-Err-At.field-0-is at c.in-Err-At.ensures.fault in
    front_fault _ _ _ _ _ first c.in-Err-At.line-is (c.word.ensures ∙ ap reason_word c.in-Err-At.reason-is)
