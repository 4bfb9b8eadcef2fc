use Rattle.std.proofs.Common.{arith}
use Rattle.text_commands.proofs.Audited.{all_policies, answer_near, line_near, parts_short, text_fault}
use Rattle.text_commands.proofs.audit.audit_answer.Goals as goal

pub check_audit-requires-clause-policies : goal.check_audit-requires-clause-policies
check_audit-requires-clause-policies c = all_policies c.args.read.now.declared c.requires.sound

pub check_audit-requires-clause-short : goal.check_audit-requires-clause-short
check_audit-requires-clause-short c =
    let parts = parts_short c.requires.short.0 _ _ _ _ _ c.requires.short.1 in
    omega (arith, parts.0, c.requires.short.2)

pub answer_line-requires : goal.answer_line-requires
answer_line-requires c =
    answer_near c.line_number_law.ensures c.requires.short.0 _ _ _ _ _ _ c.requires.short.1 c.requires.short.2
    c.in-Ok.ensures.checked

pub overflow_add-result : goal.overflow_add-result
overflow_add-result c =
    let first = rw c.in-Err-Bad.field-0-is at c.in-Err-Bad.ensures.bad in
    let near = c.line_number_law.ensures.invalid_line _ _ _ _ first in
    let fits = line_near c.requires.short.0 _ _ _ _ _ _ c.requires.short.1 c.requires.short.2 near in
    omega (arith, fits, c.in-Err-Bad.line-is)

pub returns-in-Err-Bad-clause-failure : goal.returns-in-Err-Bad-clause-failure
returns-in-Err-Bad-clause-failure c input says =
    let first = rw c.in-Err-Bad.field-0-is at c.in-Err-Bad.ensures.bad in
    text_fault _ _ _ _ _ _ _ _ says first c.in-Err-Bad.line-is
