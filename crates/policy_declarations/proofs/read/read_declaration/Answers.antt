use Rattle.policy_declarations.proofs.ItemReading.{only_one}
use Rattle.policy_declarations.proofs.read.read_declaration.Goals as goal

pub returns-clause-only : goal.returns-clause-only
returns-clause-only c =
    let l = c.args.lines in
    only_one c.args.table.now c.args.skips c.args.declared.now l.form l.line.now l.behind.now c.declaration_of.result
    (c.declaration_or_fault.ensures.one c.args.table.now c.args.skips c.args.declared.now l.form l.line.now l.behind.now)
    (c.declaration_or_fault.ensures.not_both c.args.table.now c.args.skips c.args.declared.now l.form l.line.now l.behind.now) c.declaration_of.ensures
