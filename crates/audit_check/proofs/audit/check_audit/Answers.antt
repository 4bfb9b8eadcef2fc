use Rattle.audit_check.proofs.Only.{only_bad, only_checked}
use Rattle.audit_check.proofs.audit.check_audit.Goals as goal

pub returns-clause-only_checked : goal.returns-clause-only_checked
returns-clause-only_checked c checked is =
    only_checked c.args.table.now c.args.declared.now c.args.loads c.args.text.now c.read_text.result c.read_text.ensures.checked c.read_text.ensures.bad
    (λ k h. c.check_is_deterministic.ensures.checked c.args.table.now c.args.declared.now c.args.loads c.args.text.now k checked c.requires.valid h is)
    (λ line h. c.check_is_deterministic.ensures.not_both c.args.table.now c.args.declared.now c.args.loads c.args.text.now checked line c.requires.valid is h)

pub returns-clause-only_bad : goal.returns-clause-only_bad
returns-clause-only_bad c line is =
    only_bad c.args.table.now c.args.declared.now c.args.loads c.args.text.now c.read_text.result c.read_text.ensures.checked c.read_text.ensures.bad line
    (λ k h. c.check_is_deterministic.ensures.bad c.args.table.now c.args.declared.now c.args.text.now k line c.requires.valid h is)
    (λ k h. c.check_is_deterministic.ensures.not_both c.args.table.now c.args.declared.now c.args.loads c.args.text.now k line c.requires.valid h is)
