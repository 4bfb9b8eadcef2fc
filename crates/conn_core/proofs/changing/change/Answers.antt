use Rattle.std.proofs.Common.{sym, subst}
use Rattle.engine_core.specs.declared.op.Op.{Op as Step}
use Rattle.conn_core.specs.Invariant.{IsChanged}
use Rattle.conn_core.proofs.Placing.{on-ok}
use Rattle.conn_core.proofs.changing.change.Goals as goal

pub returns-in-Attach-clause-changed : goal.returns-in-Attach-clause-changed
returns-in-Attach-clause-changed c = on-ok _ (IsChanged c.args.step.now c.args.now c.args.chain.now c.attach.new.chain)
    (λ h. subst (λ (s : Step). IsChanged s c.args.now c.args.chain.now c.attach.new.chain) (sym c.in-Attach.is)
    (h c.in-Attach.label)) c.attach.result c.attach.ensures.changed

pub returns-in-Upgrade-clause-changed : goal.returns-in-Upgrade-clause-changed
returns-in-Upgrade-clause-changed c =
    on-ok _ (IsChanged c.args.step.now c.args.now c.args.chain.now c.upgrade.new.chain)
    (λ h. subst (λ (s : Step). IsChanged s c.args.now c.args.chain.now c.upgrade.new.chain) (sym c.in-Upgrade.is)
    (h c.in-Upgrade.label)) c.upgrade.result c.upgrade.ensures.changed
