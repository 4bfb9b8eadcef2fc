use Rattle.std.proofs.Common.{sym, subst}
use Rattle.audit_check.specs.Stages.{IsStage}
use Rattle.audit_check.specs.declared.stage.Stage.{Stage}
use Rattle.audit_check.proofs.stage.Stage.apply_pending_line.Goals as goal

pub returns : goal.returns
returns c limit h before stage line =
    let P : Stage → Type 0 = IsStage c.args.table.now limit h before in
    c.in_ok-self.ensures limit h before (subst P (sym c.replace-stage.ensures.value) stage) line

pub list_next-requires-clause-known : goal.list_next-requires-clause-known
list_next-requires-clause-known c =
    let k = c.requires.known in
    let P : Stage → Type 0 = IsStage c.args.table.now k.0 k.1 k.2 in
    (k.0, k.1, k.2, subst P (sym c.replace-stage.ensures.value) k.3, k.4)
