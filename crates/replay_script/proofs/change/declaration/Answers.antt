use Rattle.std.proofs.Common.{refl, sym, subst, ◌∙◌, arith}
use Rattle.std.proofs.lemmas.Bool.{false≢true}
use Rattle.replay_script.specs.Changes.{IsDeclarationFault, is_fault, is_block, is_item}
use Rattle.replay_script.proofs.change.declaration.Goals as goal
use Rattle.replay_script.proofs.change.declaration.Goals.{else-closed-2-via-then-closed-2+else-line-gt1, else-closed-2-via-else-closed-2}

pub returns-then-closed : goal.returns-then-closed
returns-then-closed c =
    let lines = c.args.lines in
    subst (IsDeclarationFault c.args.table.now c.args.declared.now c.args.closed lines.form lines.line.now lines.behind.now) (sym c.fault.ensures)
    (is_item c.in-Ok.item c.in-Ok.left.now c.if-closed.true c.in-Ok.ensures.read refl refl)

pub returns-then-line-gt1 : goal.returns-then-line-gt1
returns-then-line-gt1 c =
    let lines = c.args.lines in
    subst (IsDeclarationFault c.args.table.now c.args.declared.now c.args.closed lines.form lines.line.now lines.behind.now) (sym c.fault-then-line-gt1.ensures)
    (is_block c.in-Err-At.line c.in-Err-At.reason c.if-closed-2.true c.if-line-gt1.true (rw c.in-Err-At.field-0-is at c.in-Err-At.ensures.fault) refl refl)

pub returns-else-closed-2 : goal.returns-else-closed-2
returns-else-closed-2 c =
    is_fault (λ closed. elim c.else-closed-2.branch [
      | else-closed-2-via-then-closed-2+else-line-gt1 w ↦ (let small = w.if-line-gt1.false in omega (arith, small))
      | else-closed-2-via-else-closed-2 w ↦ absurd (false≢true (sym w.if-closed-2.false ∙ closed))
    ]) (rw c.in-Err-At.field-0-is at c.in-Err-At.ensures.fault)
