use Rattle.std.proofs.Common.{◌≡◌, refl, ap, sym, ◌∙◌}
use Rattle.mrpc_table.specs.declared.call.Call.{Call}
use Rattle.engine_core.specs.Marks.{PendingCall}
use Rattle.engine_core.specs.EngineSteps.{is_clear, redacts}
use Rattle.engine_core.proofs.work.clear.Goals as goal

pub returns-then-clear : goal.returns-then-clear
returns-then-clear c = λ attach version level moment.
    let differs = (rw c.if-clear.true at c.clear.ensures.changed).0 refl in
    redacts c.args.redact.now refl (rw c.clear.ensures.left at differs) refl c.clear.ensures.left (rw c.if-clear.true at c.clear.ensures.smaller) c.clear.ensures.fits
    (rw c.if-clear.true at c.clear.ensures.unallowed) refl

pub returns-else-clear : goal.returns-else-clear
returns-else-clear c = λ attach version level moment.
    let same : c.clear.new.self ≡ c.args.call.now = rw c.if-clear.false at c.clear.ensures.unchanged in
    is_clear c.args.redact.now refl (ap (λ (call : Call). call.tree) (sym c.clear.ensures.left ∙ ap (λ (s : PendingCall). s.call) same)) refl same refl
