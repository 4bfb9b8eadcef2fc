use Rattle.std.proofs.Common.{arith}
use Rattle.call_history.specs.Legal.{IsLegal}
use Rattle.audit_check.specs.Stages.{IsIllegalAt}
use Rattle.audit_check.specs.States.{IsListing}
use Rattle.audit_check.proofs.Stages.{err_at, first_line_at, illegal_judged, ok_at}
use Rattle.audit_check.proofs.stage.Stage.end.Goals as goal

pub returns-in-Ok : goal.returns-in-Ok
returns-in-Ok c T limit h told stage eh es =
    let now = ok_at c.in_ok-row.field-0 (λ row. IsLegal T limit h × IsListing T limit h told row) (IsIllegalAt T limit h told) c.in-Ok.row c.in-Ok.is
    (c.in_ok-row.ensures T limit h told stage (first_line_at h told _ (omega (arith, eh, es)))) in
    c.legal_result.ensures T limit h told now.0 now.1 eh es

pub returns-in-Err : goal.returns-in-Err
returns-in-Err c T limit h told stage eh es =
    illegal_judged T limit h told c.in-Err.field-0
    (err_at c.in_ok-row.field-0 (λ row. IsLegal T limit h × IsListing T limit h told row) (IsIllegalAt T limit h told) c.in-Err.field-0 c.in-Err.is
    (c.in_ok-row.ensures T limit h told stage (first_line_at h told _ (omega (arith, eh, es)))))
