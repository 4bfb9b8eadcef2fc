use Rattle.std.proofs.Common.{◌≡◌, List, Some, subst}
use Rattle.std.specs.Prelude.{slice_get}
use Rattle.audit_text.specs.Lines.{IsEventOfTable}
use Rattle.call_history.specs.declared.happening.Happening.{Happening}
use Rattle.conn_core.specs.Connections.{judge_context}
use Rattle.connection_audit.proofs.Fits.{happenings-fit}
use Rattle.connection_audit.proofs.event.append_event.Goals as goal

pub append_record-requires-clause-fits : goal.append_record-requires-clause-fits
append_record-requires-clause-fits c = λ what at. subst (λ T. IsEventOfTable T what) c.requires.same
    (happenings-fit (judge_context c.args.calls.now) c.args.calls.now.happenings c.is_connection.ensures.is_valid_state.legal.prefix c.args.place what
    (subst (λ (hs : List Happening). slice_get hs c.args.place ≡ Some what) c.history.ensures at))
