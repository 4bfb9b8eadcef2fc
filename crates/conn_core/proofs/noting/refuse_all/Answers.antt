use Rattle.std.proofs.Common.{◌++◌, ◌∷◌, [], List, take, ap, sym, ◌∙◌, arith}
use Rattle.std.proofs.lemmas.List.{append_assoc}
use Rattle.mrpc_table.specs.declared.call.Call.{Call}
use Rattle.call_history.specs.declared.happening.Cause.TheVariants as cause
use Rattle.call_history.specs.declared.happening.Happening.{Happening}
use Rattle.call_history.specs.declared.happening.Happening.TheVariants.{Refused}
use Rattle.conn_core.specs.Invariant.{failure_events}
use Rattle.conn_core.proofs.Going.{failure-more}
use Rattle.conn_core.proofs.noting.refuse_all.Goals as goal

pub loop-place-preserved : goal.loop-place-preserved
loop-place-preserved c = (
  c.push.ensures.steps ∙ c.loop-place.invariant.0,
  c.push.ensures.happenings
      ∙ ap (λ (call : Call). c.loop-place.history.happenings ++ Refused call.seq cause.Transport ∷ []) c.call.ensures
      ∙ ap (λ (h : List Happening). h ++ Refused c.at.result.now.call.seq cause.Transport ∷ []) c.loop-place.invariant.1
      ∙ append_assoc c.args.history.now.happenings (failure_events (take c.loop-place.place c.args.calls.now))
      (Refused c.at.result.now.call.seq cause.Transport ∷ [])
      ∙ sym (ap (λ (h : List Happening). c.args.history.now.happenings ++ h)
      (failure-more c.args.calls.now c.loop-place.place c.at.result.now c.at.ensures)),
  omega (arith, c.push.ensures.room, c.loop-place.invariant.2),
)
