use Rattle.std.proofs.Common.{List, subst, sym}
use Rattle.engine_core.specs.declared.op.Op.{Op}
use Rattle.chain_upgrade.specs.Chains.{OnTurn}
use Rattle.chain_upgrade.specs.declared.turned.Turned.{Turned}
use Rattle.call_history.specs.Records.{HasValidReferences, op_at}
use Rattle.call_history.specs.declared.record.HistoryRecord.TheVariants.{Refused}
use Rattle.conn_core.specs.Invariant.{IsRefusedByOpRule}
use Rattle.conn_core.proofs.noting.record_turn.Goals as goal

pub push-requires-clause-named : goal.push-requires-clause-named
push-requires-clause-named c =
    subst (λ (steps : List Op). HasValidReferences steps (Refused c.in-Refused.seq c.refusal-by.result))
    (sym c.record_note-in-Refused.ensures.steps)
    (c.refusal-by.ensures.named c.args.history.now.steps c.in-Refused.seq c.requires.step
    (subst (λ (t : Turned). OnTurn t (λ seq outcome. IsRefusedByOpRule (op_at c.args.history.now.steps c.args.step) outcome))
    c.in-Refused.is c.requires.rule))
