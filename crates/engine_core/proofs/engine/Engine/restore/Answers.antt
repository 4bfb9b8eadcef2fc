use Rattle.engine_core.specs.Chains.{Entry}
use Rattle.engine_core.proofs.MarkLaws.{upgraded-true}
use Rattle.engine_core.proofs.engine.Engine.restore.Goals as goal

pub returns-clause-stays_true : goal.returns-clause-stays_true
returns-clause-stays_true c = λ s h.
    let e : Entry = record { name = c.old.inside.name; attach = c.old.inside.attach; version = c.old.inside.version; policy = c.old.inside.policy } in
    upgraded-true e c.args.policy s (rw (← c.state.view_is, ← c.old.view_is) at c.requires.kind) (rw (← c.state.view_is, ← c.old.view_is) at h)
