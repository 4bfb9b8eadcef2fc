use Rattle.command_diagnostics.proofs.check.explain_check.Goals as goal

pub explain_set-requires : goal.explain_set-requires
explain_set-requires c = c.is_bundle.ensures.0 c.if-is_bundle.true
