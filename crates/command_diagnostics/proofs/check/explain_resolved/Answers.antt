use Rattle.command_diagnostics.proofs.check.explain_resolved.Goals as goal

pub resolve-requires-clause-formed : goal.resolve-requires-clause-formed
resolve-requires-clause-formed c = c.alone_is_ordered.ensures.formed c.args.text.now c.args.file.now c.requires.read

pub resolve-requires-clause-ordered : goal.resolve-requires-clause-ordered
resolve-requires-clause-ordered c = c.alone_is_ordered.ensures.ordered c.args.text.now c.args.file.now c.requires.read
