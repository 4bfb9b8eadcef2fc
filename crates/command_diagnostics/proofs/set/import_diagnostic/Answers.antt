use Rattle.command_diagnostics.proofs.Pointing.{also_of}
use Rattle.command_diagnostics.proofs.set.import_diagnostic.Goals as goal

pub returns : goal.returns
returns c =
    λ input within. c.in_line.ensures input (also_of input c.of.result.text.now c.args.text.now c.of.ensures.text within)
