use Rattle.diagnostics.specs.Diagnostics.{in_line}
use Rattle.diagnostics.proofs.diagnostic.Diagnostic.in_line.Goals as goal

pub returns : goal.returns
returns c = λ input t. (t, in_line c.args.part.within)
