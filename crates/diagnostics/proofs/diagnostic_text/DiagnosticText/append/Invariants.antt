-- Earlier words stay.
use Rattle.diagnostics.specs.Diagnostics.{HasAppended}
use Rattle.diagnostics.proofs.diagnostic_text.DiagnosticText.append.Given as goal

abbrev pub invariant-loop-byte : goal.invariant-loop-byte
invariant-loop-byte l = HasAppended l.fn.self l.self
