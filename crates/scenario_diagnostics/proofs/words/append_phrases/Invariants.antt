-- Earlier words stay.
use Rattle.diagnostics.specs.Diagnostics.{HasAppended}
use Rattle.scenario_diagnostics.proofs.words.append_phrases.Given as goal

abbrev pub invariant-loop-part : goal.invariant-loop-part
invariant-loop-part l = HasAppended l.fn.out l.out
