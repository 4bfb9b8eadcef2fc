use Rattle.command_diagnostics.proofs.Pointing.{offence_there}
use Rattle.command_diagnostics.proofs.violations.violation_diagnostic.Goals as goal

pub returns : goal.returns
returns c =
    λ input within read fault.
    let span = c.args.span in
    offence_there input c.args.text.now c.args.file.now c.args.reason span.start span.end span.line c.of.result
    c.of.ensures.text c.of.ensures.start c.of.ensures.end within read fault
