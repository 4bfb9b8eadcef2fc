use Rattle.command_diagnostics.proofs.Pointing.{token_there}
use Rattle.command_diagnostics.proofs.check.token_diagnostic.Goals as goal

pub returns : goal.returns
returns c =
    λ input line within fault.
    token_there input c.args.text.now c.args.reason c.args.start c.args.end line c.of.result c.of.ensures.text
    c.of.ensures.start c.of.ensures.end within fault
