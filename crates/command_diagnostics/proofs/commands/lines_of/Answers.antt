use Rattle.std.proofs.Common.{◌++◌, ◌∙◌, ap}
use Rattle.command_diagnostics.proofs.commands.lines_of.Goals as goal

pub returns : goal.returns
returns c =
    λ input points.
    let made = c.in_ok-put.ensures input points in
    record {
      front = c.as_slice.result.now;
      plain = c.as_slice.ensures.plain;
      shown = made.0;
      says = made.1;
      spelled = made.2 ∙ ap (λ bytes. bytes ++ made.0) c.in_ok-out.ensures;
    }
