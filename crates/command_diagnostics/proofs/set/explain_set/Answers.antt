use Rattle.std.proofs.Common.{List, subst, sym}
use Rattle.command_diagnostics.proofs.Pointing.{of_set}
use Rattle.proto_set.specs.Bundle.{IsBundleOf}
use Rattle.proto_set.specs.Named.{files_of}
use Rattle.proto_set.specs.declared.named.Named.{Named}
use Rattle.command_diagnostics.proofs.set.explain_set.Goals as goal

pub returns-in-Some : goal.returns-in-Some
returns-in-Some c =
    let input = c.args.input.now in
    let spelled = subst (λ (packed : List Named). IsBundleOf input (files_of packed)) (sym c.as_slice.ensures.value) c.in-Ok.ensures.read in
    c.explain_set_file.ensures input (of_set input c.as_slice.result.now c.in-Some.file.now spelled c.in-Some.ensures)
