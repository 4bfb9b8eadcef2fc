use Rattle.std.proofs.Common.{subst}
use Rattle.proto_schema.specs.Faults.{IsFaultOf}
use Rattle.proto_grammar.specs.declared.fault.ProtoFault.{ProtoFault}
use Rattle.command_diagnostics.proofs.set.explain_set_file.Goals as goal

pub returns-in-Err-At : goal.returns-in-Err-At
returns-in-Err-At c =
    λ input within.
    let text = c.args.file.now.text.now in
    let found = c.in-Err-At in
    let fault = subst (λ (f : ProtoFault). IsFaultOf text f) found.field-0-is found.ensures.fault in
    c.token_diagnostic.ensures input found.field-0-3 within fault
