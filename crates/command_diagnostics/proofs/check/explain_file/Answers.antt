use Rattle.std.proofs.Common.{refl, subst}
use Rattle.diagnostics.specs.Diagnostics.{whole}
use Rattle.proto_schema.specs.Faults.{IsFaultOf}
use Rattle.proto_grammar.specs.declared.fault.ProtoFault.{ProtoFault}
use Rattle.command_diagnostics.proofs.check.explain_file.Goals as goal

pub returns-in-Err-At : goal.returns-in-Err-At
returns-in-Err-At c =
    let text = c.args.text.now in
    let found = c.in-Err-At in
    let fault = subst (λ (f : ProtoFault). IsFaultOf text f) found.field-0-is found.ensures.fault in
    c.token_diagnostic.ensures text found.field-0-3 (whole refl) fault
