use Rattle.std.proofs.Common.{◌∙◌, ap}
use Rattle.proto_grammar.specs.Reason.{proto_word}
use Rattle.schema_validation.specs.Reason.{resolve_word}
use Rattle.text_commands.specs.Checking.HasDeclaredTable.{a_file}
use Rattle.text_commands.proofs.CheckFaults.{text_fault, file_fault}
use Rattle.text_commands.proofs.check.table_of_file.Goals as goal

pub returns-in-Err-At-clause-fault : goal.returns-in-Err-At-clause-fault
returns-in-Err-At-clause-fault c =
    let first = rw c.in-Err-At.field-0-is at c.in-Err-At.ensures.fault in
    text_fault _ _ _ _ _ c.requires.alone first c.in-Err-At.line-is (c.word.ensures ∙ ap proto_word c.in-Err-At.reason-is)

pub returns-in-Ok-resolve-clause-checked : goal.returns-in-Ok-resolve-clause-checked
returns-in-Ok-resolve-clause-checked c = (
  a_file c.in-Ok.file c.requires.alone c.in-Ok.ensures.reads c.in-Ok-resolve.ensures.resolves,
  c.in-Ok-resolve.ensures.valid,
)

pub returns-in-Err-At-resolve-clause-fault : goal.returns-in-Err-At-resolve-clause-fault
returns-in-Err-At-resolve-clause-fault c =
    let first = rw c.in-Err-At-resolve.field-0-is at c.in-Err-At-resolve.ensures.offence in
    file_fault _ _ _ _ _ _ c.requires.alone c.in-Ok.ensures.reads first c.in-Err-At-resolve.line-is (c.word-in-Err-At-resolve.ensures ∙ ap resolve_word c.in-Err-At-resolve.reason-is)

pub resolve-requires-clause-formed : goal.resolve-requires-clause-formed
resolve-requires-clause-formed c =
    c.alone_is_ordered.ensures.formed c.args.text.now c.in-Ok.file c.in-Ok.ensures.reads

pub resolve-requires-clause-ordered : goal.resolve-requires-clause-ordered
resolve-requires-clause-ordered c =
    c.alone_is_ordered.ensures.ordered c.args.text.now c.in-Ok.file c.in-Ok.ensures.reads
