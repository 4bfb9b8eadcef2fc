use Rattle.schema_validation.proofs.Typed.{meets_no_type}
use Rattle.schema_validation.proofs.messages.note_type.Goals as goal

pub returns : goal.returns
returns c scope h =
    meets_no_type c.args.scopes.now c.args.file scope c.args.word.now c.type_of.result c.is_none-unknown.result
    c.args.first.now
    c.note_if.new.self c.is_none-unknown.ensures (c.type_of.ensures scope h) c.note_if.ensures
