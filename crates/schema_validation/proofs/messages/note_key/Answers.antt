use Rattle.std.proofs.Common.{ap}
use Rattle.std.specs.Prelude.{not}
use Rattle.schema_validation.proofs.Typed.{meets_key, meets_no_key}
use Rattle.schema_validation.proofs.messages.note_key.Goals as goal

pub returns-in-Some : goal.returns-in-Some
returns-in-Some c scope h =
    meets_key c.args.scopes.now c.args.file scope c.args.key.now c.in-Some.type_of (not c.may_be_key.result)
    c.args.first.now
    c.note_if.new.self
    (c.in-Some.ensures scope h) (ap not c.may_be_key.ensures) c.note_if.ensures

pub returns-in-None : goal.returns-in-None
returns-in-None c scope h =
    meets_no_key c.args.scopes.now c.args.file scope c.args.key.now c.args.first.now c.note.new.self
    (c.in-None.ensures scope h)
    c.note.ensures
