use Rattle.std.proofs.Common.{length, sym}
use Rattle.std.proofs.lemmas.List.Elements.{All-contains}
use Rattle.mrpc_table.specs.Valid.{IsField}
use Rattle.schema_binding.proofs.Order.{field_known}
use Rattle.schema_binding.proofs.reach.differs.Goals as goal

pub is_same_field-requires-clause-their : goal.is_same_field-requires-clause-their
is_same_field-requires-clause-their c =
    let known = field_known c.args.other.now.fields c.args.field.now.number c.in-Some.known.now (sym c.in-Some.ensures) in
    All-contains (IsField c.args.theirs.now (length c.args.other.now.oneofs)) c.args.other.now.fields c.in-Some.known.now c.requires.other.fields known.has
