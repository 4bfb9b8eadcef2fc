use Rattle.std.proofs.Common.{sym, arith}
use Rattle.graph_place.proofs.Fields.{member_within}
use Rattle.graph_place.proofs.look_up.note_number.Goals as goal

pub note_label-requires : goal.note_label-requires
note_label-requires c = λ oneof label.
    let within = member_within c.args.table.now c.args.message c.args.number oneof c.in-Some.field.now c.requires.valid (sym c.in-Some.ensures) label in
    omega (arith, within, c.requires.places)
