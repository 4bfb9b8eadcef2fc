use Rattle.std.proofs.Common.{◌∙◌, ap, sym, arith}
use Rattle.mrpc_table.specs.Normal.{fields_of, field_at}
use Rattle.graph_copy.proofs.Messages.{none_past}
use Rattle.graph_copy.proofs.look_up.field_of.Goals as goal

pub returns-in-Ok : goal.returns-in-Ok
returns-in-Ok c = c.field.ensures ∙ ap (field_at (fields_of c.args.table.now c.args.message)) c.in-Ok.ensures.1

pub returns-in-Err : goal.returns-in-Err
returns-in-Err c = sym (none_past c.args.table.now c.args.message c.args.number c.requires (omega (arith, c.in-Err.ensures)))
