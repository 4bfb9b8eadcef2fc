-- The code's own: how the values of a kind lie in words.
use Rattle.mrpc_table.specs.declared.table.Kind.{Kind}
use Rattle.mrpc_table.specs.declared.table.Kind.TheVariants.{Text, Octets, Message as OfMessage}
use Rattle.graph_copy.specs.declared.role.ValueShape.{ValueShape}
use Rattle.graph_copy.specs.declared.role.ValueShape.TheVariants.{Number, Run, Message}

abbrev pub shape_of : Kind → ValueShape
shape_of Text = Run
shape_of Octets = Run
shape_of (OfMessage m) = Message m
shape_of _ = Number
