-- The value of a tree at the end of a path (this project's own rule language, over the presence of Protocol Buffers,
-- "Field Presence").
use Rattle.std.specs.Prelude.{[], Option, Some, None, option_and_then}
use Rattle.mrpc_table.specs.Node.{Node, Content, Item, number, run, node, content_at}
use Rattle.mrpc_table.specs.declared.table.Kind.{Kind}
use Rattle.mrpc_table.specs.declared.table.Kind.TheVariants.{Text, Octets, Message}
use Rattle.mrpc_table.specs.declared.table.Label.{Label}
use Rattle.mrpc_table.specs.declared.table.Label.TheVariants.{Plain}
use Rattle.mrpc_table.specs.PathTrees.{item_in, message_at_path}
use Rattle.mrpc_table.specs.declared.path.Path.{Path}

-- the default of a kind: 0, the empty text or no bytes; a message has none
abbrev pub default_item : Kind → Option Item
default_item Text = Some (run [])
default_item Octets = Some (run [])
default_item (Message i) = None
default_item _ = Some (number 0)

-- the value of an unset field: its default if it is plain, none if it is optional or a member of a oneof
abbrev pub unset_item : Kind → Label → Option Item
unset_item k Plain = default_item k
unset_item k _ = None

-- a number or a run; messages can't be compared
abbrev pub compared_item : Item → Option Item
compared_item (node t) = None
compared_item i = Some i

-- the value of a field, by the content that its message has for it
abbrev pub item_of_field : Kind → Label → Option Content → Option Item
item_of_field k label None = unset_item k label
item_of_field k label (Some c) = option_and_then compared_item (item_in c)

-- the value at the end of a path; none if a message on the way is unset
abbrev pub item_at_path : Node → Path → Option Item
item_at_path t path =
    option_and_then
    (λ m. item_of_field path.kind path.label (content_at m path.number))
    (message_at_path t path.way)
