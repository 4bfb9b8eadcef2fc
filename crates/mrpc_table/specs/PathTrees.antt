-- The content of a tree at the end of a path (Protocol Buffers, "Field Presence").
use Rattle.std.specs.Prelude.{ℕ, ◌<◌, List, [], ◌∷◌, Option, Some, None, option_and_then}
use Rattle.mrpc_table.specs.Node.{Node, no_fields, field, Content, one, Item, node, content_at}
use Rattle.mrpc_table.specs.declared.path.Path.{Path}

-- the one value of a content, and the message that it is
abbrev pub item_in : Content → Option Item
item_in (one i) = Some i
item_in _ = None

abbrev pub message_in : Item → Option Node
message_in (node t) = Some t
message_in _ = None

-- the message that a tree has under a number
abbrev pub message_under : Node → ℕ → Option Node
message_under t n = option_and_then message_in (option_and_then item_in (content_at t n))

-- the message at the end of a path; none if one along the path is unset
abbrev pub message_at_path : Node → List ℕ → Option Node
message_at_path t [] = Some t
message_at_path t (n ∷ way) = option_and_then (λ m. message_at_path m way) (message_under t n)

-- the content of the tree at the end of a path
abbrev pub content_at_path : Node → Path → Option Content
content_at_path t path = option_and_then (λ m. content_at m path.number) (message_at_path t path.way)

-- the numbers of a message's fields ascend, and so do those of each message in it that is the one value of its field
abbrev mutual
  pub IsTreeAscendingFrom : ℕ → Node → Type 0
  IsTreeAscendingFrom last no_fields = Unit {0}
  IsTreeAscendingFrom last (field n c t) = (last < n) × IsAscendingContent c × IsTreeAscendingFrom n t

  pub IsAscendingContent : Content → Type 0
  IsAscendingContent (one i) = IsAscendingItem i
  IsAscendingContent _ = Unit {0}

  pub IsAscendingItem : Item → Type 0
  IsAscendingItem (node t) = IsTreeAscendingFrom 0 t
  IsAscendingItem _ = Unit {0}

abbrev pub IsAscendingTree : Node → Type 0
IsAscendingTree t = IsTreeAscendingFrom 0 t
