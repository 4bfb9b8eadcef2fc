-- A tree without the fields at some paths. A path is the field numbers of the messages on its way, and last that of
-- the field. It leads through single messages, never through elements or entries.
use Rattle.std.specs.Prelude.{ℕ, Bool, if◌then◌else◌, List, [], ◌∷◌}
use Rattle.mrpc_table.specs.Node.{Node, no_fields, field, Content, one, Item, node}

-- without the fields at the paths that pass a test
abbrev mutual
  pub without : (List ℕ → Bool) → Node → Node
  without at no_fields = no_fields
  without at (field n c t) =
      if at (n ∷ []) then without at t
      else field n (content_without (λ path. at (n ∷ path)) c) (without at t)

  pub content_without : (List ℕ → Bool) → Content → Content
  content_without at (one i) = one (item_without at i)
  content_without at c = c

  pub item_without : (List ℕ → Bool) → Item → Item
  item_without at (node t) = node (without at t)
  item_without at i = i
