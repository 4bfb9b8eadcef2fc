-- The code's own: two contents of a field combined into one, which means what the two mean in order. In these files
-- `inner` gives the message, at an index of the table, that records mean.
use Rattle.std.specs.Prelude.{◌≡◌, ℕ, Bool, true, false, List, [], ◌∷◌, ◌++◌}
use Rattle.mrpc_table.specs.Node.{Node, Content, Item}
use Rattle.mrpc_table.specs.declared.table.Kind.{Kind}
use Rattle.mrpc_table.specs.declared.table.Kind.TheVariants.{Message as OfMessage}
use Rattle.mrpc_table.specs.declared.table.Label.{Label}
use Rattle.mrpc_table.specs.declared.table.Label.TheVariants.{Plain, Optional, Repeated, Packed, Map, Member}
use Rattle.wire_decode.specs.Merged.{field_content, joined_messages, singles_in}
use Rattle.wire_decode.specs.declared.gather.MergeMode.{MergeMode}
use Rattle.wire_decode.specs.declared.gather.MergeMode.TheVariants.{Listed, Joined, Last}

-- how the contents of a singular field become one: the records of messages are concatenated; of other values the last
-- counts
abbrev pub single_merge_mode : Kind → MergeMode
single_merge_mode (OfMessage i) = Joined
single_merge_mode _ = Last

-- how the contents of any field become one: all elements and all entries count
abbrev pub merge_mode_of : Label → Kind → MergeMode
merge_mode_of Repeated kind = Listed
merge_mode_of Packed kind = Listed
merge_mode_of (Map key) kind = Listed
merge_mode_of Plain kind = single_merge_mode kind
merge_mode_of Optional kind = single_merge_mode kind
merge_mode_of (Member oneof) kind = single_merge_mode kind

-- A field of this form has the same final content from the whole as from the first and the second content, whatever
-- precedes and follows them.
abbrev pub IsMeaningOfBoth : MergeMode → Content → Content → Content → Type 0
IsMeaningOfBoth form first second whole = (label : Label) (kind : Kind) → merge_mode_of label kind ≡ form
    → (inner : ℕ → Node → Node) (before after : List Content)
    → field_content inner label kind (before ++ whole ∷ after)
    ≡ field_content inner label kind (before ++ first ∷ second ∷ after)

-- One item represents two: if they are messages, it has the records of both, and otherwise it is the second.
abbrev pub IsItemForBoth : Bool → Item → Item → Item → Type 0
IsItemForBoth true first second whole = (after : List Item) → joined_messages (whole ∷ after) ≡ joined_messages (first ∷ second ∷ after)
IsItemForBoth false first second whole = whole ≡ second

-- The whole has one item for the items of both contents, or if only one of them has an item, that one.
pub data HasItemForBoth (message : Bool) (first second whole : Content) : Type 0 where
  are_both : (one other item : Item) → singles_in (first ∷ []) ≡ one ∷ [] → singles_in (second ∷ []) ≡ other ∷ []
      → singles_in (whole ∷ []) ≡ item ∷ [] → IsItemForBoth message one other item
      → HasItemForBoth message first second whole
  is_second : singles_in (first ∷ []) ≡ [] → singles_in (whole ∷ []) ≡ singles_in (second ∷ [])
      → HasItemForBoth message first second whole
  is_first : singles_in (second ∷ []) ≡ [] → singles_in (whole ∷ []) ≡ singles_in (first ∷ [])
      → HasItemForBoth message first second whole
