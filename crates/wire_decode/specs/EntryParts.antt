-- The code's own: the key and the value of a map's entry, each combined into one item.
use Rattle.std.specs.Prelude.{◌≡◌, ℕ, Option, Some, None, List, [], ◌∷◌, ◌++◌}
use Rattle.mrpc_table.specs.Node.{Node, Item}
use Rattle.mrpc_table.specs.declared.table.Kind.{Kind}
use Rattle.wire_decode.specs.Contents.{default_item_of}
use Rattle.wire_decode.specs.Merged.{singular, merged_element, part_of_entry}

-- One item means what the items mean, whatever items follow; there is no item only if there are none.
abbrev pub IsMeaningOfAll : Kind → List Item → Option Item → Type 0
IsMeaningOfAll kind items None = items ≡ []
IsMeaningOfAll kind items (Some whole) = (inner : ℕ → Node → Node) (after : List Item)
    → singular inner kind (whole ∷ after) ≡ singular inner kind (items ++ after)

-- The whole means what the earlier item and one more mean; without an earlier one, it is the one more.
abbrev pub IsWithOneMore : Kind → Option Item → Item → Item → Type 0
IsWithOneMore kind None more whole = whole ≡ more
IsWithOneMore kind (Some before) more whole = (inner : ℕ → Node → Node) (after : List Item)
    → singular inner kind (whole ∷ after) ≡ singular inner kind (before ∷ more ∷ after)

-- the key or the value of an entry: the item that was found for it, or its default
abbrev pub found_part : (ℕ → Node → Node) → Kind → Option Item → Item
found_part inner kind None = default_item_of kind
found_part inner kind (Some found) = merged_element inner kind found

-- the key and the value of an entry, from the contents of its records
abbrev pub found_entry : (ℕ → Node → Node) → Kind → Kind → Node → Item × Item
found_entry inner key kind raw = (part_of_entry inner 1 key raw, part_of_entry inner 2 kind raw)
