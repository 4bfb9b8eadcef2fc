-- Strings of whole records, each with the contents of a message.
use Rattle.std.specs.Prelude.{ℕ, List, [], ◌∷◌}
use Rattle.mrpc_table.specs.Node.{Item, node}
use Rattle.mrpc_table.specs.declared.table.Field.{Field}
use Rattle.mrpc_table.specs.declared.table.Table.{Table}
use Rattle.wire_decode.specs.RawMessages.{IsRawMessage}

-- each string consists of whole records, and the item at its index is the message with their contents
abbrev pub AreRawMessages : Table → ℕ → List Field → List (List ℕ) → List Item → Type 0
AreRawMessages T room fs [] [] = Unit {0}
AreRawMessages T room fs (s ∷ ss) (node t ∷ is) = IsRawMessage T room fs s 0 t × AreRawMessages T room fs ss is
AreRawMessages T room fs _ _ = ⊥
