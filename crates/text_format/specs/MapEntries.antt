-- The code's own: the two entries between the lines of a map's entry.
use Rattle.std.specs.Prelude.{◌≡◌, ℕ, List, ◌++◌, codes}
use Rattle.mrpc_table.specs.Node.{Item}
use Rattle.mrpc_table.specs.declared.table.Kind.{Kind}
use Rattle.mrpc_table.specs.declared.table.Table.{Table}
use Rattle.text_format.specs.Entries.{IsTextOfItem}

-- the entries of a key and of its value, in this order
abbrev pub IsTextOfPair : Table → Kind → Kind → ℕ → Item → Item → List ℕ → Type 0
IsTextOfPair T key k deep i j text = (keys : List ℕ) × (values : List ℕ) × IsTextOfItem T (codes "key") key deep i keys
    × IsTextOfItem T (codes "value") k deep j values × (text ≡ keys ++ values)
