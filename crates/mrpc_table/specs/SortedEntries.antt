-- Entries of a map by their keys, sorted and without equal keys.
use Rattle.std.specs.Prelude.{◌≡◌, ◌≢◌, ℕ, ◌<◌, ◌≤◌, false, List, [], ◌∷◌, ◌++◌, length, slice_index_or}
use Rattle.std.specs.Ordering.{nat_cmp, is_lt}
use Rattle.std.specs.declared.cmp.Ordering.{Ordering}
use Rattle.std.specs.declared.cmp.Ordering.TheVariants.{Less, Equal}
use Rattle.std.specs.Cmp.Lexicographic.{slice_cmp}
use Rattle.mrpc_table.specs.Node.{Item}
use Rattle.mrpc_table.specs.View.{item_of}
use Rattle.mrpc_table.specs.declared.tree.Value.{Value}
use Rattle.mrpc_table.specs.declared.table.Kind.{Kind}
use Rattle.mrpc_table.specs.MapEntries.{key_code}

-- the data of an entry
abbrev pub items_of_entry : Value × Value → Item × Item
items_of_entry e = (item_of e.0, item_of e.1)

-- the code's own: the list by which entries are ordered, that of their key
abbrev pub entry_code : Kind → Value × Value → List ℕ
entry_code k e = key_code k (item_of e.0)

-- the code's own: how the keys of two entries compare
abbrev pub entry_cmp : Kind → Value × Value → Value × Value → Ordering
entry_cmp k e f = slice_cmp nat_cmp (entry_code k e) (entry_code k f)

-- the code's own: no key is below an earlier one
abbrev pub AreSorted : Kind → List (Value × Value) → Type 0
AreSorted k es = (i j : ℕ) (d : Value × Value) → i ≤ j → j < length es
    → is_lt (entry_cmp k (slice_index_or es j d) (slice_index_or es i d)) ≡ false

-- the code's own: an entry replaces the last one if that has its key, and else is appended
pub data IsEntryAdded (k : Kind) (old : List (Value × Value)) (e : Value × Value)
    (new : List (Value × Value)) : Type 0 where
  replaced : (front : List (Value × Value)) (l : Value × Value) → old ≡ front ++ l ∷ [] → entry_cmp k l e ≡ Equal
      → new ≡ front ++ e ∷ [] → IsEntryAdded k old e new
  appended : ((front : List (Value × Value)) (l : Value × Value) → old ≡ front ++ l ∷ [] → entry_cmp k l e ≢ Equal)
      → new ≡ old ++ e ∷ [] → IsEntryAdded k old e new

-- the code's own: each key is above the previous one
abbrev pub AreEntriesAscending : Kind → List (Value × Value) → Type 0
AreEntriesAscending k [] = Unit {0}
AreEntriesAscending k (e ∷ []) = Unit {0}
AreEntriesAscending k (e ∷ f ∷ fs) = (entry_cmp k e f ≡ Less) × AreEntriesAscending k (f ∷ fs)
