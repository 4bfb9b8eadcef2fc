-- The entries of a map: each key once, by ascending key, with the value of its last entry (Protocol Buffers,
-- "Encoding": "Maps"). The order of keys is that of this project's normal form.
use Rattle.std.specs.Prelude.{ℕ, List, [], ◌∷◌}
use Rattle.std.specs.Ordering.{nat_cmp}
use Rattle.std.specs.declared.cmp.Ordering.{Ordering}
use Rattle.std.specs.declared.cmp.Ordering.TheVariants.{Less, Equal, Greater}
use Rattle.std.specs.Cmp.Lexicographic.{slice_cmp}
use Rattle.mrpc_table.specs.Node.{Item, number, run, node, Pairs, no_pairs, pair}
use Rattle.mrpc_table.specs.Words.{rank}
use Rattle.mrpc_table.specs.declared.table.Kind.{Kind}

-- a key as a list of numbers, which compare as numbers of the kind, or by bytes
abbrev pub key_code : Kind → Item → List ℕ
key_code k (number n) = 0 ∷ rank k n ∷ []
key_code k (run bytes) = 1 ∷ bytes
key_code k (node t) = 2 ∷ []

abbrev pub key_cmp : Kind → Item → Item → Ordering
key_cmp k i j = slice_cmp nat_cmp (key_code k i) (key_code k j)

-- a pair inserted in ascending order of keys; a pair with the same key is kept instead
abbrev pub with_pair : Kind → Item → Item → Pairs → Pairs
with_pair key k v no_pairs = pair k v no_pairs
with_pair key k v (pair l w ps) = elim (key_cmp key k l) [
  | Less ↦ pair k v (pair l w ps)
  | Equal ↦ pair l w ps
  | Greater ↦ pair l w (with_pair key k v ps)
]

-- each key once, by ascending key, with the value of its last entry
abbrev pub last_of_each : Kind → List (Item × Item) → Pairs
last_of_each key [] = no_pairs
last_of_each key (e ∷ es) = with_pair key e.0 e.1 (last_of_each key es)
