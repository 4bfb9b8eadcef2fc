-- The entries that are kept of a map have at most the bytes of all its entries.
use Rattle.std.proofs.Common.{◌≡◌, ℕ, ◌+◌, ◌≤◌, List, [], ◌∷◌, ◌++◌, length, arith, length-append}
use Rattle.std.specs.declared.cmp.Ordering.{Ordering}
use Rattle.std.specs.declared.cmp.Ordering.TheVariants.{Less, Equal, Greater}
use Rattle.mrpc_table.specs.Node.{Item, Pairs, no_pairs, pair}
use Rattle.mrpc_table.specs.declared.table.Kind.{Kind}
use Rattle.mrpc_table.specs.declared.table.Table.{Table}
use Rattle.mrpc_table.specs.MapEntries.{key_cmp, with_pair, last_of_each}
use Rattle.wire_base.specs.Encoding.{tag, delimited, item_bytes, entries_bytes}
use Rattle.mrpc_table.specs.WireTypes.{wire_len, wire_type_of}

-- the record of an entry
abbrev pub entry_payload : Table → Kind → Kind → Item → Item → List ℕ
entry_payload T key k i j = (tag 1 (wire_type_of key) ++ item_bytes T key i) ++ (tag 2 (wire_type_of k) ++ item_bytes T k j)

abbrev pub entry_bytes : Table → ℕ → Kind → Kind → Item → Item → List ℕ
entry_bytes T n key k i j = tag n wire_len ++ delimited (entry_payload T key k i j)

-- the number of bytes of the records of all entries
abbrev pub all_bytes : Table → ℕ → Kind → Kind → List (Item × Item) → ℕ
all_bytes T n key k [] = 0
all_bytes T n key k (e ∷ es) = length (entry_bytes T n key k e.0 e.1) + all_bytes T n key k es

pair-bytes : (T : Table) (n : ℕ) (key k : Kind) (i j : Item) (ps : Pairs)
    → length (entries_bytes T n key k (pair i j ps)) ≡ length (entry_bytes T n key k i j)
    + length (entries_bytes T n key k ps)
pair-bytes T n key k i j ps = length-append (entry_bytes T n key k i j) (entries_bytes T n key k ps)

with-go : (T : Table) (n : ℕ) (key k : Kind) (i j l w : Item) (ps rest : Pairs) (o : Ordering)
    → length (entries_bytes T n key k rest) ≤ length (entry_bytes T n key k i j) + length (entries_bytes T n key k ps)
    → length (entries_bytes T n key k
    (elim o [ Less ↦ pair i j (pair l w ps) | Equal ↦ pair l w ps | Greater ↦ pair l w rest ]))
    ≤ length (entry_bytes T n key k i j) + length (entries_bytes T n key k (pair l w ps))
with-go T n key k i j l w ps rest Less h = let e = pair-bytes T n key k i j (pair l w ps) in omega (arith, e)
with-go T n key k i j l w ps rest Equal h = omega arith
with-go T n key k i j l w ps rest Greater h =
    let a = pair-bytes T n key k l w rest in
    let b = pair-bytes T n key k l w ps in
    omega (arith, a, b, h)

with-short : (T : Table) (n : ℕ) (key k : Kind) (i j : Item) (ps : Pairs)
    → length (entries_bytes T n key k (with_pair key i j ps)) ≤ length (entry_bytes T n key k i j)
    + length (entries_bytes T n key k ps)
with-short T n key k i j no_pairs = let e = pair-bytes T n key k i j no_pairs in omega (arith, e)
with-short T n key k i j (pair l w ps) = with-go T n key k i j l w ps (with_pair key i j ps) (key_cmp key i l) (with-short T n key k i j ps)

pub kept-short : (T : Table) (n : ℕ) (key k : Kind) (es : List (Item × Item)) → length (entries_bytes T n key k (last_of_each key es)) ≤ all_bytes T n key k es
kept-short T n key k [] = omega arith
kept-short T n key k (e ∷ es) =
    let a = with-short T n key k e.0 e.1 (last_of_each key es) in
    let b = kept-short T n key k es in
    omega (arith, a, b)
