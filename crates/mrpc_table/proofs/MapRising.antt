-- Entries whose keys ascend are kept as they are.
use Rattle.std.proofs.Common.{◌≡◌, ℕ, zero, suc, ◌<◌, List, [], ◌∷◌, length, get_or, map, refl, ap, sym, ◌∙◌, arith}
use Rattle.std.specs.declared.cmp.Ordering.TheVariants.{Less, Equal, Greater}
use Rattle.mrpc_table.specs.Node.{Item, Pairs, pair}
use Rattle.mrpc_table.specs.View.{item_of, pairs_of}
use Rattle.mrpc_table.specs.declared.tree.Value.{Value}
use Rattle.mrpc_table.specs.declared.table.Kind.{Kind}
use Rattle.mrpc_table.specs.MapEntries.{key_cmp, with_pair, last_of_each}
use Rattle.mrpc_table.specs.SortedEntries.{items_of_entry, entry_cmp, AreEntriesAscending}

put-less : (key : Kind) (k v l w : Item) (ps : Pairs) → key_cmp key k l ≡ Less → with_pair key k v (pair l w ps) ≡ pair k v (pair l w ps)
put-less key k v l w ps h = ap (λ r. elim r [ Less ↦ pair k v (pair l w ps) | Equal ↦ pair l w ps | Greater ↦ pair l w (with_pair key k v ps) ]) h

pub rise-kept : (k : Kind) (es : List (Value × Value)) → AreEntriesAscending k es → pairs_of es ≡ last_of_each k (map items_of_entry es)
rise-kept k [] h = refl
rise-kept k (e ∷ []) h = refl
rise-kept k (e ∷ f ∷ fs) h =
    sym (ap (with_pair k (item_of e.0) (item_of e.1)) (sym (rise-kept k (f ∷ fs) h.1))
    ∙ put-less k (item_of e.0) (item_of e.1) (item_of f.0) (item_of f.1) (pairs_of fs) h.0)

-- the keys ascend, index by index
abbrev pub RiseBelow : Kind → List (Value × Value) → ℕ → Type 0
RiseBelow k es n = (i j : ℕ) (d : Value × Value) → j ≡ suc i → j < n → entry_cmp k (get_or es i d) (get_or es j d) ≡ Less

pub rise-all : (k : Kind) (es : List (Value × Value)) → RiseBelow k es (length es) → AreEntriesAscending k es
rise-all k [] h = tt
rise-all k (e ∷ []) h = tt
rise-all k (e ∷ f ∷ fs) h =
    (h zero (suc zero) e refl (omega arith), rise-all k (f ∷ fs) (λ i j d next within. h (suc i) (suc j) d (ap suc next) (omega (arith, within))))
