-- Entries of a map in the order of their keys.
use Rattle.std.proofs.Common.{◌≡◌, ◌≢◌, ℕ, ◌≤◌, List, [], ◌∷◌, false, true, refl, ap, sym, ◌∙◌, arith}
use Rattle.std.specs.List.{AllByRecursion}
use Rattle.std.specs.Ordering.{nat_cmp, ordering_then, ordering_reverse}
use Rattle.std.specs.declared.cmp.Ordering.{Ordering}
use Rattle.std.specs.declared.cmp.Ordering.TheVariants.{Less, Equal, Greater}
use Rattle.std.proofs.lemmas.Cmp.{nat_list_cmp_total, ranked}
use Rattle.mrpc_table.specs.Node.{Item, number, run, node, Pairs, no_pairs, pair}
use Rattle.mrpc_table.specs.Words.{rank, is_numeric, IsWordForm}
use Rattle.mrpc_table.specs.Normal.{IsRun, IsBefore, AreKeysAscendingFrom, AreKeysAscending, IsItem, ArePairs, item_depth, pairs_depth}
use Rattle.mrpc_table.specs.declared.table.Kind.{Kind}
use Rattle.mrpc_table.specs.declared.table.Kind.TheVariants.{Text, Octets, Message as OfMessage}
use Rattle.mrpc_table.specs.declared.table.Table.{Table}
use Rattle.mrpc_table.specs.MapEntries.{key_code, key_cmp, with_pair, last_of_each}

abbrev pub IsNoMessage : Kind → Type 0
IsNoMessage k = (i : ℕ) → k ≡ OfMessage i → ⊥

word-numeric : (k : Kind) (n : ℕ) → IsWordForm k n → is_numeric k ≡ true
word-numeric Text n h = absurd h
word-numeric Octets n h = absurd h
word-numeric (OfMessage i) n h = absurd h
word-numeric _ n h = refl

run-not_numeric : (k : Kind) (bytes : List ℕ) → IsRun k bytes → is_numeric k ≡ false
run-not_numeric Text bytes h = refl
run-not_numeric Octets bytes h = refl
run-not_numeric _ bytes h = absurd h

both-kinds : (k : Kind) (n : ℕ) (bytes : List ℕ) → IsWordForm k n → IsRun k bytes → ⊥
both-kinds k n bytes a b = let h : true ≡ false = sym (word-numeric k n a) ∙ run-not_numeric k bytes b in cc

then-less : (r : Ordering) → ordering_then r Equal ≡ Less → r ≡ Less
then-less Less h = refl
then-less Equal h = absurd (cc)
then-less Greater h = absurd (cc)

-- a key with a lesser code is before
key-before : (T : Table) (k : Kind) (i j : Item) → IsNoMessage k → IsItem T k i → IsItem T k j → key_cmp k i j ≡ Less → IsBefore k i j
key-before T k (number m) (number n) plain a b h = ranked (rank k m) (rank k n) Less (sym (then-less (nat_cmp (rank k m) (rank k n)) h))
key-before T k (run a) (run b) plain c d h = h
key-before T k (number m) (run b) plain c d h = absurd (both-kinds k m b c d)
key-before T k (run a) (number n) plain c d h = absurd (both-kinds k n a d c)
key-before T k (node t) j plain a b h = absurd (plain a.0 a.1)
key-before T k (number m) (node t) plain a b h = absurd (plain b.0 b.1)
key-before T k (run c) (node t) plain a b h = absurd (plain b.0 b.1)

key-flip : (k : Kind) (i j : Item) → key_cmp k i j ≡ Greater → key_cmp k j i ≡ Less
key-flip k i j h = nat_list_cmp_total.antisymm (key_code k j) (key_code k i) ∙ ap ordering_reverse h

-- a pair is inserted first, left out, or inserted after the first
put-go : (P : Pairs → Type 0) (i j l w : Item) (ps rest : Pairs) (r : Ordering)
    → (r ≡ Less → P (pair i j (pair l w ps))) → P (pair l w ps) → (r ≡ Greater → P (pair l w rest))
    → P (elim r [ Less ↦ pair i j (pair l w ps) | Equal ↦ pair l w ps | Greater ↦ pair l w rest ])
put-go P i j l w ps rest Less a b c = a refl
put-go P i j l w ps rest Equal a b c = b
put-go P i j l w ps rest Greater a b c = c refl

put-pairs : (T : Table) (key k : Kind) (i j : Item) (ps : Pairs) → IsItem T key i → IsItem T k j → ArePairs T key k ps → ArePairs T key k (with_pair key i j ps)
put-pairs T key k i j no_pairs a b h = (a, b, tt)
put-pairs T key k i j (pair l w ps) a b h =
    put-go (ArePairs T key k) i j l w ps (with_pair key i j ps) (key_cmp key i l) (λ e. (a, b, h)) h (λ e. (h.0, h.1, put-pairs T key k i j ps a b h.2))

put-depth : (key : Kind) (room : ℕ) (i j : Item) (ps : Pairs) → item_depth i ≤ room → item_depth j ≤ room
    → pairs_depth ps ≤ room → pairs_depth (with_pair key i j ps) ≤ room
put-depth key room i j no_pairs a b h = omega (arith, a, b)
put-depth key room i j (pair l w ps) a b h =
    put-go (λ qs. pairs_depth qs ≤ room) i j l w ps (with_pair key i j ps) (key_cmp key i l)
    (λ e. omega (arith, a, b, h)) h (λ e. omega (arith, h, put-depth key room i j ps a b (omega (arith, h))))

put-ascend_from : (T : Table) (key k : Kind) (last i j : Item) (ps : Pairs) → IsNoMessage key → IsItem T key i
    → ArePairs T key k ps → IsBefore key last i → AreKeysAscendingFrom key last ps → AreKeysAscendingFrom key last (with_pair key i j ps)
put-ascend_from T key k last i j no_pairs plain a h before up = (before, tt)
put-ascend_from T key k last i j (pair l w ps) plain a h before up =
    put-go (AreKeysAscendingFrom key last) i j l w ps (with_pair key i j ps) (key_cmp key i l)
    (λ e. (before, (key-before T key i l plain a h.0 e, up.1)))
    up
    (λ e. (up.0, put-ascend_from T key k l i j ps plain a h.2 (key-before T key l i plain h.0 a (key-flip key i l e)) up.1))

put-ascend : (T : Table) (key k : Kind) (i j : Item) (ps : Pairs) → IsNoMessage key → IsItem T key i
    → ArePairs T key k ps → AreKeysAscending key ps → AreKeysAscending key (with_pair key i j ps)
put-ascend T key k i j no_pairs plain a h up = tt
put-ascend T key k i j (pair l w ps) plain a h up =
    put-go (AreKeysAscending key) i j l w ps (with_pair key i j ps) (key_cmp key i l)
    (λ e. (key-before T key i l plain a h.0 e, up))
    up
    (λ e. put-ascend_from T key k l i j ps plain a h.2 (key-before T key l i plain h.0 a (key-flip key i l e)) up)

-- entries whose keys and values are each of their kinds
abbrev pub AreOfKinds : Table → Kind → Kind → List (Item × Item) → Type 0
AreOfKinds T key k es = AllByRecursion (λ e. IsItem T key e.0 × IsItem T k e.1) es

pub last-kinds : (T : Table) (key k : Kind) (es : List (Item × Item)) → AreOfKinds T key k es → ArePairs T key k (last_of_each key es)
last-kinds T key k [] h = tt
last-kinds T key k (e ∷ es) h = put-pairs T key k e.0 e.1 (last_of_each key es) h.0.0 h.0.1 (last-kinds T key k es h.1)

pub last-ascend : (T : Table) (key k : Kind) (es : List (Item × Item)) → IsNoMessage key → AreOfKinds T key k es → AreKeysAscending key (last_of_each key es)
last-ascend T key k [] plain h = tt
last-ascend T key k (e ∷ es) plain h = put-ascend T key k e.0 e.1 (last_of_each key es) plain h.0.0 (last-kinds T key k es h.1) (last-ascend T key k es plain h.1)

pub last-depth : (key : Kind) (room : ℕ) (es : List (Item × Item))
    → AllByRecursion (λ e. (item_depth e.0 ≤ room) × (item_depth e.1 ≤ room)) es
    → pairs_depth (last_of_each key es) ≤ room
last-depth key room [] h = omega arith
last-depth key room (e ∷ es) h = put-depth key room e.0 e.1 (last_of_each key es) h.0.0 h.0.1 (last-depth key room es h.1)

put-some : (key : Kind) (i j : Item) (ps : Pairs) → with_pair key i j ps ≢ no_pairs
put-some key i j no_pairs h = cc
put-some key i j (pair l w ps) h = put-go (λ qs. qs ≢ no_pairs) i j l w ps (with_pair key i j ps) (key_cmp key i l) (λ e q. cc) (λ q. cc) (λ e q. cc) h

pub last-some : (key : Kind) (e : Item × Item) (es : List (Item × Item)) → last_of_each key (e ∷ es) ≢ no_pairs
last-some key e es = put-some key e.0 e.1 (last_of_each key es)
