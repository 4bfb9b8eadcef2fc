-- The slot of a field, by its content.
use Rattle.std.proofs.Common.{◌≡◌, ◌≢◌, ℕ, ◌+◌, ◌*◌, ◌<◌, ◌≤◌, ◌^◌, false, cond, List, [], ◌∷◌, ◌++◌, length, Some}
use Rattle.std.proofs.Common.{None, refl, sym, ap, subst, ◌∙◌, arith}
use Rattle.std.specs.Ordering.{nat_cmp, ordering_then}
use Rattle.std.specs.declared.cmp.Ordering.TheVariants.{Less, Equal, Greater}
use Rattle.std.proofs.lemmas.Bool.{ne_eqb, true≢false, false≢true}
use Rattle.std.proofs.lemmas.Bool.Decides.{nat_tests}
use Rattle.mrpc_table.specs.Node.{Content, one, many, pairs, Item, number, run, node, Items, no_items, Pairs, no_pairs, pair}
use Rattle.mrpc_table.specs.Normal.{field_at, IsDefault, CanHaveOne, CanHaveMany, IsItem, AreItems, ArePairs, IsBefore, AreKeysAscendingFrom, AreKeysAscending, HasContent}
use Rattle.mrpc_table.specs.Valid.{IsField, IsLabelFor, IsMessageKind}
use Rattle.mrpc_table.specs.View.{items_of, pairs_of}
use Rattle.mrpc_table.specs.Words.{rank}
use Rattle.mrpc_table.specs.declared.table.Kind.{Kind}
use Rattle.mrpc_table.specs.declared.table.Kind.TheVariants.{Message as OfMessage}
use Rattle.mrpc_table.specs.declared.table.Label.{Label}
use Rattle.mrpc_table.specs.declared.table.Label.TheVariants.{Plain, Optional, Repeated, Packed, Map, Member}
use Rattle.mrpc_table.specs.declared.table.Field.{Field}
use Rattle.mrpc_table.specs.declared.table.Table.{Table}
use Rattle.mrpc_table.specs.declared.tree.Value.{Value}
use Rattle.mrpc_table.specs.MapEntries.{key_cmp, with_pair, last_of_each}
use Rattle.graph_form.specs.Roles.{expected_after, count, entry_count, elements_address, entries_address, plain_role, slot_role, is_member, element_words}
use Rattle.graph_form.specs.Placed.{Placed, Word, word}
use Rattle.graph_form.specs.Forgotten.{slot_content, plain_item, elements_at, entries_at}
use Rattle.graph_place.specs.Laid.{IsSlotOf, IsContentFor, listed, value_of}
use Rattle.graph_place.specs.Size.{many_words, pairs_words}
use Rattle.graph_place.proofs.Beginning.{Loads, word_put, word_wide}
use Rattle.graph_place.proofs.Fine.{fine_count, fine_entry_count}
use Rattle.graph_place.proofs.Lists.{many_are, pairs_are}
use Rattle.graph_place.proofs.Spelled.{PutsAt, PutsWordAt}
use Rattle.graph_place.proofs.Widths.{narrow}

-- ---- the possible contents of a field of a valid table

is_true_key : (T : Table) (oneofs : ℕ) (f : Field) (key : Kind) → IsField T oneofs f → f.label ≡ Map key → (m : ℕ) → key ≢ OfMessage m
is_true_key T oneofs f key is e m same =
    let goes : IsLabelFor oneofs (Map (OfMessage m)) f.kind = subst (λ k. IsLabelFor oneofs (Map k) f.kind) same (subst (λ l. IsLabelFor oneofs l f.kind) e is.label) in
    false≢true goes

pub content_holds : (T : Table) (oneofs : ℕ) (fs : List Field) (n : ℕ) (f : Field) (c : Content) → IsField T oneofs f
    → field_at fs n ≡ Some f → HasContent T fs n c → IsContentFor T f.label f.kind c
content_holds T oneofs fs n f (one i) is at h =
    let e : h.0 ≡ f = (let s : Some h.0 ≡ Some f = sym h.1 ∙ at in cc) in (
      (subst (λ g. CanHaveOne g.label i) e h.2, subst (λ g. IsItem T g.kind i) e h.3),
      λ label m same. subst (λ k. IsMessageKind k → ⊥) same (subst (λ l. IsLabelFor oneofs l f.kind) label is.label) tt,
    )
content_holds T oneofs fs n f (many is) field_is at h =
    let e : h.0 ≡ f = (let s : Some h.0 ≡ Some f = sym h.1 ∙ at in cc) in
    (subst (λ g. CanHaveMany g.label) e h.2, h.3, subst (λ g. AreItems T g.kind is) e h.4)
content_holds T oneofs fs n f (pairs ps) is at h =
    let e : h.0 ≡ f = (let s : Some h.0 ≡ Some f = sym h.2 ∙ at in cc) in
    let label : f.label ≡ Map h.1 = ap (λ g. g.label) (sym e) ∙ h.3 in
    (h.1, label, is_true_key T oneofs f h.1 is label, h.4, subst (λ g. ArePairs T h.1 g.kind ps) e h.5, h.6)

-- ---- entries whose keys ascend are kept

less_cmp : (m n : ℕ) → m < n → nat_cmp m n ≡ Less
less_cmp m n h = grind (arith, nat_tests)

before_cmp : (k : Kind) (i j : Item) → IsBefore k i j → key_cmp k i j ≡ Less
before_cmp k (number m) (number n) h = ap (λ r. ordering_then r Equal) (less_cmp (rank k m) (rank k n) h)
before_cmp k (run a) (run b) h = h
before_cmp k (number m) (run b) h = absurd h
before_cmp k (number m) (node t) h = absurd h
before_cmp k (run a) (number n) h = absurd h
before_cmp k (run a) (node t) h = absurd h
before_cmp k (node t) j h = absurd h

put_first : (key : Kind) (i j : Item) (ps : Pairs) → AreKeysAscendingFrom key i ps → with_pair key i j ps ≡ pair i j ps
put_first key i j no_pairs h = refl
put_first key i j (pair l w ps) h =
    ap (λ r. elim r [ Less ↦ pair i j (pair l w ps) | Equal ↦ pair l w ps | Greater ↦ pair l w (with_pair key i j ps) ]) (before_cmp key i l h.0)

ascend_tail : (k : Kind) (i : Item) (ps : Pairs) → AreKeysAscendingFrom k i ps → AreKeysAscending k ps
ascend_tail k i no_pairs h = tt
ascend_tail k i (pair l w ps) h = h.1

last_kept : (key : Kind) (ps : Pairs) → AreKeysAscending key ps → last_of_each key (listed ps) ≡ ps
last_kept key no_pairs h = refl
last_kept key (pair i j ps) h = ap (with_pair key i j) (last_kept key ps (ascend_tail key i ps h)) ∙ put_first key i j ps h

-- ---- slots

plain_says : (T : Table) (k : Kind) (w : Word) → value_of w ≢ 0 → slot_content T Plain k w ≡ Some (one (plain_item T k w))
plain_says T (OfMessage m) (word p v P) some = ap (λ b. cond b None (Some (one (plain_item T (OfMessage m) (word p v P))))) (ne_eqb v 0 some)
plain_says T k (word p v P) some = ap (λ b. cond b None (Some (one (plain_item T k (word p v P))))) (ne_eqb v 0 some)

plain_label : (l : Label) (i : Item) → is_member l ≡ false → l ≢ Optional → CanHaveOne l i → l ≡ Plain
plain_label Plain i fails other takes = refl
plain_label Optional i fails other takes = absurd (other refl)
plain_label Repeated i fails other takes = absurd takes
plain_label Packed i fails other takes = absurd takes
plain_label (Map key) i fails other takes = absurd takes
plain_label (Member o) i fails other takes = absurd (true≢false fails)

pub slot_plain : (T : Table) (H : ℕ) (l : Label) (k : Kind) (level place : ℕ) (i : Item) (c d : ℕ) (before next : Loads) → is_member l ≡ false → l ≢ Optional → CanHaveOne l i
    → PutsWordAt T H (plain_role k level false, place) (place + element_words k) c d before next (IsSlotOf T k i)
    → PutsWordAt T H (slot_role l k level, place) (place + 2) c d before next (λ w. slot_content T l k w ≡ Some (one i))
slot_plain T H l k level place i c d before next fails other takes puts =
    let plain = plain_label l i fails other takes in
    let some : IsDefault i → ⊥ = subst (λ x. CanHaveOne x i) plain takes in
    let wide = narrow k in
    let whole : PutsWordAt T H (plain_role k level false, place) (place + 2) c d before next (λ w. slot_content T Plain k w ≡ Some (one i))
    = word_wide T H (plain_role k level false, place) (place + element_words k) (place + 2) c d before next
    (IsSlotOf T k i) (λ w. slot_content T Plain k w ≡ Some (one i)) (omega (arith, wide)) puts
    (λ w holds. plain_says T k w (holds.some some) ∙ ap (λ j. Some (one j)) holds.item) in
    subst (λ x. PutsWordAt T H (slot_role x k level, place) (place + 2) c d before next (λ w. slot_content T x k w ≡ Some (one i))) (sym plain) whole

-- elements after their count
count_behind : (T : Table) (k : Kind) (level p n : ℕ) → n ≢ 0 → expected_after T (count k level) p n ≡ (elements_address k n level, p + 1) ∷ []
count_behind T k level p n some = ap (λ b. cond b [] ((elements_address k n level, p + 1) ∷ [])) (ne_eqb n 0 some)

some_items : (vs : List Value) → items_of vs ≢ no_items → length vs ≢ 0
some_items [] some e = some refl
some_items (v ∷ vs) some e = omega (arith, e)

some_pairs : (es : List (Value × Value)) → pairs_of es ≢ no_pairs → length es ≢ 0
some_pairs [] some e = some refl
some_pairs (x ∷ es) some e = omega (arith, e)

many_says : (T : Table) (k : Kind) (p v : ℕ) (P : Placed) (is : Items) → v ≢ 0 → elements_at T k P ≡ is → slot_content T Repeated k (word p v P) ≡ Some (many is)
many_says T k p v P is some made = ap (λ b. cond b None (Some (many (elements_at T k P)))) (ne_eqb v 0 some) ∙ ap (λ x. Some (many x)) made

repeated_put : (T : Table) (H : ℕ) (k : Kind) (level place : ℕ) (vs : List Value) (c d : ℕ) (before mid next : Loads)
    → items_of vs ≢ no_items → length vs < 2 ^ 64 → place + 2 ≤ c → d ≡ c + many_words T k (items_of vs) → d ≤ H
    → mid ≡ before ++ (place, length vs) ∷ []
    → PutsAt T H ((elements_address k (length vs) level, place + 1) ∷ []) (place + 1) (place + 1 + 1) c d mid next (λ P. elements_at T k P ≡ items_of vs)
    → PutsWordAt T H (count k level, place) (place + 2) c d before next (λ w. slot_content T Repeated k w ≡ Some (many (items_of vs)))
repeated_put T H k level place vs c d before mid next some small slot size within put puts =
    let two : place + 1 + 1 ≡ place + 2 = omega arith in
    let there = some_items vs some in
    let sum = many_are T k vs in
    let few : length vs * element_words k < H = omega (arith, sum, size, within, slot) in
    word_put T H (count k level) place (length vs) (place + 2) c d before mid next
    (λ P. elements_at T k P ≡ items_of vs) (λ w. slot_content T Repeated k w ≡ Some (many (items_of vs)))
    (omega arith) slot (omega (arith, size)) small
    (fine_count T H k level (length vs) few) put
    (subst (λ es. PutsAt T H es (place + 1) (place + 2) c d mid next (λ P. elements_at T k P ≡ items_of vs)) (sym (count_behind T k level place (length vs) there))
    (subst (λ b. PutsAt T H ((elements_address k (length vs) level, place + 1) ∷ []) (place + 1) b c d mid next (λ P. elements_at T k P ≡ items_of vs)) two puts))
    (λ P made. many_says T k place (length vs) P (items_of vs) there made)

packed_same : (T : Table) (k : Kind) (c : Content) (w : Word) → slot_content T Repeated k w ≡ Some c → slot_content T Packed k w ≡ Some c
packed_same T k c (word p v P) made = made

pub slot_many : (T : Table) (H : ℕ) (l : Label) (k : Kind) (level place : ℕ) (vs : List Value) (c d : ℕ)
    (before mid next : Loads) → CanHaveMany l → items_of vs ≢ no_items → length vs < 2 ^ 64 → place + 2 ≤ c
    → d ≡ c + many_words T k (items_of vs) → d ≤ H
    → mid ≡ before ++ (place, length vs) ∷ []
    → PutsAt T H ((elements_address k (length vs) level, place + 1) ∷ []) (place + 1) (place + 1 + 1) c d mid next (λ P. elements_at T k P ≡ items_of vs)
    → PutsWordAt T H (slot_role l k level, place) (place + 2) c d before next (λ w. slot_content T l k w ≡ Some (many (items_of vs)))
slot_many T H Repeated k level place vs c d before mid next takes some small slot size within put puts =
    repeated_put T H k level place vs c d before mid next some small slot size within put puts
slot_many T H Packed k level place vs c d before mid next takes some small slot size within put puts =
    let whole = repeated_put T H k level place vs c d before mid next some small slot size within put puts in
    word_wide T H (count k level, place) (place + 2) (place + 2) c d before next (λ w. slot_content T Repeated k w
    ≡ Some (many (items_of vs))) (λ w. slot_content T Packed k w ≡ Some (many (items_of vs))) (omega arith) whole
    (packed_same T k (many (items_of vs)))
slot_many T H Plain k level place vs c d before mid next takes some small slot size within put puts = absurd takes
slot_many T H Optional k level place vs c d before mid next takes some small slot size within put puts = absurd takes
slot_many T H (Map key) k level place vs c d before mid next takes some small slot size within put puts = absurd takes
slot_many T H (Member o) k level place vs c d before mid next takes some small slot size within put puts = absurd takes

-- entries after their count
entries_behind : (T : Table) (key k : Kind) (level p n : ℕ) → n ≢ 0 → expected_after T (entry_count key k level) p n ≡ (entries_address key k n level, p + 1) ∷ []
entries_behind T key k level p n some = ap (λ b. cond b [] ((entries_address key k n level, p + 1) ∷ [])) (ne_eqb n 0 some)

pairs_say : (T : Table) (key k : Kind) (p v : ℕ) (P : Placed) (ps : Pairs) → v ≢ 0 → AreKeysAscending key ps
    → entries_at T key k P ≡ listed ps → slot_content T (Map key) k (word p v P) ≡ Some (pairs ps)
pairs_say T key k p v P ps some up made =
    ap (λ b. cond b None (Some (pairs (last_of_each key (entries_at T key k P))))) (ne_eqb v 0 some)
    ∙ ap (λ es. Some (pairs (last_of_each key es))) made ∙ ap (λ x. Some (pairs x)) (last_kept key ps up)

pub slot_pairs : (T : Table) (H : ℕ) (l : Label) (key k : Kind) (level place : ℕ) (es : List (Value × Value))
    (c d : ℕ) (before mid next : Loads) → l ≡ Map key → pairs_of es ≢ no_pairs → AreKeysAscending key (pairs_of es)
    → length es < 2 ^ 64 → place + 2 ≤ c
    → d ≡ c + pairs_words T k (pairs_of es) → d ≤ H
    → mid ≡ before ++ (place, length es) ∷ []
    → PutsAt T H ((entries_address key k (length es) level, place + 1) ∷ []) (place + 1) (place + 1 + 1) c d mid next (λ P. entries_at T key k P ≡ listed (pairs_of es))
    → PutsWordAt T H (slot_role l k level, place) (place + 2) c d before next (λ w. slot_content T l k w ≡ Some (pairs (pairs_of es)))
slot_pairs T H l key k level place es c d before mid next label some up small slot size within put puts =
    let two : place + 1 + 1 ≡ place + 2 = omega arith in
    let there = some_pairs es some in
    let sum = pairs_are T k es in
    let few : 4 * length es < H = omega (arith, sum, size, within, slot) in
    let whole : PutsWordAt T H (entry_count key k level, place) (place + 2) c d before next (λ w. slot_content T (Map key) k w ≡ Some (pairs (pairs_of es)))
    = word_put T H (entry_count key k level) place (length es) (place + 2) c d before mid next
    (λ P. entries_at T key k P ≡ listed (pairs_of es)) (λ w. slot_content T (Map key) k w
    ≡ Some (pairs (pairs_of es))) (omega arith) slot (omega (arith, size)) small
    (fine_entry_count T H key k level (length es) few) put
    (subst (λ xs. PutsAt T H xs (place + 1) (place + 2) c d mid next (λ P. entries_at T key k P ≡ listed (pairs_of es))) (sym (entries_behind T key k level place (length es) there))
    (subst (λ b. PutsAt T H ((entries_address key k (length es) level, place + 1) ∷ []) (place + 1) b c d mid next (λ P. entries_at T key k P ≡ listed (pairs_of es))) two puts))
    (λ P made. pairs_say T key k place (length es) P (pairs_of es) there up made) in
    subst (λ x. PutsWordAt T H (slot_role x k level, place) (place + 2) c d before next (λ w. slot_content T x k w ≡ Some (pairs (pairs_of es)))) (sym label) whole
