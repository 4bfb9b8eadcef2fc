-- The encoding of a normal tree means that tree.
use Rattle.std.proofs.Common.{◌≡◌, ◌≢◌, ℕ, zero, suc, ◌^◌, ◌<◌, ◌≤◌, List, [], ◌∷◌, length, map, Some, None, Bool}
use Rattle.std.proofs.Common.{true, false, cond, refl, ap, sym, subst, ◌∙◌, arith, append-nil, ⊎_elim, unwrap_or}
use Rattle.std.proofs.lemmas.Bool.{eqb-true, cases_lt}
use Rattle.std.proofs.lemmas.Bool.Decides.{nat_tests, eqb_tells}
use Rattle.std.specs.Ordering.{nat_cmp, ordering_then}
use Rattle.std.specs.declared.cmp.Ordering.TheVariants.{Less, Equal, Greater}
use Rattle.mrpc_table.specs.Node.{Node, no_fields, field, Content, one, many, pairs, Item, number, run, node, Items, no_items, item, Pairs, no_pairs, pair}
use Rattle.mrpc_table.specs.Words.{is_numeric, rank, key_kind, nested_message}
use Rattle.mrpc_table.specs.Normal.{fields_of, field_at, IsDefault, IsBefore, AreKeysAscendingFrom, AreKeysAscending, CanHaveOne, label_at}
use Rattle.mrpc_table.specs.Normal.{CanHaveMany, HasFields, HasContent, IsItem, AreItems, ArePairs, IsNormal, depth}
use Rattle.mrpc_table.specs.Normal.{content_depth, item_depth, items_depth, pairs_depth, kind_at}
use Rattle.mrpc_table.specs.NormalParts.{IsNormalWithin}
use Rattle.mrpc_table.specs.declared.table.Kind.{Kind}
use Rattle.mrpc_table.specs.declared.table.Kind.TheVariants.{Message as OfMessage}
use Rattle.mrpc_table.specs.declared.table.Label.{Label}
use Rattle.mrpc_table.specs.declared.table.Label.TheVariants.{Plain, Optional, Repeated, Packed, Map, Member}
use Rattle.mrpc_table.specs.declared.table.Field.{Field}
use Rattle.mrpc_table.specs.declared.table.Table.{Table}
use Rattle.wire_base.specs.Encoding.{is_packed, encoding}
use Rattle.wire_decode.specs.RawMessages.{IsRawMessage, read_end}
use Rattle.wire_decode.specs.Known.{is_message_kind}
use Rattle.wire_decode.specs.MergedMessage.{IsMergedMessage}
use Rattle.mrpc_table.specs.MapEntries.{key_cmp, with_pair, last_of_each}
use Rattle.wire_decode.specs.Merged.{contents_of, list_of_items, values_in, join_fields}
use Rattle.wire_decode.specs.Contents.{items_from, is_default_item}
use Rattle.wire_decode.specs.Contents.{default_item_of, present, present_if_set, some_items}
use Rattle.wire_decode.specs.Merged.{singular, merged_element, part_of_entry, merged_entry}
use Rattle.wire_decode.specs.Contents.{some_pairs, with_content}
use Rattle.wire_decode.specs.Merged.{field_content, with_fields, merged}
use Rattle.wire_decode.proofs.WireLaws.{ReadsBack}
use Rattle.wire_decode.proofs.Adding.{contents-here}
use Rattle.wire_decode.proofs.Reading.{join-none}
use Rattle.wire_decode.proofs.Merging.{field-later, element-same, singular-one, content-none, fields-empty, merged-suc}
use Rattle.wire_decode.proofs.Plainness.{word-plain, run-plain}
use Rattle.wire_decode.proofs.UsableTables.{AreFieldsFrom, IsUsableTable, IsRest, rest-start, rest-first, rest-more, at-none}
use Rattle.wire_decode.proofs.RawTree.{raw_fields, raw_content, raw_item, raw_records, raw_entries}
use Rattle.wire_decode.proofs.Stands.{stands-whole}
use Rattle.wire_decode.proofs.EncodedReads.{found-field, is-packed, kind-found, label-found, fields-reads, depth-positive, raw_entry}
use Rattle.wire_decode.proofs.EncodedCounts.{field-of, none-below, contents-first, contents-later, counted-raw}

-- how nested messages are merged
record Inner (T : Table) (room : ℕ) (inner : ℕ → Node → Node) : Type 0 where
  each : (inside i : ℕ) (t : Node) → room ≡ suc inside → IsNormalWithin T i room t → inner i (raw_fields T (fields_of T i) t) ≡ t

numeric-plain : (k : Kind) → is_numeric k ≡ true → is_message_kind k ≡ false
numeric-plain (OfMessage i) h = absurd (cc)
numeric-plain _ h = refl

-- a value is read back
item-back : (T : Table) (room : ℕ) (inner : ℕ → Node → Node) (k : Kind) (i : Item) → Inner T room inner → IsItem T k i
    → item_depth i ≤ suc room → merged_element inner k (raw_item T k i) ≡ i
item-back T room inner k (number n) back h d = element-same inner k (number n) (word-plain k n h)
item-back T room inner k (run bytes) back h d = element-same inner k (run bytes) (run-plain k bytes h)
item-back T zero inner k (node t) back h d = absurd (let p = depth-positive t in omega (arith, d, p))
item-back T (suc inside) inner k (node t) back h d =
    let m = h.0 in
    let same : nested_message k ≡ m = ap nested_message h.1 in
    let raw = raw_fields T (fields_of T m) t in
    let whole : inner m raw ≡ t = back.each inside m t refl (record { fields = h.2; oneofs = h.3; depth = omega (arith, d) }) in
    ap (λ x. merged_element inner x (node (raw_fields T (fields_of T (nested_message k)) t))) h.1
    ∙ ap (λ x. node (inner m (join_fields (raw_fields T (fields_of T x) t) no_fields))) same
    ∙ ap (λ x. node (inner m x)) (join-none raw)
    ∙ ap node whole

default-tells : (i : Item) → is_default_item i ≡ true → IsDefault i
default-tells (number n) h = eqb-true n 0 h
default-tells (run []) h = refl
default-tells (run (b ∷ bs)) h = absurd (cc)
default-tells (node t) h = absurd (cc)

set-go : (i : Item) (b : Bool) → is_default_item i ≡ b → (IsDefault i → ⊥) → cond b None (Some (one i)) ≡ Some (one i)
set-go i true e h = absurd (h (default-tells i e))
set-go i false e h = refl

one-back : (inner : ℕ → Node → Node) (label : Label) (k : Kind) (i j : Item) → CanHaveOne label i
    → merged_element inner k j ≡ i → field_content inner label k (one j ∷ []) ≡ Some (one i)
one-back inner Plain k i j takes e = ap present_if_set (singular-one inner k j ∙ ap Some e) ∙ set-go i (is_default_item i) refl takes
one-back inner Optional k i j takes e = ap present (singular-one inner k j ∙ ap Some e)
one-back inner (Member o) k i j takes e = ap present (singular-one inner k j ∙ ap Some e)
one-back inner Repeated k i j takes e = absurd takes
one-back inner Packed k i j takes e = absurd takes
one-back inner (Map key) k i j takes e = absurd takes

-- a list is read back
items-back : (is : Items) → items_from (list_of_items is) ≡ is
items-back no_items = refl
items-back (item i is) = ap (item i) (items-back is)

some-back : (is : Items) → is ≢ no_items → some_items (list_of_items is) ≡ Some (many is)
some-back no_items h = absurd (h refl)
some-back (item i is) h = ap (λ x. Some (many (item i x))) (items-back is)

list-back : (inner : ℕ → Node → Node) (label : Label) (k : Kind) (cs : List Content) (is : Items) → CanHaveMany label
    → is ≢ no_items → map (merged_element inner k) (values_in cs) ≡ list_of_items is
    → field_content inner label k cs ≡ Some (many is)
list-back inner Repeated k cs is takes some e = ap some_items e ∙ some-back is some
list-back inner Packed k cs is takes some e = ap some_items e ∙ some-back is some
list-back inner Plain k cs is takes some e = absurd takes
list-back inner Optional k cs is takes some e = absurd takes
list-back inner (Member o) k cs is takes some e = absurd takes
list-back inner (Map key) k cs is takes some e = absurd takes

plain-list : (inner : ℕ → Node → Node) (k : Kind) (is : List Item) → is_message_kind k ≡ false → map (merged_element inner k) is ≡ is
plain-list inner k [] h = refl
plain-list inner k (i ∷ is) h = ap (λ x. x ∷ map (merged_element inner k) is) (element-same inner k i h) ∙ ap (λ xs. i ∷ xs) (plain-list inner k is h)

records-back : (T : Table) (room : ℕ) (inner : ℕ → Node → Node) (n : ℕ) (k : Kind) (is : Items) → Inner T room inner
    → AreItems T k is → items_depth is ≤ suc room
    → map (merged_element inner k) (values_in (contents_of n (raw_records T n k is))) ≡ list_of_items is
records-back T room inner n k no_items back h d = refl
records-back T room inner n k (item i is) back h d =
    ap (λ cs. map (merged_element inner k) (values_in cs)) (contents-here n (one (raw_item T k i)) (raw_records T n k is))
    ∙ ap (λ x. x ∷ map (merged_element inner k) (values_in (contents_of n (raw_records T n k is)))) (item-back T room inner k i back h.0 (omega (arith, d)))
    ∙ ap (λ xs. i ∷ xs) (records-back T room inner n k is back h.1 (omega (arith, d)))

piece-back : (inner : ℕ → Node → Node) (n : ℕ) (k : Kind) (is : Items) → is_message_kind k ≡ false
    → map (merged_element inner k) (values_in (contents_of n (field n (many is) no_fields))) ≡ list_of_items is
piece-back inner n k is plain =
    ap (λ cs. map (merged_element inner k) (values_in cs)) (contents-here n (many is) no_fields)
    ∙ ap (map (merged_element inner k)) (append-nil (list_of_items is)) ∙ plain-list inner k (list_of_items is) plain

many-back : (inner : ℕ → Node → Node) (n : ℕ) (k : Kind) (is : Items) (b : Bool) (t : Node)
    → (b ≡ true → is_message_kind k ≡ false) → map (merged_element inner k) (values_in (contents_of n t)) ≡ list_of_items is
    → map (merged_element inner k) (values_in (contents_of n (cond b (field n (many is) no_fields) t))) ≡ list_of_items is
many-back inner n k is true t plain rest = piece-back inner n k is (plain refl)
many-back inner n k is false t plain rest = rest

-- a map is read back
abbrev pairs_in : Pairs → List (Item × Item)
pairs_in no_pairs = []
pairs_in (pair i j ps) = (i, j) ∷ pairs_in ps

part-back : (inner : ℕ → Node → Node) (k : Kind) (i j : Item) → merged_element inner k j ≡ i → unwrap_or (singular inner k (j ∷ [])) (default_item_of k) ≡ i
part-back inner k i j e = ap (λ o. unwrap_or o (default_item_of k)) (singular-one inner k j) ∙ e

entry-back : (T : Table) (inner : ℕ → Node → Node) (key k : Kind) (i j : Item)
    → merged_element inner key (raw_item T key i) ≡ i → merged_element inner k (raw_item T k j) ≡ j
    → merged_entry inner key k (node (raw_entry T key k i j)) ≡ (i, j)
entry-back T inner key k i j first second =
    let p : part_of_entry inner 1 key (raw_entry T key k i j) ≡ i = part-back inner key i (raw_item T key i) first in
    let q : part_of_entry inner 2 k (raw_entry T key k i j) ≡ j = part-back inner k j (raw_item T k j) second in
    λ x. (p x, q x)

entries-back : (T : Table) (room : ℕ) (inner : ℕ → Node → Node) (n : ℕ) (key k : Kind) (ps : Pairs)
    → Inner T room inner → ArePairs T key k ps → pairs_depth ps ≤ suc room
    → map (merged_entry inner key k) (values_in (contents_of n (raw_entries T n key k ps))) ≡ pairs_in ps
entries-back T room inner n key k no_pairs back h d = refl
entries-back T room inner n key k (pair i j ps) back h d =
    let raw = raw_entries T n key k ps in
    ap (λ cs. map (merged_entry inner key k) (values_in cs)) (contents-here n (one (node (raw_entry T key k i j))) raw)
    ∙ ap (λ x. x ∷ map (merged_entry inner key k) (values_in (contents_of n raw)))
    (entry-back T inner key k i j (item-back T room inner key i back h.0 (omega (arith, d)))
    (item-back T room inner k j back h.1 (omega (arith, d))))
    ∙ ap (λ xs. (i, j) ∷ xs) (entries-back T room inner n key k ps back h.2 (omega (arith, d)))

less-cmp : (m n : ℕ) → m < n → nat_cmp m n ≡ Less
less-cmp m n h = grind (arith, nat_tests)

before-cmp : (k : Kind) (i j : Item) → IsBefore k i j → key_cmp k i j ≡ Less
before-cmp k (number m) (number n) h = ap (λ r. ordering_then r Equal) (less-cmp (rank k m) (rank k n) h)
before-cmp k (run a) (run b) h = h
before-cmp k (number m) (run b) h = absurd h
before-cmp k (number m) (node t) h = absurd h
before-cmp k (run a) (number n) h = absurd h
before-cmp k (run a) (node t) h = absurd h
before-cmp k (node t) j h = absurd h

put-first : (key : Kind) (i j : Item) (ps : Pairs) → AreKeysAscendingFrom key i ps → with_pair key i j ps ≡ pair i j ps
put-first key i j no_pairs h = refl
put-first key i j (pair l w ps) h =
    ap (λ r. elim r [ Less ↦ pair i j (pair l w ps) | Equal ↦ pair l w ps | Greater ↦ pair l w (with_pair key i j ps) ]) (before-cmp key i l h.0)

ascend-tail : (k : Kind) (i : Item) (ps : Pairs) → AreKeysAscendingFrom k i ps → AreKeysAscending k ps
ascend-tail k i no_pairs h = tt
ascend-tail k i (pair l w ps) h = h.1

last-back : (key : Kind) (ps : Pairs) → AreKeysAscending key ps → last_of_each key (pairs_in ps) ≡ ps
last-back key no_pairs h = refl
last-back key (pair i j ps) h = ap (with_pair key i j) (last-back key ps (ascend-tail key i ps h)) ∙ put-first key i j ps h

pairs-back : (ps : Pairs) → ps ≢ no_pairs → some_pairs ps ≡ Some (pairs ps)
pairs-back no_pairs h = absurd (h refl)
pairs-back (pair i j ps) h = refl

map-back : (inner : ℕ → Node → Node) (label : Label) (key k : Kind) (cs : List Content) (ps : Pairs) → label ≡ Map key
    → ps ≢ no_pairs → AreKeysAscending key ps → map (merged_entry inner key k) (values_in cs) ≡ pairs_in ps
    → field_content inner label k cs ≡ Some (pairs ps)
map-back inner label key k cs ps e some ascend is =
    ap (λ l. field_content inner l k cs) e ∙ ap (λ es. some_pairs (last_of_each key es)) is ∙ ap some_pairs (last-back key ps ascend) ∙ pairs-back ps some

-- the content of a field is read back
content-back : (T : Table) (room : ℕ) (inner : ℕ → Node → Node) (fs : List Field) (n : ℕ) (f : Field) (c : Content)
    → Inner T room inner → AreFieldsFrom 0 fs → field_at fs n ≡ Some f → HasContent T fs n c
    → content_depth c ≤ suc room → field_content inner f.label f.kind (contents_of n (raw_content T fs n c)) ≡ Some c
content-back T room inner fs n f (one i) back are found h d =
    let same : h.0 ≡ f = (let both : Some h.0 ≡ Some f = sym h.1 ∙ found in cc) in
    let here : field_content inner h.0.label h.0.kind (contents_of n (raw_content T fs n (one i))) ≡ Some (one i) =
    ap (field_content inner h.0.label h.0.kind) (contents-here n (one (raw_item T (kind_at fs n) i)) no_fields)
    ∙ one-back inner h.0.label h.0.kind i (raw_item T (kind_at fs n) i) h.2
    (ap (λ k. merged_element inner h.0.kind (raw_item T k i)) (kind-found fs n h.0 h.1)
    ∙ item-back T room inner h.0.kind i back h.3 d) in
    subst (λ (g : Field). field_content inner g.label g.kind (contents_of n (raw_content T fs n (one i))) ≡ Some (one i)) same here
content-back T room inner fs n f (many is) back are found h d =
    let same : h.0 ≡ f = (let both : Some h.0 ≡ Some f = sym h.1 ∙ found in cc) in
    let g = h.0 in
    let usable = (found-field 0 n g fs are h.1).usable in
    let kind = kind-found fs n g h.1 in
    let label = label-found fs n g h.1 in
    let plain : is_packed (label_at fs n) ≡ true → is_message_kind g.kind ≡ false = (λ e. numeric-plain g.kind (usable.packed (is-packed g.label (sym (ap is_packed label) ∙ e)))) in
    let records : map (merged_element inner g.kind) (values_in (contents_of n (raw_records T n (kind_at fs n) is))) ≡ list_of_items is =
    ap (λ k. map (merged_element inner g.kind) (values_in (contents_of n (raw_records T n k is)))) kind ∙ records-back T room inner n g.kind is back h.4 d in
    let here : field_content inner g.label g.kind (contents_of n (raw_content T fs n (many is))) ≡ Some (many is) =
    list-back inner g.label g.kind (contents_of n (raw_content T fs n (many is))) is h.2 h.3
    (many-back inner n g.kind is (is_packed (label_at fs n)) (raw_records T n (kind_at fs n) is) plain records) in
    subst (λ (x : Field). field_content inner x.label x.kind (contents_of n (raw_content T fs n (many is))) ≡ Some (many is)) same here
content-back T room inner fs n f (pairs ps) back are found h d =
    let same : h.0 ≡ f = (let both : Some h.0 ≡ Some f = sym h.2 ∙ found in cc) in
    let g = h.0 in
    let kind = kind-found fs n g h.2 in
    let key : key_kind (label_at fs n) ≡ h.1 = ap key_kind (label-found fs n g h.2 ∙ h.3) in
    let entries : map (merged_entry inner h.1 g.kind) (values_in (contents_of n (raw_content T fs n (pairs ps)))) ≡ pairs_in ps =
    ap (λ x. map (merged_entry inner h.1 g.kind) (values_in (contents_of n (raw_entries T n x (kind_at fs n) ps)))) key
    ∙ ap (λ x. map (merged_entry inner h.1 g.kind) (values_in (contents_of n (raw_entries T n h.1 x ps)))) kind
    ∙ entries-back T room inner n h.1 g.kind ps back h.5 d in
    let here : field_content inner g.label g.kind (contents_of n (raw_content T fs n (pairs ps))) ≡ Some (pairs ps) =
    map-back inner g.label h.1 g.kind (contents_of n (raw_content T fs n (pairs ps))) ps h.3 h.4 h.6 entries in
    subst (λ (x : Field). field_content inner x.label x.kind (contents_of n (raw_content T fs n (pairs ps))) ≡ Some (pairs ps)) same here

-- fields above a number ignore its records
fields-skip : (T : Table) (inner : ℕ → Node → Node) (all : List Field) (n last : ℕ) (c : Content) (t : Node)
    (fs : List Field) → n ≤ last → AreFieldsFrom last fs
    → with_fields inner (raw_fields T all (field n c t)) fs ≡ with_fields inner (raw_fields T all t) fs
fields-skip T inner all n last c t [] le are = refl
fields-skip T inner all n last c t (f ∷ fs) le are =
    let a = are.0 in
    ap (λ cs. with_content f.number (field_content inner f.label f.kind cs)
    (with_fields inner (raw_fields T all (field n c t)) fs))
    (contents-later T all f.number n c t (omega (arith, a, le)))
    ∙ ap (with_content f.number (field_content inner f.label f.kind (contents_of f.number (raw_fields T all t)))) (fields-skip T inner all n f.number c t fs (omega (arith, a, le)) are.2)

no-field : (T : Table) (all : List Field) (n : ℕ) (c : Content) → HasContent T all n c → field_at all n ≡ None → ⊥
no-field T all n c h e = let f = field-of T all n c h in let bad : None ≡ Some f.0 = sym e ∙ f.1 in cc

fields-back : (T : Table) (room : ℕ) (inner : ℕ → Node → Node) (all : List Field) (last : ℕ) (fs : List Field)
    (t : Node) → Inner T room inner → AreFieldsFrom 0 all → AreFieldsFrom last fs → IsRest all last fs
    → HasFields T all last t → depth t ≤ suc room → with_fields inner (raw_fields T all t) fs ≡ t
fields-back T room inner all last fs no_fields back whole are rest h d = fields-empty inner fs
fields-back T room inner all last [] (field n c t) back whole are rest h d = absurd (no-field T all n c h.1 (rest.same n h.0))
fields-back T room inner all last (f ∷ fs) (field n c t) back whole are rest h d =
    let raw = raw_fields T all (field n c t) in
    let found = rest-first all last f fs are.0 rest in
    let more = rest-more all last f fs are.0 rest in
    ⊎_elim
    (λ low. absurd (no-field T all n c h.1 (rest.same n h.0 ∙ field-later f fs n (omega (arith, low)) ∙ at-none n f.number fs are.2 (omega (arith, low)))))
    (λ high. ⊎_elim
    (λ s.
    let e : f.number ≡ n = s.1 in
    let later : HasFields T all f.number t = subst (λ (x : ℕ). HasFields T all x t) (sym e) h.2 in
    let tail : with_fields inner raw fs ≡ t = fields-skip T inner all n f.number c t fs (omega (arith, e)) are.2
    ∙ fields-back T room inner all f.number fs t back whole are.2 more later (omega (arith, d)) in
    let content : field_content inner f.label f.kind (contents_of n raw) ≡ Some c =
    ap (field_content inner f.label f.kind) (contents-first T all n c t h.2)
    ∙ content-back T room inner all n f c back whole (ap (field_at all) (sym e) ∙ found) h.1 (omega (arith, d)) in
    ap (λ x. with_content x (field_content inner f.label f.kind (contents_of x raw)) (with_fields inner raw fs)) e
    ∙ ap (λ o. with_content n o (with_fields inner raw fs)) content
    ∙ ap (field n c) tail)
    (λ s.
    let less : f.number < n = (let z = s.1 in omega (arith, high, z)) in
    let empty : contents_of f.number raw ≡ [] = none-below T all f.number f.number (field n c t) (omega arith) (less, h.1, h.2) in
    ap (λ o. with_content f.number o (with_fields inner raw fs)) (ap (field_content inner f.label f.kind) empty ∙ content-none inner f.label f.kind)
    ∙ fields-back T room inner all f.number fs (field n c t) back whole are.2 more (less, h.1, h.2) d)
    (eqb_tells f.number n))
    (cases_lt n f.number)

merged-step : (T : Table) (room : ℕ) → IsUsableTable T → Inner T room (merged T room) → (i : ℕ) (t : Node)
    → IsNormalWithin T i (suc room) t → merged T (suc room) i (raw_fields T (fields_of T i) t) ≡ t
merged-step T room usable back i t h =
    let fs = fields_of T i in
    merged-suc T room i (raw_fields T fs t)
    ∙ ap (λ x. with_fields (merged T room) x fs) (counted-raw T fs 0 t h.fields h.oneofs)
    ∙ fields-back T room (merged T room) fs 0 fs t back (usable.each i) (usable.each i) (rest-start fs) h.fields h.depth

inner-back : (T : Table) (room : ℕ) → IsUsableTable T → Inner T room (merged T room)
inner-back T zero usable = record { each = λ inside i t e h. absurd (omega (arith, e)) }
inner-back T (suc room) usable = record { each = λ inside i t e h. merged-step T room usable (inner-back T room usable) i t h }

-- the encoding means the tree
pub encoded-meaning : ReadsBack → (T : Table) (msg : ℕ) (t : Node) → IsUsableTable T → IsNormal T msg t → length (encoding T msg t) < 2 ^ 64 → IsMergedMessage T msg (encoding T msg t) t
encoded-meaning back_read T msg t usable h few =
    let fs = fields_of T msg in
    let bytes = encoding T msg t in
    let raw = raw_fields T fs t in
    let read = fields-reads back_read T usable 31 msg bytes 0 0 t few h.fields h.depth (stands-whole bytes) no_fields (read_end (omega arith) refl) in
    record {
      raw = raw;
      reads = subst (λ (x : Node). IsRawMessage T 31 fs bytes 0 x) (join-none raw) read;
      value = sym (merged-step T 31 usable (inner-back T 31 usable) msg t (record { fields = h.fields; oneofs = h.oneofs; depth = h.depth }));
    }
