-- The encoding of the tree of a placed tree has at most 15 bytes for each load: a number has at most ten bytes and
-- its tag five. A value has at most 15 bytes for each load minus five, which leaves room for its tag.
use Rattle.std.proofs.Common.{◌≡◌, ℕ, ◌+◌, ◌-◌, ◌*◌, ◌<◌, ◌≤◌, ◌^◌, Bool, true, false, cond, List, [], ◌∷◌, ◌++◌}
use Rattle.std.proofs.Common.{length, take, Option, Some, None, refl, sym, ap, subst, arith, length-append, ◌==◌}
use Rattle.std.proofs.lemmas.List.{length-take}
use Rattle.std.specs.Prelude.{option_map, unwrap_or, nat_lt}
use Rattle.mrpc_table.specs.Node.{Node, no_fields, field, Content, one, many, pairs, Item, number, Items, no_items, item}
use Rattle.mrpc_table.specs.Normal.{fields_of, kind_at, label_at}
use Rattle.mrpc_table.specs.Valid.{IsValid}
use Rattle.mrpc_table.specs.declared.table.Kind.{Kind}
use Rattle.mrpc_table.specs.declared.table.Kind.TheVariants.{Text, Octets, Message as OfMessage, Uint64}
use Rattle.mrpc_table.specs.declared.table.Label.{Label}
use Rattle.mrpc_table.specs.declared.table.Label.TheVariants.{Plain, Optional, Repeated, Packed, Map, Member}
use Rattle.mrpc_table.specs.declared.table.Field.{Field}
use Rattle.mrpc_table.specs.declared.table.Table.{Table}
use Rattle.mrpc_table.specs.MapEntries.{last_of_each}
use Rattle.wire_base.specs.Encoding.{tag, delimited, is_packed, fields_bytes, content_bytes, item_bytes, joined_bytes, records_bytes, entries_bytes, encoding}
use Rattle.mrpc_table.specs.Words.{key_kind}
use Rattle.mrpc_table.specs.WireTypes.{wire_len, wire_type_of}
use Rattle.graph_form.specs.Roles.{own_slots, word_bytes}
use Rattle.graph_form.specs.Placed.{Placed, nothing, first, Word, word, loads}
use Rattle.graph_form.specs.Forgotten.{insert_field, with_field, bytes_of_run, run_at, single_number, unless_zero}
use Rattle.graph_form.specs.Forgotten.{optional_item, slots_tree, slot_content, with_member, plain_item, elements_at}
use Rattle.graph_form.specs.Forgotten.{elements_in, entries_at, entries_in, tree_of}
use Rattle.graph_copy.proofs.Bytes.{TenBytes, wire_type-small, tag-at_most_five, tag-at_most_one, number-at_most_ten, delimited-short}
use Rattle.graph_copy.proofs.Kept.{entry_payload, entry_bytes, all_bytes, kept-short}
use Rattle.graph_copy.proofs.Slots.{AreFound, slots-found}

-- ---- loads

abbrev pub count : Placed → ℕ
count P = length (loads P)

count-first : (p v : ℕ) (c P : Placed) → count (first (word p v c) P) ≡ 1 + count c + count P
count-first p v c P = let e = length-append (loads c) (loads P) in omega (arith, e)

-- ---- runs

chain-short : (P : Placed) → length (bytes_of_run P) ≤ 8 * count P
chain-short nothing = omega arith
chain-short (first (word p v c) P) =
    let rest = chain-short c in
    let e = length-append (word_bytes v) (bytes_of_run c) in
    let f = count-first p v c P in
    omega (arith, rest, e, f)

run-short : (bytes : ℕ) (P : Placed) → count P ≤ 16384 → length (delimited (run_at bytes P)) + 5 ≤ 15 * (1 + count P)
run-short bytes nothing few = let d = delimited-short [] (omega arith) in omega (arith, d)
run-short bytes (first (word p v c) P) few =
    let f = count-first p v c P in
    let chain = chain-short c in
    let taken = length-take bytes (bytes_of_run c) in
    let d = delimited-short (take bytes (bytes_of_run c)) (omega (arith, taken, chain, f, few)) in
    omega (arith, d, taken, chain, f)

-- ---- values

-- a value of `loads` loads
abbrev ItemShort : Table → Kind → Item → ℕ → Type 0
ItemShort T k i loads = length (item_bytes T k i) + 5 ≤ 15 * loads

-- a property of the words at an address, if they are a node
abbrev NodeShort : Table → Placed → Type 0
NodeShort T P = (m : ℕ) → length (fields_bytes T (fields_of T m) (slots_tree T (fields_of T m) (own_slots (fields_of T m)) P)) ≤ 15 * count P

number_item-short : (ten : TenBytes) (T : Table) (k : Kind) (n loads : ℕ) → ItemShort T k (number n) (1 + loads)
number_item-short ten T k n loads = let e = number-at_most_ten ten k n in omega (arith, e)

item-short : (ten : TenBytes) (T : Table) (k : Kind) (p v : ℕ) (c : Placed) → count c ≤ 16384 → NodeShort T c → ItemShort T k (plain_item T k (word p v c)) (1 + count c)
item-short ten T Text p v c few h = run-short v c few
item-short ten T Octets p v c few h = run-short v c few
item-short ten T (OfMessage m) p v c few h =
    let n = h m in
    let d = delimited-short (fields_bytes T (fields_of T m) (slots_tree T (fields_of T m) (own_slots (fields_of T m)) c)) (omega (arith, n, few)) in
    omega (arith, n, d)
item-short ten T k p v c few h = number_item-short ten T k v (count c)

optional-short : (ten : TenBytes) (T : Table) (k : Kind) (v : ℕ) (c : Placed) → count c ≤ 16384 → ItemShort T k (optional_item k v c) (1 + count c)
optional-short ten T Text v c few = run-short (v - 1) c few
optional-short ten T Octets v c few = run-short (v - 1) c few
optional-short ten T k v c few = number_item-short ten T k (single_number c) (count c)

-- ---- the content of a field

-- the items, each with its prefix, or joined
record ItemsShort (T : Table) (k : Kind) (is : Items) (loads : ℕ) : Type 0 where
  records : (n : ℕ) → n < 2 ^ 29 → length (records_bytes T n k is) ≤ 15 * loads
  joined : length (joined_bytes T k is) ≤ 15 * loads

one-at : (T : Table) (fs : List Field) (n : ℕ) (k : Kind) (i : Item) (tagged loads : ℕ) → kind_at fs n ≡ k
    → length (tag n (wire_type_of k)) ≤ tagged → ItemShort T k i loads
    → length (content_bytes T fs n (one i)) + 5 ≤ tagged + 15 * loads
one-at T fs n k i tagged loads kind short h =
    subst (λ (x : Kind). length (tag n (wire_type_of x) ++ item_bytes T x i) + 5 ≤ tagged + 15 * loads) (sym kind)
    (let e = length-append (tag n (wire_type_of k)) (item_bytes T k i) in omega (arith, e, short, h))

one-short : (T : Table) (fs : List Field) (n : ℕ) (k : Kind) (i : Item) (loads : ℕ) → n < 2 ^ 29 → kind_at fs n ≡ k
    → ItemShort T k i loads → length (content_bytes T fs n (one i)) ≤ 15 * loads
one-short T fs n k i loads small kind h =
    let e = one-at T fs n k i 5 loads kind (tag-at_most_five n (wire_type_of k) small (wire_type-small k)) h in
    omega (arith, e)

many-go : (T : Table) (n : ℕ) (k : Kind) (is : Items) (loads : ℕ) (b : Bool) → n < 2 ^ 29 → loads ≤ 16384
    → ItemsShort T k is loads
    → length (cond b (tag n wire_len ++ delimited (joined_bytes T k is)) (records_bytes T n k is)) ≤ 15 * (1 + loads)
many-go T n k is loads true small few h =
    let joined = h.joined in
    let t = tag-at_most_five n wire_len small (omega arith) in
    let d = delimited-short (joined_bytes T k is) (omega (arith, joined, few)) in
    let e = length-append (tag n wire_len) (delimited (joined_bytes T k is)) in
    omega (arith, joined, t, d, e)
many-go T n k is loads false small few h = let records = h.records n small in omega (arith, records)

many-short : (T : Table) (fs : List Field) (n : ℕ) (k : Kind) (is : Items) (loads : ℕ) → n < 2 ^ 29 → kind_at fs n ≡ k
    → loads ≤ 16384 → ItemsShort T k is loads → length (content_bytes T fs n (many is)) ≤ 15 * (1 + loads)
many-short T fs n k is loads small kind few h =
    subst (λ (x : Kind). length (cond (is_packed (label_at fs n)) (tag n wire_len ++ delimited (joined_bytes T x is)) (records_bytes T n x is)) ≤ 15 * (1 + loads)) (sym kind)
    (many-go T n k is loads (is_packed (label_at fs n)) small few h)

items-more : (T : Table) (k : Kind) (i : Item) (is : Items) (a b : ℕ) → ItemShort T k i a → ItemsShort T k is b → ItemsShort T k (item i is) (a + b)
items-more T k i is a b h rest = record {
  records = λ n small.
      (let t = tag-at_most_five n (wire_type_of k) small (wire_type-small k) in
      let r = rest.records n small in
      let e = length-append (tag n (wire_type_of k)) (item_bytes T k i) in
      let f = length-append (tag n (wire_type_of k) ++ item_bytes T k i) (records_bytes T n k is) in
      omega (arith, h, t, r, e, f));
  joined = let r = rest.joined in let e = length-append (item_bytes T k i) (joined_bytes T k is) in omega (arith, h, r, e);
}

no_items-short : (T : Table) (k : Kind) (loads : ℕ) → ItemsShort T k no_items loads
no_items-short T k loads = record { records = λ n small. omega arith; joined = omega arith }

-- an entry: its tag and its length prefix have eight bytes, the tags in it two; the loads of its key and its value
-- leave ten
entry-short : (T : Table) (n : ℕ) (key k : Kind) (i j : Item) (a b : ℕ) → n < 2 ^ 29 → a + b ≤ 16384
    → ItemShort T key i a → ItemShort T k j b → length (entry_bytes T n key k i j) ≤ 15 * (a + b)
entry-short T n key k i j a b small few h g =
    let s = tag-at_most_one 1 (wire_type_of key) (omega arith) (wire_type-small key) in
    let t = tag-at_most_one 2 (wire_type_of k) (omega arith) (wire_type-small k) in
    let x = length-append (tag 1 (wire_type_of key)) (item_bytes T key i) in
    let y = length-append (tag 2 (wire_type_of k)) (item_bytes T k j) in
    let z = length-append (tag 1 (wire_type_of key) ++ item_bytes T key i) (tag 2 (wire_type_of k) ++ item_bytes T k j) in
    let d = delimited-short (entry_payload T key k i j) (omega (arith, few, h, g, s, t, x, y, z)) in
    let r = tag-at_most_five n wire_len small (omega arith) in
    let e = length-append (tag n wire_len) (delimited (entry_payload T key k i j)) in
    omega (arith, h, g, s, t, x, y, z, d, r, e)

-- ---- all words

abbrev HeadShort : Table → Kind → Placed → Type 0
HeadShort T k nothing = Unit {0}
HeadShort T k (first w P) = ItemShort T k (plain_item T k w) (count (first w P))

-- an entry with this key, whose value is the first word, and the entries after it
abbrev entries_behind : Table → Kind → Kind → Item → Placed → List (Item × Item)
entries_behind T key k i nothing = []
entries_behind T key k i (first w P) = (i, plain_item T k w) ∷ entries_in T key k P

-- properties of some words, whatever they were loaded for
record Facts (T : Table) (P : Placed) : Type 0 where
  slots : (fs slots : List Field) → AreFound fs slots → length (fields_bytes T fs (slots_tree T fs slots P)) ≤ 15 * count P
  head : (k : Kind) → HeadShort T k P
  elements : (k : Kind) → ItemsShort T k (elements_in T k P) (count P)
  elements_at : (k : Kind) → ItemsShort T k (elements_at T k P) (count P)
  behind_key : (n : ℕ) (key k : Kind) (i : Item) (a : ℕ) → n < 2 ^ 29 → a + count P ≤ 16384 → ItemShort T key i a
      → all_bytes T n key k (entries_behind T key k i P) ≤ 15 * (a + count P)
  entries : (n : ℕ) (key k : Kind) → n < 2 ^ 29 → all_bytes T n key k (entries_in T key k P) ≤ 15 * count P
  entries_at : (n : ℕ) (key k : Kind) → n < 2 ^ 29 → all_bytes T n key k (entries_at T key k P) ≤ 15 * count P

node-short : (T : Table) (P : Placed) → IsValid T → Facts T P → NodeShort T P
node-short T P valid f m = f.slots (fields_of T m) (own_slots (fields_of T m)) (slots-found T m valid)

-- ---- a slot

abbrev content_count : Table → List Field → ℕ → Option Content → ℕ
content_count T fs n None = 0
content_count T fs n (Some c) = length (content_bytes T fs n c)

unless-short : (T : Table) (fs : List Field) (n v : ℕ) (c : Content) (bound : ℕ) → length (content_bytes T fs n c) ≤ bound → content_count T fs n (unless_zero v c) ≤ bound
unless-short T fs n v c bound h = elim (v == 0) as (λ b. content_count T fs n (cond b None (Some c)) ≤ bound) [ true ↦ omega arith | false ↦ h ]

plain-content : (T : Table) (k : Kind) (p v : ℕ) (c : Placed) → slot_content T Plain k (word p v c) ≡ unless_zero v (one (plain_item T k (word p v c)))
plain-content T (OfMessage m) p v c = refl
plain-content T k p v c = refl

member-content : (T : Table) (o : ℕ) (k : Kind) (p v : ℕ) (c : Placed) → slot_content T (Member o) k (word p v c) ≡ unless_zero v (one (plain_item T k (word p v c)))
member-content T o (OfMessage m) p v c = refl
member-content T o k p v c = refl

plain-short : (ten : TenBytes) (T : Table) (fs : List Field) (n : ℕ) (k : Kind) (p v : ℕ) (c : Placed)
    (o : Option Content) → o ≡ unless_zero v (one (plain_item T k (word p v c))) → IsValid T → n < 2 ^ 29
    → kind_at fs n ≡ k → count c ≤ 16384 → Facts T c → content_count T fs n o ≤ 15 * (1 + count c)
plain-short ten T fs n k p v c o same valid small kind few facts =
    subst (λ x. content_count T fs n x ≤ 15 * (1 + count c)) (sym same)
    (unless-short T fs n v (one (plain_item T k (word p v c))) (15 * (1 + count c))
    (one-short T fs n k (plain_item T k (word p v c)) (1 + count c) small kind (item-short ten T k p v c few (node-short T c valid facts))))

entries-short : (T : Table) (fs : List Field) (n : ℕ) (key k : Kind) (c : Placed) → n < 2 ^ 29 → kind_at fs n ≡ k
    → label_at fs n ≡ Map key → Facts T c
    → length (content_bytes T fs n (pairs (last_of_each key (entries_at T key k c)))) ≤ 15 * (1 + count c)
entries-short T fs n key k c small kind label facts =
    let es = entries_at T key k c in
    subst (λ (x : Kind). length (entries_bytes T n (key_kind (label_at fs n)) x (last_of_each key es)) ≤ 15 * (1 + count c)) (sym kind)
    (subst (λ (l : Label). length (entries_bytes T n (key_kind l) k (last_of_each key es)) ≤ 15 * (1 + count c)) (sym label)
    (let kept = kept-short T n key k es in let all = facts.entries_at n key k small in omega (arith, kept, all)))

content-short : (ten : TenBytes) (T : Table) (fs : List Field) (n : ℕ) (l : Label) (k : Kind) (p v : ℕ) (c : Placed)
    → IsValid T → n < 2 ^ 29 → kind_at fs n ≡ k → label_at fs n ≡ l → count c ≤ 16384 → Facts T c
    → content_count T fs n (slot_content T l k (word p v c)) ≤ 15 * (1 + count c)
content-short ten T fs n Plain k p v c valid small kind label few facts =
    plain-short ten T fs n k p v c (slot_content T Plain k (word p v c)) (plain-content T k p v c) valid small kind few facts
content-short ten T fs n (Member o) k p v c valid small kind label few facts =
    plain-short ten T fs n k p v c (slot_content T (Member o) k (word p v c)) (member-content T o k p v c) valid small kind few facts
content-short ten T fs n Optional k p v c valid small kind label few facts =
    unless-short T fs n v (one (optional_item k v c)) (15 * (1 + count c)) (one-short T fs n k (optional_item k v c) (1 + count c) small kind (optional-short ten T k v c few))
content-short ten T fs n Repeated k p v c valid small kind label few facts =
    unless-short T fs n v (many (elements_at T k c)) (15 * (1 + count c)) (many-short T fs n k (elements_at T k c) (count c) small kind few (facts.elements_at k))
content-short ten T fs n Packed k p v c valid small kind label few facts =
    unless-short T fs n v (many (elements_at T k c)) (15 * (1 + count c)) (many-short T fs n k (elements_at T k c) (count c) small kind few (facts.elements_at k))
content-short ten T fs n (Map key) k p v c valid small kind label few facts =
    unless-short T fs n v (pairs (last_of_each key (entries_at T key k c))) (15 * (1 + count c)) (entries-short T fs n key k c small kind label facts)

-- ---- the fields of a message

insert-go : (T : Table) (fs : List Field) (n : ℕ) (c : Content) (m : ℕ) (d : Content) (t : Node) (b : Bool)
    → length (fields_bytes T fs (insert_field n c t)) ≡ length (content_bytes T fs n c) + length (fields_bytes T fs t)
    → length (fields_bytes T fs (cond b (field n c (field m d t)) (field m d (insert_field n c t))))
    ≡ length (content_bytes T fs n c) + length (fields_bytes T fs (field m d t))
insert-go T fs n c m d t true h = length-append (content_bytes T fs n c) (fields_bytes T fs (field m d t))
insert-go T fs n c m d t false h =
    let e = length-append (content_bytes T fs m d) (fields_bytes T fs (insert_field n c t)) in
    let f = length-append (content_bytes T fs m d) (fields_bytes T fs t) in
    omega (arith, e, f, h)

insert-length : (T : Table) (fs : List Field) (n : ℕ) (c : Content) (t : Node)
    → length (fields_bytes T fs (insert_field n c t)) ≡ length (content_bytes T fs n c) + length (fields_bytes T fs t)
insert-length T fs n c no_fields = length-append (content_bytes T fs n c) []
insert-length T fs n c (field m d t) = insert-go T fs n c m d t (nat_lt n m) (insert-length T fs n c t)

with_field-length : (T : Table) (fs : List Field) (n : ℕ) (o : Option Content) (t : Node)
    → length (fields_bytes T fs (with_field n o t)) ≡ content_count T fs n o + length (fields_bytes T fs t)
with_field-length T fs n None t = omega arith
with_field-length T fs n (Some c) t = insert-length T fs n c t

-- a member: the word of the case leaves room for a tag of ten bytes
member-short : (ten : TenBytes) (T : Table) (fs : List Field) (p v : ℕ) (c : Placed) (t : Node) (bound : ℕ)
    → Facts T c → length (fields_bytes T fs t) ≤ bound → length (fields_bytes T fs (with_member T fs (word p v c) t))
    ≤ 15 * (1 + count c) + bound
member-short ten T fs p v nothing t bound facts rest = omega (arith, rest)
member-short ten T fs p v (first w P) t bound facts rest =
    let k = kind_at fs v in
    let i = plain_item T k w in
    let e = one-at T fs v k i 10 (count (first w P)) refl (ten _) (facts.head k) in
    let f = insert-length T fs v (one i) t in
    omega (arith, e, f, rest)

slots-step : (ten : TenBytes) (T : Table) (p v : ℕ) (c P : Placed) → IsValid T → count (first (word p v c) P) ≤ 16384
    → Facts T c → Facts T P → (fs slots : List Field) → AreFound fs slots
    → length (fields_bytes T fs (slots_tree T fs slots (first (word p v c) P))) ≤ 15 * count (first (word p v c) P)
slots-step ten T p v c P valid few inside behind fs [] found =
    let e = count-first p v c P in
    let m = member-short ten T fs p v c (slots_tree T fs [] P) (15 * count P) inside (behind.slots fs [] tt) in
    omega (arith, e, m)
slots-step ten T p v c P valid few inside behind fs (f ∷ slots) found =
    let e = count-first p v c P in
    let kind : kind_at fs f.number ≡ f.kind = ap (λ x. unwrap_or (option_map (λ (g : Field). g.kind) x) Uint64) found.1 in
    let label : label_at fs f.number ≡ f.label = ap (λ x. unwrap_or (option_map (λ (g : Field). g.label) x) Plain) found.1 in
    let here = content-short ten T fs f.number f.label f.kind p v c valid found.0 kind label (omega (arith, e, few)) inside in
    let rest = behind.slots fs slots found.2 in
    let both = with_field-length T fs f.number (slot_content T f.label f.kind (word p v c)) (slots_tree T fs slots P) in
    omega (arith, e, here, rest, both)

-- ---- elements and entries

elements-step : (ten : TenBytes) (T : Table) (p v : ℕ) (c P : Placed) → IsValid T
    → count (first (word p v c) P) ≤ 16384 → Facts T c → Facts T P → (k : Kind)
    → ItemsShort T k (elements_in T k (first (word p v c) P)) (count (first (word p v c) P))
elements-step ten T p v c P valid few inside behind k =
    let e = count-first p v c P in
    let i = item-short ten T k p v c (omega (arith, e, few)) (node-short T c valid inside) in
    subst (λ n. ItemsShort T k (elements_in T k (first (word p v c) P)) n) (sym e)
    (items-more T k (plain_item T k (word p v c)) (elements_in T k P) (1 + count c) (count P) i (behind.elements k))

head-step : (ten : TenBytes) (T : Table) (p v : ℕ) (c P : Placed) → IsValid T → count (first (word p v c) P) ≤ 16384
    → Facts T c → (k : Kind) → ItemShort T k (plain_item T k (word p v c)) (count (first (word p v c) P))
head-step ten T p v c P valid few inside k =
    let e = count-first p v c P in
    let i = item-short ten T k p v c (omega (arith, e, few)) (node-short T c valid inside) in
    omega (arith, e, i)

behind_key-step : (ten : TenBytes) (T : Table) (p v : ℕ) (c P : Placed) → IsValid T → Facts T c → Facts T P
    → (n : ℕ) (key k : Kind) (i : Item) (a : ℕ) → n < 2 ^ 29 → a + count (first (word p v c) P) ≤ 16384
    → ItemShort T key i a → all_bytes T n key k (entries_behind T key k i (first (word p v c) P))
    ≤ 15 * (a + count (first (word p v c) P))
behind_key-step ten T p v c P valid inside behind n key k i a small few h =
    let e = count-first p v c P in
    let value = item-short ten T k p v c (omega (arith, e, few)) (node-short T c valid inside) in
    let entry = entry-short T n key k i (plain_item T k (word p v c)) a (1 + count c) small (omega (arith, e, few)) h value in
    let rest = behind.entries n key k small in
    omega (arith, e, entry, rest)

-- the entries are those after the first word, a key
entries-behind : (T : Table) (key k : Kind) (w : Word) (P : Placed) → entries_in T key k (first w P) ≡ entries_behind T key k (plain_item T key w) P
entries-behind T key k w nothing = refl
entries-behind T key k w (first x P) = refl

entries-step : (ten : TenBytes) (T : Table) (p v : ℕ) (c P : Placed) → IsValid T
    → count (first (word p v c) P) ≤ 16384 → Facts T c → Facts T P → (n : ℕ) (key k : Kind) → n < 2 ^ 29
    → all_bytes T n key k (entries_in T key k (first (word p v c) P)) ≤ 15 * count (first (word p v c) P)
entries-step ten T p v c P valid few inside behind n key k small =
    let e = count-first p v c P in
    let i = item-short ten T key p v c (omega (arith, e, few)) (node-short T c valid inside) in
    let all = behind.behind_key n key k (plain_item T key (word p v c)) (1 + count c) small (omega (arith, e, few)) i in
    subst (λ es. all_bytes T n key k es ≤ 15 * count (first (word p v c) P)) (sym (entries-behind T key k (word p v c) P)) (omega (arith, e, all))

elements_at-step : (T : Table) (p v : ℕ) (c P : Placed) → Facts T c → (k : Kind) → ItemsShort T k (elements_in T k c) (count (first (word p v c) P))
elements_at-step T p v c P inside k =
    let e = count-first p v c P in
    let h = inside.elements k in
    record {
      records = λ n small. (let r = h.records n small in omega (arith, e, r));
      joined = let j = h.joined in omega (arith, e, j);
    }

entries_at-step : (T : Table) (p v : ℕ) (c P : Placed) → Facts T c → (n : ℕ) (key k : Kind) → n < 2 ^ 29
    → all_bytes T n key k (entries_in T key k c) ≤ 15 * count (first (word p v c) P)
entries_at-step T p v c P inside n key k small =
    let e = count-first p v c P in
    let h = inside.entries n key k small in
    omega (arith, e, h)

facts : (ten : TenBytes) (T : Table) (P : Placed) → IsValid T → count P ≤ 16384 → Facts T P
facts ten T nothing valid few = record {
  slots = λ fs slots found. omega arith;
  head = λ k. tt;
  elements = λ k. no_items-short T k 0;
  elements_at = λ k. no_items-short T k 0;
  behind_key = λ n key k i a small less h. omega arith;
  entries = λ n key k small. omega arith;
  entries_at = λ n key k small. omega arith;
}
facts ten T (first (word p v c) P) valid few =
    let e = count-first p v c P in
    let inside = facts ten T c valid (omega (arith, e, few)) in
    let behind = facts ten T P valid (omega (arith, e, few)) in
    record {
      slots = slots-step ten T p v c P valid few inside behind;
      head = head-step ten T p v c P valid few inside;
      elements = elements-step ten T p v c P valid few inside behind;
      elements_at = elements_at-step T p v c P inside;
      behind_key = behind_key-step ten T p v c P valid inside behind;
      entries = entries-step ten T p v c P valid few inside behind;
      entries_at = entries_at-step T p v c P inside;
    }

pub encoding-short : (ten : TenBytes) (T : Table) (msg : ℕ) (P : Placed) → IsValid T → length (loads P) ≤ 16384
    → length (encoding T msg (tree_of T msg P)) ≤ 15 * length (loads P)
encoding-short ten T msg P valid few = node-short T P valid (facts ten T P valid few) msg
