-- The tree of a sound placed tree is in normal form.
use Rattle.std.proofs.Common.{◌≡◌, ◌≢◌, ◌⊎◌, inl, inr, ⊎_elim, ℕ, zero, suc, ◌+◌, ◌-◌, ◌*◌, ◌<◌, ◌≤◌, ◌^◌, Bool, true}
use Rattle.std.proofs.Common.{false, nat_le, cond, List, [], ◌∷◌, ◌++◌, length, Option, Some, None, refl, sym, ap}
use Rattle.std.proofs.Common.{subst, ◌∙◌, arith, ◌==◌}
use Rattle.std.specs.Prelude.{option_map, unwrap_or}
use Rattle.std.specs.List.{AllByRecursion}
use Rattle.std.proofs.lemmas.Bool.{eqb-false, ne_eqb, cases_lt}
use Rattle.std.proofs.lemmas.Bool.Decides.{nat_tests, eqb_tells}
use Rattle.mrpc_table.specs.Node.{Node, no_fields, field, Content, one, many, pairs, Item, number, run, node, Items, no_items, no_pairs}
use Rattle.mrpc_table.specs.Normal.{fields_of, field_at, membership, members_in, CanHaveOne, CanHaveMany, AreKeysAscending}
use Rattle.mrpc_table.specs.Normal.{HasFields, HasContent, IsItem, AreItems, ArePairs, HasOneMemberEach, depth}
use Rattle.mrpc_table.specs.Normal.{content_depth, item_depth, items_depth, pairs_depth, IsNormal, kind_at}
use Rattle.mrpc_table.specs.Valid.{IsValid}
use Rattle.mrpc_table.specs.declared.table.Kind.{Kind}
use Rattle.mrpc_table.specs.declared.table.Kind.TheVariants.{Uint64, Text, Octets, Message as OfMessage}
use Rattle.mrpc_table.specs.declared.table.Label.{Label}
use Rattle.mrpc_table.specs.declared.table.Label.TheVariants.{Plain, Optional, Repeated, Packed, Map, Member}
use Rattle.mrpc_table.specs.declared.table.Field.{Field}
use Rattle.mrpc_table.specs.declared.table.Table.{Table}
use Rattle.mrpc_table.specs.MapEntries.{last_of_each}
use Rattle.graph_form.specs.declared.reason.Reason.TheVariants.{Address, Case, Depth}
use Rattle.graph_form.specs.Roles.{value, run_address, link, count, elements_address, entry_count, entries_address}
use Rattle.graph_form.specs.Roles.{case_word, Expected, expected_after, plain_role, optional_role, slot_role, is_member}
use Rattle.graph_form.specs.Roles.{own_slots, oneof_count, slots_from, cases_from, node_words, elements_from}
use Rattle.graph_form.specs.Roles.{entries_from, element_words}
use Rattle.graph_form.specs.Placed.{Placed, nothing, first, word, IsValidWord, AreSound, IsSound}
use Rattle.graph_form.specs.Forgotten.{insert_field, with_field, run_at, single_number, unless_zero, optional_item}
use Rattle.graph_form.specs.Forgotten.{slots_tree, slot_content, with_member, plain_item, elements_at, elements_in}
use Rattle.graph_form.specs.Forgotten.{entries_at, entries_in, tree_of}
use Rattle.graph_form.proofs.FieldOrder.{IsNoMessage, HasPlainKey, AllRise, all-rise, SlotsFrom, slots-own}
use Rattle.graph_form.proofs.Forms.{number-form, IsRunAt, run-at, no-run}
use Rattle.graph_form.proofs.Inserting.{NumbersAre, numbers-weaker, numbers-insert, fields-insert, depth-insert, members_at, members-insert}

-- the entries that are kept of a map are in normal form: the law of those entries
abbrev pub KeptAreNormal : Type 0
KeptAreNormal =
    ((T : Table) (key k : Kind) (es : List (Item × Item)) → AllByRecursion (λ e. IsItem T key e.0 × IsItem T k e.1) es → ArePairs T key k (last_of_each key es))
    × ((T : Table) (key k : Kind) (es : List (Item × Item)) → ((i : ℕ) → key ≢ OfMessage i)
    → AllByRecursion (λ e. IsItem T key e.0 × IsItem T k e.1) es → AreKeysAscending key (last_of_each key es))
    × ((key : Kind) (room : ℕ) (es : List (Item × Item))
    → AllByRecursion (λ e. (item_depth e.0 ≤ room) × (item_depth e.1 ≤ room)) es
    → pairs_depth (last_of_each key es) ≤ room)
    × ((key : Kind) (e : Item × Item) (es : List (Item × Item)) → last_of_each key (e ∷ es) ≢ no_pairs)

-- a value in a message under which `room` levels of messages fit, its own included
record GoodItem (T : Table) (k : Kind) (room : ℕ) (i : Item) : Type 0 where
  is : IsItem T k i
  depth : item_depth i ≤ room

-- a node under which `room` levels of messages fit, its own included
record GoodNode (T : Table) (fs : List Field) (room : ℕ) (Q : ℕ → Type 0) (t : Node) : Type 0 where
  fields : HasFields T fs 0 t
  depth : depth t ≤ room
  numbers : NumbersAre Q t
  members : HasOneMemberEach fs t

-- one more field, with a new number
insert-good : (T : Table) (fs : List Field) (room : ℕ) (Q R : ℕ → Type 0) (n : ℕ) (c : Content) (t : Node)
    → ((m : ℕ) → Q m → R m) → R n → 0 < n → HasContent T fs n c → content_depth c ≤ room → NumbersAre (λ m. m ≢ n) t
    → ((o : ℕ) → members_at fs o n + members_in fs o t ≤ 1) → GoodNode T fs room Q t
    → GoodNode T fs room R (insert_field n c t)
insert-good T fs room Q R n c t weaker here some has deep others few h = record {
  fields = fields-insert T fs 0 n c t some has others h.fields;
  depth = depth-insert room n c t deep h.depth;
  numbers = numbers-insert R n c t here (numbers-weaker Q R t weaker h.numbers);
  members = λ o. (let e = members-insert fs o n c t in let a = few o in omega (arith, e, a));
}

weaker-good : (T : Table) (fs : List Field) (room : ℕ) (Q R : ℕ → Type 0) (t : Node) → ((m : ℕ) → Q m → R m) → GoodNode T fs room Q t → GoodNode T fs room R t
weaker-good T fs room Q R t weaker h = record { fields = h.fields; depth = h.depth; numbers = numbers-weaker Q R t weaker h.numbers; members = h.members }

-- ---- numbers of members and of slots

-- the number is that of a member of a oneof, of the given one or a later one
record IsMemberFrom (fs : List Field) (o n : ℕ) : Type 0 where
  field : Field
  oneof : ℕ
  at : field_at fs n ≡ Some field
  label : field.label ≡ Member oneof
  from : o ≤ oneof

abbrev IsMemberOrAbove : List Field → ℕ → ℕ → Type 0
IsMemberOrAbove fs last n = IsMemberFrom fs 0 n ⊎ (last < n)

is-member : (f : Field) (o : ℕ) → f.label ≡ Member o → is_member f.label ≡ true
is-member f o e = ap is_member e

same-field : (fs : List Field) (n : ℕ) (f g : Field) → field_at fs n ≡ Some f → field_at fs n ≡ Some g → f ≡ g
same-field fs n f g a b = let e : Some f ≡ Some g = sym a ∙ b in cc

same-oneof : (o p : ℕ) → Member o ≡ Member p → o ≡ p
same-oneof o p e = cc

members-of : (fs : List Field) (o n : ℕ) (f : Field) (b : ℕ) → field_at fs n ≡ Some f → membership f.label o ≡ b → members_at fs o n ≡ b
members-of fs o n f b at e = ap (λ z. unwrap_or (option_map (λ (g : Field). membership g.label o) z) 0) at ∙ e

membership-other : (l : Label) (o : ℕ) → is_member l ≡ false → membership l o ≡ 0
membership-other (Member p) o e = absurd (cc)
membership-other _ o e = refl

membership-away : (l : Label) (p o : ℕ) → l ≡ Member p → p ≢ o → membership l o ≡ 0
membership-away l p o e ne = ap (λ z. membership z o) e ∙ ap (λ b. cond b 1 0) (ne_eqb p o ne)

membership-few : (l : Label) (o : ℕ) → membership l o ≤ 1
membership-few (Member p) o = elim (p == o) as (λ b. cond b 1 0 ≤ 1) [ true ↦ omega arith | false ↦ omega arith ]
membership-few _ o = omega arith

-- if all numbers are of members of later oneofs, none is of this one
none-of : (fs : List Field) (o from : ℕ) (t : Node) → o < from → NumbersAre (IsMemberFrom fs from) t → members_in fs o t ≡ 0
none-of fs o from no_fields less h = refl
none-of fs o from (field n c t) less h =
    let m = h.0 in
    let low = m.from in
    let a = members-of fs o n m.field 0 m.at (membership-away m.field.label m.oneof o m.label (omega (arith, less, low))) in
    let b = none-of fs o from t less h.1 in
    omega (arith, a, b)

-- ---- values

number-item : (T : Table) (H : ℕ) (k : Kind) (room v : ℕ) → v < 2 ^ 64 → IsValidWord T H (value k) v → GoodItem T k room (number v)
number-item T H k room v small fine = record { is = number-form T H k v small fine; depth = omega arith }

abbrev IsRunKind : Kind → Type 0
IsRunKind k = (k ≡ Text) ⊎ (k ≡ Octets)

run-item : (T : Table) (k : Kind) (room bytes : ℕ) (P : Placed) → IsRunKind k → IsRunAt k bytes P → GoodItem T k room (run (run_at bytes P))
run-item T Text room bytes P kind h = record { is = h.text refl; depth = omega arith }
run-item T Octets room bytes P kind h = record { is = h.bytes; depth = omega arith }
run-item T k room bytes P kind h = absurd (⊎_elim (λ e. cc) (λ e. cc) kind)

-- a property of the words at an address, if they are a node
abbrev NodeFact : Table → ℕ → Placed → Type 0
NodeFact T H P = (m d q : ℕ) → d ≤ 32 → AreSound T H (node_words T m d q) P
    → GoodNode T (fields_of T m) (33 - d) (IsMemberOrAbove (fields_of T m) 0)
    (slots_tree T (fields_of T m) (own_slots (fields_of T m)) P)

not-equal : (a b : ℕ) → (a == b) ≡ false → a ≢ b
not-equal a b e = grind (arith, nat_tests)

zero-of : (v : ℕ) → (v == 0) ≡ true → v ≡ 0
zero-of v e = grind (arith, nat_tests)

not-zero-of : (v : ℕ) → (v == 0) ≡ false → v ≢ 0
not-zero-of v e = eqb-false v 0 e

-- a run with a length; the address, if there is one, follows it
length-go : (T : Table) (H : ℕ) (k : Kind) (room v q : ℕ) (c : Placed) (b : Bool) → (v == 0) ≡ b → IsRunKind k
    → AreSound T H (cond b [] ((run_address k v, q + 1) ∷ [])) c → GoodItem T k room (run (run_at v c))
length-go T H k room v q nothing true e kind h = run-item T k room v nothing kind (subst (λ n. IsRunAt k n nothing) (sym (zero-of v e)) (no-run k))
length-go T H k room v q (first w c) true e kind h = absurd h
length-go T H k room v q c false e kind h = run-item T k room v c kind (run-at T H k v (q + 1) [] c h)

-- a message at its address
message-go : (T : Table) (H m d : ℕ) (needed : Bool) (q v : ℕ) (c : Placed) (b : Bool) → (v == 0) ≡ b → d ≤ 32
    → IsValidWord T H (link m d needed) v → (v ≡ 0 → needed ≡ true) → AreSound T H (cond b [] (node_words T m (d + 1) v)) c
    → NodeFact T H c → GoodItem T (OfMessage m) (33 - d)
    (node (slots_tree T (fields_of T m) (own_slots (fields_of T m)) c))
message-go T H m d needed q v c true e low fine there h fact =
    let zero_here : v ≡ 0 = zero-of v e in
    absurd (fine Address (inr (there zero_here), λ lies. (let a = lies.from_one in omega (arith, a, zero_here))))
message-go T H m d needed q v c false e low fine there h fact =
    let room : d < 32 = ⊎_elim (λ less. less) (λ no. absurd (fine Depth (not-zero-of v e, no))) (cases_lt d 32) in
    let good = fact m (d + 1) v (omega (arith, room)) h in
    let deep = good.depth in
    record { is = (m, refl, good.fields, good.members); depth = omega (arith, deep, room) }

-- the value of a plain slot with a valid first word
plain-good : (T : Table) (H : ℕ) (k : Kind) (d : ℕ) (needed : Bool) (q v : ℕ) (c : Placed) → d ≤ 32 → v < 2 ^ 64
    → IsValidWord T H (plain_role k d needed) v → (v ≡ 0 → needed ≡ true)
    → AreSound T H (expected_after T (plain_role k d needed) q v) c → NodeFact T H c
    → GoodItem T k (33 - d) (plain_item T k (word q v c))
plain-good T H Text d needed q v c low small fine there h fact = length-go T H Text (33 - d) v q c (v == 0) refl (inl refl) h
plain-good T H Octets d needed q v c low small fine there h fact = length-go T H Octets (33 - d) v q c (v == 0) refl (inr refl) h
plain-good T H (OfMessage m) d needed q v c low small fine there h fact = message-go T H m d needed q v c (v == 0) refl low fine there h fact
plain-good T H k d needed q v c low small fine there h fact = number-item T H k (33 - d) v small fine

-- ---- the content of a field

record GoodElements (T : Table) (k : Kind) (room n : ℕ) (is : Items) : Type 0 where
  all : AreItems T k is
  depth : items_depth is ≤ room
  some : n ≢ 0 → is ≢ no_items

record GoodEntries (T : Table) (key k : Kind) (room n : ℕ) (es : List (Item × Item)) : Type 0 where
  all : AllByRecursion (λ e. IsItem T key e.0 × IsItem T k e.1) es
  depth : AllByRecursion (λ e. (item_depth e.0 ≤ room) × (item_depth e.1 ≤ room)) es
  some : n ≢ 0 → (e : Item × Item) × (rest : List (Item × Item)) × (es ≡ e ∷ rest)

abbrev HeadGood : Table → Kind → ℕ → Placed → Type 0
HeadGood T k room nothing = ⊥
HeadGood T k room (first w others) = GoodItem T k room (plain_item T k w)

abbrev SecondGood : Table → Kind → Kind → ℕ → ℕ → Placed → Type 0
SecondGood T key k room n nothing = ⊥
SecondGood T key k room n (first w others) = GoodItem T k room (plain_item T k w) × GoodEntries T key k room n (entries_in T key k others)

-- properties of some words, whatever they were loaded for
record Facts (T : Table) (H : ℕ) (P : Placed) : Type 0 where
  slots : (fs slots : List Field) (last k o d q r : ℕ) → d ≤ 32 → SlotsFrom fs last slots
      → AreSound T H (slots_from slots d q ++ cases_from k fs o d r) P
      → GoodNode T fs (33 - d) (IsMemberOrAbove fs last) (slots_tree T fs slots P)
  cases : (fs : List Field) (k o d r : ℕ) → d ≤ 32 → AreSound T H (cases_from k fs o d r) P → GoodNode T fs (33 - d) (IsMemberFrom fs o) (slots_tree T fs [] P)
  head : (k : Kind) (d q : ℕ) (es : Expected) → d ≤ 32 → AreSound T H ((plain_role k d true, q) ∷ es) P → HeadGood T k (33 - d) P
  elements : (k : Kind) (n d q : ℕ) → d ≤ 32 → AreSound T H (elements_from n k d q) P → GoodElements T k (33 - d) n (elements_in T k P)
  entries : (key k : Kind) (n d q : ℕ) → d ≤ 32 → AreSound T H (entries_from n key k d q) P → GoodEntries T key k (33 - d) n (entries_in T key k P)
  second : (key k : Kind) (n d p q : ℕ) → d ≤ 32 → AreSound T H ((plain_role k d true, p) ∷ entries_from n key k d q) P → SecondGood T key k (33 - d) n P
  elements_at : (k : Kind) (n d q : ℕ) → d ≤ 32 → AreSound T H ((elements_address k n d, q) ∷ []) P → GoodElements T k (33 - d) n (elements_at T k P)
  entries_at : (key k : Kind) (n d q : ℕ) → d ≤ 32 → AreSound T H ((entries_address key k n d, q) ∷ []) P → GoodEntries T key k (33 - d) n (entries_at T key k P)

node-fact : (T : Table) (H : ℕ) (P : Placed) → AllRise T → Facts T H P → NodeFact T H P
node-fact T H P rise f m d q low h =
    f.slots (fields_of T m) (own_slots (fields_of T m)) 0 (oneof_count T m) 0 d q (q + 2 * length (own_slots (fields_of T m))) low (slots-own T m rise) h

abbrev GoodContent : Table → Label → Kind → ℕ → Option Content → Type 0
GoodContent T l k room None = Unit {0}
GoodContent T l k room (Some (one i)) = CanHaveOne l i × GoodItem T k room i
GoodContent T l k room (Some (many is)) = CanHaveMany l × (is ≢ no_items) × AreItems T k is × (items_depth is ≤ room)
GoodContent T l k room (Some (pairs ps)) = (key : Kind) × (l ≡ Map key) × (ps ≢ no_pairs) × ArePairs T key k ps × AreKeysAscending key ps × (pairs_depth ps ≤ room)

unless-go : (T : Table) (l : Label) (k : Kind) (room v : ℕ) (c : Content) → ((v == 0) ≡ false → GoodContent T l k room (Some c)) → GoodContent T l k room (unless_zero v c)
unless-go T l k room v c h = elim (v == 0) as (λ b. (v == 0) ≡ b → GoodContent T l k room (cond b None (Some c))) [ true ↦ λ e. tt | false ↦ λ e. h e ] refl

-- a run that isn't empty, and a number that isn't 0, are no defaults
length-not_default : (T : Table) (H : ℕ) (k : Kind) (v q : ℕ) (c : Placed) (b : Bool) → (v == 0) ≡ b → b ≡ false
    → AreSound T H (cond b [] ((run_address k v, q + 1) ∷ [])) c → run_at v c ≢ []
length-not_default T H k v q c true e f h = absurd (cc)
length-not_default T H k v q c false e f h = λ empty.
    let long = (run-at T H k v (q + 1) [] c h).long in
    let none : length (run_at v c) ≡ 0 = ap length empty in
    not-zero-of v e (omega (arith, long, none))

-- the value of a plain field is no default
plain-takes : (T : Table) (H : ℕ) (k : Kind) (d q v : ℕ) (c : Placed) → (v == 0) ≡ false
    → AreSound T H (expected_after T (plain_role k d false) q v) c → CanHaveOne Plain (plain_item T k (word q v c))
plain-takes T H Text d q v c e h = length-not_default T H Text v q c (v == 0) refl e h
plain-takes T H Octets d q v c e h = length-not_default T H Octets v q c (v == 0) refl e h
plain-takes T H (OfMessage m) d q v c e h = λ no. no
plain-takes T H k d q v c e h = not-zero-of v e

plain-content : (T : Table) (k : Kind) (q v : ℕ) (c : Placed) → slot_content T Plain k (word q v c) ≡ unless_zero v (one (plain_item T k (word q v c)))
plain-content T (OfMessage m) q v c = refl
plain-content T k q v c = refl

-- an optional run: it starts with its length plus 1
optional-go : (T : Table) (H : ℕ) (k : Kind) (room v q : ℕ) (c : Placed) (b : Bool) → nat_le v 1 ≡ b
    → (v == 0) ≡ false → IsRunKind k → AreSound T H (cond b [] ((run_address k (v - 1), q + 1) ∷ [])) c
    → GoodItem T k room (run (run_at (v - 1) c))
optional-go T H k room v q nothing true e f kind h =
    let none : v - 1 ≡ 0 = grind (arith, nat_tests) in
    run-item T k room (v - 1) nothing kind (subst (λ n. IsRunAt k n nothing) (sym none) (no-run k))
optional-go T H k room v q (first w c) true e f kind h = absurd h
optional-go T H k room v q c false e f kind h = run-item T k room (v - 1) c kind (run-at T H k (v - 1) (q + 1) [] c h)

presence-go : (T : Table) (H : ℕ) (k : Kind) (room v q : ℕ) (c : Placed) (b : Bool) → (v == 0) ≡ b → b ≡ false
    → AreSound T H (cond b [] ((value k, q + 1) ∷ [])) c → GoodItem T k room (number (single_number c))
presence-go T H k room v q c true e f h = absurd (cc)
presence-go T H k room v q nothing false e f h = absurd h
presence-go T H k room v q (first (word p u i) P) false e f h = number-item T H k room u h.1 h.2

optional-good : (T : Table) (H : ℕ) (k : Kind) (room q v : ℕ) (c : Placed) → (v == 0) ≡ false
    → AreSound T H (expected_after T (optional_role k) q v) c → GoodItem T k room (optional_item k v c)
optional-good T H Text room q v c e h = optional-go T H Text room v q c (nat_le v 1) refl e (inl refl) h
optional-good T H Octets room q v c e h = optional-go T H Octets room v q c (nat_le v 1) refl e (inr refl) h
optional-good T H k room q v c e h = presence-go T H k room v q c (v == 0) refl e h

elements-go : (T : Table) (H : ℕ) (k : Kind) (d q v : ℕ) (c : Placed) (b : Bool) → (v == 0) ≡ b → b ≡ false → d ≤ 32
    → AreSound T H (cond b [] ((elements_address k v d, q + 1) ∷ [])) c → Facts T H c
    → GoodElements T k (33 - d) v (elements_at T k c)
elements-go T H k d q v c true e f low h facts = absurd (cc)
elements-go T H k d q v c false e f low h facts = facts.elements_at k v d (q + 1) low h

many-good : (T : Table) (H : ℕ) (l : Label) (k : Kind) (d q v : ℕ) (c : Placed) → CanHaveMany l → (v == 0) ≡ false
    → d ≤ 32 → AreSound T H (expected_after T (count k d) q v) c → Facts T H c
    → GoodContent T l k (33 - d) (Some (many (elements_at T k c)))
many-good T H l k d q v c takes e low h facts =
    let good = elements-go T H k d q v c (v == 0) refl e low h facts in
    (takes, good.some (not-zero-of v e), good.all, good.depth)

entries-go : (T : Table) (H : ℕ) (key k : Kind) (d q v : ℕ) (c : Placed) (b : Bool) → (v == 0) ≡ b → b ≡ false
    → d ≤ 32 → AreSound T H (cond b [] ((entries_address key k v d, q + 1) ∷ [])) c → Facts T H c
    → GoodEntries T key k (33 - d) v (entries_at T key k c)
entries-go T H key k d q v c true e f low h facts = absurd (cc)
entries-go T H key k d q v c false e f low h facts = facts.entries_at key k v d (q + 1) low h

map-good : (law : KeptAreNormal) (T : Table) (H : ℕ) (key k : Kind) (d q v : ℕ) (c : Placed) → IsNoMessage key
    → (v == 0) ≡ false → d ≤ 32 → AreSound T H (expected_after T (entry_count key k d) q v) c → Facts T H c
    → GoodContent T (Map key) k (33 - d) (Some (pairs (last_of_each key (entries_at T key k c))))
map-good law T H key k d q v c plain e low h facts =
    let good = entries-go T H key k d q v c (v == 0) refl e low h facts in
    let es = entries_at T key k c in
    let some = good.some (not-zero-of v e) in (
      key,
      refl,
      subst (λ xs. last_of_each key xs ≢ no_pairs) (sym some.2) (law.3 key some.0 some.1),
      law.0 T key k es good.all,
      law.1 T key k es plain good.all,
      law.2 key (33 - d) es good.depth,
    )

-- the content of a field, by a slot with a valid first word
content-good : (law : KeptAreNormal) (T : Table) (H : ℕ) (l : Label) (k : Kind) (d q v : ℕ) (c : Placed) → AllRise T
    → d ≤ 32 → is_member l ≡ false → HasPlainKey l → v < 2 ^ 64 → IsValidWord T H (slot_role l k d) v
    → AreSound T H (expected_after T (slot_role l k d) q v) c → Facts T H c
    → GoodContent T l k (33 - d) (slot_content T l k (word q v c))
content-good law T H Plain k d q v c rise low own key small fine h facts =
    subst (GoodContent T Plain k (33 - d)) (sym (plain-content T k q v c))
    (unless-go T Plain k (33 - d) v (one (plain_item T k (word q v c)))
    (λ e. (plain-takes T H k d q v c e h, plain-good T H k d false q v c low small fine (λ z. absurd (not-zero-of v e z)) h (node-fact T H c rise facts))))
content-good law T H Optional k d q v c rise low own key small fine h facts =
    unless-go T Optional k (33 - d) v (one (optional_item k v c)) (λ e. (tt, optional-good T H k (33 - d) q v c e h))
content-good law T H Repeated k d q v c rise low own key small fine h facts =
    unless-go T Repeated k (33 - d) v (many (elements_at T k c)) (λ e. many-good T H Repeated k d q v c tt e low h facts)
content-good law T H Packed k d q v c rise low own key small fine h facts =
    unless-go T Packed k (33 - d) v (many (elements_at T k c)) (λ e. many-good T H Packed k d q v c tt e low h facts)
content-good law T H (Map other) k d q v c rise low own key small fine h facts =
    unless-go T (Map other) k (33 - d) v (pairs (last_of_each other (entries_at T other k c))) (λ e. map-good law T H other k d q v c (key other refl) e low h facts)
content-good law T H (Member o) k d q v c rise low own key small fine h facts = absurd (cc)

-- ---- the fields of a message

content-has : (T : Table) (fs : List Field) (f : Field) (room : ℕ) (c : Content) → field_at fs f.number ≡ Some f
    → GoodContent T f.label f.kind room (Some c) → HasContent T fs f.number c × (content_depth c ≤ room)
content-has T fs f room (one i) at h = ((f, at, h.0, h.1.is), h.1.depth)
content-has T fs f room (many is) at h = ((f, at, h.0, h.1, h.2), h.3)
content-has T fs f room (pairs ps) at h = ((f, h.0, at, h.1, h.2, h.3, h.4), h.5)

-- no number of the fields after a slot is the slot's
slot-apart : (fs : List Field) (f : Field) (t : Node) → field_at fs f.number ≡ Some f → is_member f.label ≡ false
    → NumbersAre (IsMemberOrAbove fs f.number) t → NumbersAre (λ m. m ≢ f.number) t
slot-apart fs f t at own h =
    numbers-weaker (IsMemberOrAbove fs f.number) (λ m. m ≢ f.number) t
    (λ n q e. ⊎_elim
    (λ m. (let same : f ≡ m.field = same-field fs n f m.field (ap (field_at fs) e ∙ at) m.at in
    let bad : true ≡ false = sym (is-member f m.oneof (ap (λ (g : Field). g.label) same ∙ m.label)) ∙ own in cc))
    (λ above. omega (arith, above, e))
    q)
    h

with-slot : (T : Table) (fs : List Field) (last room : ℕ) (f : Field) (o : Option Content) (t : Node)
    → last < f.number → field_at fs f.number ≡ Some f → is_member f.label ≡ false
    → GoodContent T f.label f.kind room o → GoodNode T fs room (IsMemberOrAbove fs f.number) t
    → GoodNode T fs room (IsMemberOrAbove fs last) (with_field f.number o t)
with-slot T fs last room f None t less at own h good =
    weaker-good T fs room (IsMemberOrAbove fs f.number) (IsMemberOrAbove fs last) t (λ n q. ⊎_elim (λ m. inl m) (λ above. inr (omega (arith, above, less))) q) good
with-slot T fs last room f (Some c) t less at own h good =
    let has = content-has T fs f room c at h in
    insert-good T fs room (IsMemberOrAbove fs f.number) (IsMemberOrAbove fs last) f.number c t
    (λ n q. ⊎_elim (λ m. inl m) (λ above. inr (omega (arith, above, less))) q)
    (inr less) (omega (arith, less)) has.0 has.1 (slot-apart fs f t at own good.numbers)
    (λ o. (let none = members-of fs o f.number f 0 at (membership-other f.label o own) in let few = good.members o in omega (arith, none, few)))
    good

-- ---- the member of a oneof

-- a valid case word that isn't 0 is the number of a member
record IsCaseOf (fs : List Field) (o n : ℕ) : Type 0 where
  field : Field
  at : field_at fs n ≡ Some field
  label : field.label ≡ Member o

abbrev is-case : Option Field → ℕ → Bool
is-case None o = false
is-case (Some f) o = elim f.label [ Member p ↦ p == o | _ ↦ false ]

label-case : (f : Field) (l : Label) (o : ℕ) → f.label ≡ l → (elim l [ Member p ↦ p == o | _ ↦ false ]) ≡ true → f.label ≡ Member o
label-case f (Member p) o e h = e ∙ ap Member (grind (arith, nat_tests))
label-case f Plain o e h = absurd (cc)
label-case f Optional o e h = absurd (cc)
label-case f Repeated o e h = absurd (cc)
label-case f Packed o e h = absurd (cc)
label-case f (Map key) o e h = absurd (cc)

label-no_case : (f : Field) (l : Label) (o : ℕ) → f.label ≡ l → (elim l [ Member p ↦ p == o | _ ↦ false ]) ≡ false → f.label ≢ Member o
label-no_case f (Member p) o e h is = let same : p ≡ o = same-oneof p o (sym e ∙ is) in not-equal p o h same
label-no_case f Plain o e h is = let bad : Plain ≡ Member o = sym e ∙ is in cc
label-no_case f Optional o e h is = let bad : Optional ≡ Member o = sym e ∙ is in cc
label-no_case f Repeated o e h is = let bad : Repeated ≡ Member o = sym e ∙ is in cc
label-no_case f Packed o e h is = let bad : Packed ≡ Member o = sym e ∙ is in cc
label-no_case f (Map key) o e h is = let bad : Map key ≡ Member o = sym e ∙ is in cc

case-go : (T : Table) (H : ℕ) (fs : List Field) (o d v : ℕ) (x : Option Field) (b : Bool) → field_at fs v ≡ x
    → is-case x o ≡ b → v ≢ 0 → IsValidWord T H (case_word fs o d) v → IsCaseOf fs o v
case-go T H fs o d v None b at e some fine = absurd (fine Case (some, λ f here l. (let bad : Some f ≡ None = sym here ∙ at in cc)))
case-go T H fs o d v (Some f) true at e some fine = record { field = f; at = at; label = label-case f f.label o refl e }
case-go T H fs o d v (Some f) false at e some fine =
    absurd (fine Case (some, λ g here l. label-no_case f f.label o refl e (ap (λ (x : Field). x.label) (same-field fs v f g at here) ∙ l)))

case-of : (T : Table) (H : ℕ) (fs : List Field) (o d v : ℕ) → v ≢ 0 → IsValidWord T H (case_word fs o d) v → IsCaseOf fs o v
case-of T H fs o d v some fine = case-go T H fs o d v (field_at fs v) (is-case (field_at fs v) o) refl refl some fine

-- the fields with one more member
member-good : (T : Table) (fs : List Field) (room o v : ℕ) (i : Item) (t : Node) → v ≢ 0 → IsCaseOf fs o v
    → GoodItem T (kind_at fs v) room i → GoodNode T fs room (IsMemberFrom fs (o + 1)) t
    → GoodNode T fs room (IsMemberFrom fs o) (insert_field v (one i) t)
member-good T fs room o v i t some case good rest =
    let kind : kind_at fs v ≡ case.field.kind = ap (λ x. unwrap_or (option_map (λ (f : Field). f.kind) x) Uint64) case.at in
    let is : IsItem T case.field.kind i = subst (λ k. IsItem T k i) kind good.is in
    let takes : CanHaveOne case.field.label i = subst (λ l. CanHaveOne l i) (sym case.label) tt in
    let has : HasContent T fs v (one i) = (case.field, case.at, takes, is) in
    let above : 0 < v = omega (arith, some) in
    insert-good T fs room (IsMemberFrom fs (o + 1)) (IsMemberFrom fs o) v (one i) t
    (λ n m. record { field = m.field; oneof = m.oneof; at = m.at; label = m.label; from = let a = m.from in omega (arith, a) })
    (record { field = case.field; oneof = o; at = case.at; label = case.label; from = omega arith })
    above has good.depth
    (numbers-weaker (IsMemberFrom fs (o + 1)) (λ n. n ≢ v) t
    (λ n m e. (let same : case.field ≡ m.field = same-field fs v case.field m.field case.at (ap (field_at fs) (sym e) ∙ m.at) in
    let oneof : o ≡ m.oneof = same-oneof o m.oneof (sym case.label ∙ ap (λ (f : Field). f.label) same ∙ m.label) in
    let a = m.from in omega (arith, a, oneof)))
    rest.numbers)
    (λ p. ⊎_elim
    (λ s. (let here = members-of fs p v case.field (membership case.field.label p) case.at refl in
    let few = membership-few case.field.label p in
    let none = none-of fs p (o + 1) t (let e = s.1 in omega (arith, e)) rest.numbers in
    omega (arith, here, few, none)))
    (λ s. (let away = members-of fs p v case.field 0 case.at (membership-away case.field.label o p case.label s.1) in
    let few = rest.members p in
    omega (arith, away, few)))
    (eqb_tells o p))
    rest

with_member-go : (T : Table) (H : ℕ) (fs : List Field) (o d p v : ℕ) (c : Placed) (b : Bool) (t : Node) → (v == 0) ≡ b
    → d ≤ 32 → IsValidWord T H (case_word fs o d) v
    → AreSound T H (cond b [] ((plain_role (kind_at fs v) d true, p + 1) ∷ [])) c → Facts T H c
    → GoodNode T fs (33 - d) (IsMemberFrom fs (o + 1)) t
    → GoodNode T fs (33 - d) (IsMemberFrom fs o) (with_member T fs (word p v c) t)
with_member-go T H fs o d p v nothing true t e low fine h facts rest =
    weaker-good T fs (33 - d) (IsMemberFrom fs (o + 1)) (IsMemberFrom fs o) t
    (λ n m. record { field = m.field; oneof = m.oneof; at = m.at; label = m.label; from = let a = m.from in omega (arith, a) }) rest
with_member-go T H fs o d p v (first w c) true t e low fine h facts rest = absurd h
with_member-go T H fs o d p v nothing false t e low fine h facts rest = absurd h
with_member-go T H fs o d p v (first w c) false t e low fine h facts rest =
    member-good T fs (33 - d) o v (plain_item T (kind_at fs v) w) t (not-zero-of v e) (case-of T H fs o d v (not-zero-of v e) fine)
    (facts.head (kind_at fs v) d (p + 1) [] low h) rest

-- ---- all words

good-empty : (T : Table) (fs : List Field) (d : ℕ) (Q : ℕ → Type 0) → d ≤ 32 → GoodNode T fs (33 - d) Q no_fields
good-empty T fs d Q low = record { fields = tt; depth = omega (arith, low); numbers = tt; members = λ o. omega arith }

no-elements : (T : Table) (H : ℕ) (k : Kind) (n d q : ℕ) → AreSound T H (elements_from n k d q) nothing → GoodElements T k (33 - d) n no_items
no-elements T H k zero d q h = record { all = tt; depth = omega arith; some = λ nz. absurd (nz refl) }
no-elements T H k (suc n) d q h = absurd h

no-entries : (T : Table) (H : ℕ) (key k : Kind) (n d q : ℕ) → AreSound T H (entries_from n key k d q) nothing → GoodEntries T key k (33 - d) n []
no-entries T H key k zero d q h = record { all = tt; depth = tt; some = λ nz. absurd (nz refl) }
no-entries T H key k (suc n) d q h = absurd h

needed : (v : ℕ) → v ≡ 0 → true ≡ true
needed v e = refl

cases-step : (T : Table) (H p v : ℕ) (c P : Placed) → Facts T H c → Facts T H P → (fs : List Field) (k o d r : ℕ)
    → d ≤ 32 → AreSound T H (cases_from k fs o d r) (first (word p v c) P)
    → GoodNode T fs (33 - d) (IsMemberFrom fs o) (slots_tree T fs [] (first (word p v c) P))
cases-step T H p v c P inside expected_after fs zero o d r low h = absurd h
cases-step T H p v c P inside expected_after fs (suc k) o d r low h =
    with_member-go T H fs o d p v c (v == 0) (slots_tree T fs [] P) refl low h.2 h.3 inside (expected_after.cases fs k (o + 1) d (r + 3) low h.4)

slots-step : (law : KeptAreNormal) (T : Table) (H p v : ℕ) (c P : Placed) → AllRise T → Facts T H c → Facts T H P
    → (fs slots : List Field) (last k o d q r : ℕ) → d ≤ 32 → SlotsFrom fs last slots
    → AreSound T H (slots_from slots d q ++ cases_from k fs o d r) (first (word p v c) P)
    → GoodNode T fs (33 - d) (IsMemberOrAbove fs last) (slots_tree T fs slots (first (word p v c) P))
slots-step law T H p v c P rise inside expected_after fs [] last k o d q r low from h =
    weaker-good T fs (33 - d) (IsMemberFrom fs o) (IsMemberOrAbove fs last) (slots_tree T fs [] (first (word p v c) P))
    (λ n m. inl (record { field = m.field; oneof = m.oneof; at = m.at; label = m.label; from = omega arith }))
    (cases-step T H p v c P inside expected_after fs k o d r low h)
slots-step law T H p v c P rise inside expected_after fs (f ∷ slots) last k o d q r low from h =
    with-slot T fs last (33 - d) f (slot_content T f.label f.kind (word p v c)) (slots_tree T fs slots P) from.0 from.1 from.2
    (content-good law T H f.label f.kind d p v c rise low from.2 from.3 h.1 h.2 h.3 inside)
    (expected_after.slots fs slots f.number k o d (q + 2) r low from.4 h.4)

elements-step : (T : Table) (H p v : ℕ) (c P : Placed) → AllRise T → Facts T H c → Facts T H P
    → (k : Kind) (n d q : ℕ) → d ≤ 32 → AreSound T H (elements_from n k d q) (first (word p v c) P)
    → GoodElements T k (33 - d) n (elements_in T k (first (word p v c) P))
elements-step T H p v c P rise inside expected_after k zero d q low h = absurd h
elements-step T H p v c P rise inside expected_after k (suc n) d q low h =
    let i = plain-good T H k d true p v c low h.1 h.2 (needed v) h.3 (node-fact T H c rise inside) in
    let rest = expected_after.elements k n d (q + element_words k) low h.4 in
    record { all = (i.is, rest.all); depth = let a = i.depth in let b = rest.depth in omega (arith, a, b); some = λ nz e. cc }

-- a value, and the entries after it
second-step : (T : Table) (H p v : ℕ) (c P : Placed) → AllRise T → Facts T H c → Facts T H P
    → (key k : Kind) (n d at q : ℕ) → d ≤ 32
    → AreSound T H ((plain_role k d true, at) ∷ entries_from n key k d q) (first (word p v c) P)
    → SecondGood T key k (33 - d) n (first (word p v c) P)
second-step T H p v c P rise inside expected_after key k n d at q low h =
    (plain-good T H k d true p v c low h.1 h.2 (needed v) h.3 (node-fact T H c rise inside), expected_after.entries key k n d q low h.4)

entries-step : (T : Table) (H p v : ℕ) (c P : Placed) → AllRise T → Facts T H c → Facts T H P
    → (key k : Kind) (n d q : ℕ) → d ≤ 32 → AreSound T H (entries_from n key k d q) (first (word p v c) P)
    → GoodEntries T key k (33 - d) n (entries_in T key k (first (word p v c) P))
entries-step T H p v c nothing rise inside expected_after key k zero d q low h = absurd h
entries-step T H p v c (first w P) rise inside expected_after key k zero d q low h = absurd h
entries-step T H p v c nothing rise inside expected_after key k (suc n) d q low h = absurd h.4
entries-step T H p v c (first w P) rise inside expected_after key k (suc n) d q low h =
    let i = plain-good T H key d true p v c low h.1 h.2 (needed v) h.3 (node-fact T H c rise inside) in
    let rest = expected_after.second key k n d (q + 2) (q + 4) low h.4 in
    record {
      all = ((i.is, rest.0.is), rest.1.all);
      depth = ((i.depth, rest.0.depth), rest.1.depth);
      some = λ nz. ((plain_item T key (word p v c), plain_item T k w), entries_in T key k P, refl);
    }

facts : (law : KeptAreNormal) (T : Table) (H : ℕ) (P : Placed) → AllRise T → Facts T H P
facts law T H nothing rise = record {
  slots = λ fs slots last k o d q r low from h. good-empty T fs d (IsMemberOrAbove fs last) low;
  cases = λ fs k o d r low h. good-empty T fs d (IsMemberFrom fs o) low;
  head = λ k d q es low h. h;
  elements = λ k n d q low h. no-elements T H k n d q h;
  entries = λ key k n d q low h. no-entries T H key k n d q h;
  second = λ key k n d p q low h. h;
  elements_at = λ k n d q low h. absurd h;
  entries_at = λ key k n d q low h. absurd h;
}
facts law T H (first (word p v c) P) rise =
    let inside = facts law T H c rise in
    let expected_after = facts law T H P rise in
    record {
      slots = slots-step law T H p v c P rise inside expected_after;
      cases = cases-step T H p v c P inside expected_after;
      head = λ k d q es low h. plain-good T H k d true p v c low h.1 h.2 (needed v) h.3 (node-fact T H c rise inside);
      elements = elements-step T H p v c P rise inside expected_after;
      entries = entries-step T H p v c P rise inside expected_after;
      second = second-step T H p v c P rise inside expected_after;
      elements_at = λ k n d q low h. inside.elements k n d v low h.3;
      entries_at = λ key k n d q low h. inside.entries key k n d v low h.3;
    }

pub normal-tree : (law : KeptAreNormal) (T : Table) (H msg address : ℕ) (P : Placed) → IsValid T → IsSound T H msg address P → IsNormal T msg (tree_of T msg P)
normal-tree law T H msg address P valid sound =
    let rise = all-rise T valid in
    let good = node-fact T H P rise (facts law T H P rise) msg 1 address (omega arith) sound.words in
    record { fields = good.fields; oneofs = good.members; depth = good.depth }
