-- The meaning of bytes, rule by rule, is the message that their contents are merged to.
use Rattle.std.proofs.Common.{◌≡◌, ◌≢◌, ℕ, zero, suc, List, [], ◌∷◌, ◌++◌, map, Option, Some, None, true, false, refl, ap, sym, subst, ◌∙◌, arith, append-nil}
use Rattle.mrpc_table.specs.Node.{Node, Content, one, many, pairs, Item, number, run, node}
use Rattle.mrpc_table.specs.Normal.{fields_of}
use Rattle.mrpc_table.specs.declared.table.Kind.{Kind}
use Rattle.mrpc_table.specs.declared.table.Kind.TheVariants.{Message as OfMessage}
use Rattle.mrpc_table.specs.declared.table.Label.{Label}
use Rattle.mrpc_table.specs.declared.table.Label.TheVariants.{Plain, Optional, Repeated, Packed, Map, Member}
use Rattle.mrpc_table.specs.declared.table.Field.{Field}
use Rattle.mrpc_table.specs.declared.table.Table.{Table}
use Rattle.mrpc_table.specs.MapEntries.{last_of_each}
use Rattle.wire_decode.specs.Words.{is_list, is_map}
use Rattle.wire_decode.specs.RawMessages.{IsRawMessage, read_end, numbers}
use Rattle.wire_decode.specs.Known.{is_message_kind, entry_fields}
use Rattle.wire_decode.specs.Merged.{contents_of, list_of_items, values_in, singles_in, joined_messages, last_value, singular}
use Rattle.wire_decode.specs.Merged.{merged_element, merged_entry, field_content}
use Rattle.wire_decode.specs.Contents.{present, present_if_set, some_items, some_pairs}
use Rattle.wire_decode.specs.Merged.{counted_records}
use Rattle.wire_decode.specs.Contents.{with_content}
use Rattle.mrpc_table.specs.Words.{has_one_value}
use Rattle.wire_decode.specs.Contents.{single_content}
use Rattle.wire_decode.specs.Meaning as rule
use Rattle.wire_decode.specs.Meaning.{RecordValue, single, packed, delimited, counted_values, values_with_number, values_but}
use Rattle.wire_decode.specs.Meaning.{joined_payloads, item_or_default, MeansIn, means_in, AreFields, no_field}
use Rattle.wire_decode.specs.Meaning.{one_field, FieldMeans, no_value, one_message, elements, entries, ValueMeans}
use Rattle.wire_decode.specs.Meaning.{of_number, of_piece, of_run, of_message, AreItems, no_items, more_items}
use Rattle.wire_decode.specs.Meaning.{AreEntries, no_entries, more_entries}
use Rattle.wire_decode.proofs.WireLaws.{Law}
use Rattle.wire_decode.proofs.Unique.{reads-same}
use Rattle.wire_decode.proofs.Merging.{element-same, content-none, field-here}
use Rattle.wire_decode.proofs.Reading.{join-none}
use Rattle.wire_decode.proofs.Shifting.{reads-joined}
use Rattle.wire_decode.proofs.Taken.{contents_but, taken, merged_taken, meaning, taken-suc, entry-same}
use Rattle.wire_decode.proofs.Alike.{Alike, alike_number, alike_piece, alike_run, alike_message, alike_entry}
use Rattle.wire_decode.proofs.Alike.{AllAlike, Match, match-counted, match-field, match-but, Agree, Inner, Entries}
use Rattle.wire_decode.proofs.Alike.{AllEntries, values-of, contents-of}

-- ---- labels

single-no_map : (label : Label) → has_one_value label ≡ true → is_map label ≡ false
single-no_map (Map key) h = absurd (cc)
single-no_map _ h = refl

single-no_list : (label : Label) → has_one_value label ≡ true → is_list label ≡ true → ⊥
single-no_list Repeated h l = (cc)
single-no_list Packed h l = (cc)
single-no_list Plain h l = (cc)
single-no_list Optional h l = (cc)
single-no_list (Map key) h l = (cc)
single-no_list (Member o) h l = (cc)

list-no_map : (label : Label) → is_list label ≡ true → is_map label ≡ false
list-no_map (Map key) h = absurd (cc)
list-no_map _ h = refl

map-clash : (label : Label) (key : Kind) → is_map label ≡ false → label ≡ Map key → ⊥
map-clash label key outside e = (let h : false ≡ true = sym outside ∙ ap is_map e in cc)

message-clash : (k : Kind) (i : ℕ) → is_message_kind k ≡ false → k ≡ OfMessage i → ⊥
message-clash k i outside e = (let h : false ≡ true = sym outside ∙ ap is_message_kind e in cc)

single-content : (inner : ℕ → Node → Node) (label : Label) (k : Kind) (cs : List Content) (i : Item)
    → has_one_value label ≡ true → singular inner k (singles_in cs) ≡ Some i
    → field_content inner label k cs ≡ single_content label i
single-content inner Plain k cs i h e = ap present_if_set e
single-content inner Optional k cs i h e = ap present e
single-content inner (Member o) k cs i h e = ap present e
single-content inner Repeated k cs i h e = absurd (cc)
single-content inner Packed k cs i h e = absurd (cc)
single-content inner (Map key) k cs i h e = absurd (cc)

list-content : (inner : ℕ → Node → Node) (label : Label) (k : Kind) (cs : List Content) → is_list label ≡ true
    → field_content inner label k cs ≡ some_items (map (merged_element inner k) (values_in cs))
list-content inner Repeated k cs h = refl
list-content inner Packed k cs h = refl
list-content inner Plain k cs h = absurd (cc)
list-content inner Optional k cs h = absurd (cc)
list-content inner (Map key) k cs h = absurd (cc)
list-content inner (Member o) k cs h = absurd (cc)

singular-last : (inner : ℕ → Node → Node) (k : Kind) (is : List Item) → is_message_kind k ≡ false → singular inner k is ≡ last_value is
singular-last inner (OfMessage i) is h = absurd (cc)
singular-last inner _ is h = refl

singular-some : (inner : ℕ → Node → Node) (i : ℕ) (c : Content) (cs : List Content) (j : Item) → c ≡ one j
    → singular inner (OfMessage i) (singles_in (c ∷ cs)) ≡ Some (node (inner i (joined_messages (singles_in (c ∷ cs)))))
singular-some inner i c cs j e = subst (λ (x : Content). singular inner (OfMessage i) (singles_in (x ∷ cs)) ≡ Some (node (inner i (joined_messages (singles_in (x ∷ cs)))))) (sym e) refl

-- ---- values of kinds that are no message

abbrev plain_items : RecordValue → List Item
plain_items (single n) = number n ∷ []
plain_items (packed ns) = map number ns
plain_items (delimited bytes) = run bytes ∷ []

means-plain : (T : Table) (room : ℕ) (k : Kind) (v : RecordValue) (is : List Item) → is_message_kind k ≡ false → ValueMeans T room k v is → is ≡ plain_items v
means-plain T room k v is plain (of_number n e i) = i ∙ sym (ap plain_items e)
means-plain T room k v is plain (of_piece ns e i) = i ∙ sym (ap plain_items e)
means-plain T room k v is plain (of_run bytes p e i) = i ∙ sym (ap plain_items e)
means-plain T room k v is plain (of_message m inside bytes t kind room_is e means i) = absurd (message-clash k m plain kind)

alike-item : (T : Table) (room : ℕ) (label : Label) (k : Kind) (v : RecordValue) (c : Content) → has_one_value label ≡ true
    → is_message_kind k ≡ false → Alike T room label k v c → (i : Item) × (c ≡ one i) × ValueMeans T room k v (i ∷ [])
alike-item T room label k v c one_only plain (alike_number n no_map p e i) = (number n, i, of_number n e refl)
alike-item T room label k v c one_only plain (alike_piece ns list p e i) = absurd (single-no_list label one_only list)
alike-item T room label k v c one_only plain (alike_run bytes no_map p e i) = (run bytes, i, of_run bytes plain e refl)
alike-item T room label k v c one_only plain (alike_message m inside bytes t no_map kind room_is e reads i) = absurd (message-clash k m plain kind)
alike-item T room label k v c one_only plain (alike_entry key bytes t map_is e reads i) = absurd (map-clash label key (single-no_map label one_only) map_is)

-- ---- the last value

abbrev last_of : List RecordValue → Option RecordValue
last_of [] = None
last_of (v ∷ []) = Some v
last_of (v ∷ w ∷ vs) = last_of (w ∷ vs)

last-behind : (before : List RecordValue) (v : RecordValue) → last_of (before ++ v ∷ []) ≡ Some v
last-behind [] v = refl
last-behind (b ∷ []) v = refl
last-behind (b ∷ c ∷ cs) v = last-behind (c ∷ cs) v

skip-first : (a b : Item) (c d : Content) (cs : List Content) → c ≡ one a → d ≡ one b → last_value (singles_in (c ∷ d ∷ cs)) ≡ last_value (singles_in (d ∷ cs))
skip-first a b c d cs e f =
    ap (λ x. last_value (singles_in (x ∷ d ∷ cs))) e ∙ ap (λ x. last_value (singles_in (one a ∷ x ∷ cs))) f ∙ sym (ap (λ x. last_value (singles_in (x ∷ cs))) f)

pub record IsLast (T : Table) (room : ℕ) (k : Kind) (vs : List RecordValue) (cs : List Content) : Type 0 where
  pub before : List RecordValue
  pub last : RecordValue
  pub item : Item
  pub split : vs ≡ before ++ last ∷ []
  pub means : ValueMeans T room k last (item ∷ [])
  pub found : last_value (singles_in cs) ≡ Some item

last-to : (T : Table) (room : ℕ) (label : Label) (k : Kind) (v : RecordValue) (vs : List RecordValue) (c : Content) (cs : List Content) → has_one_value label ≡ true → is_message_kind k ≡ false
    → Alike T room label k v c → AllAlike T room label k vs cs → IsLast T room k (v ∷ vs) (c ∷ cs)
last-to T room label k v [] c [] one_only plain h more =
    let i = alike-item T room label k v c one_only plain h in
    record { before = []; last = v; item = i.0; split = refl; means = i.2; found = ap (λ x. last_value (singles_in (x ∷ []))) i.1 }
last-to T room label k v [] c (d ∷ cs) one_only plain h more = absurd more
last-to T room label k v (w ∷ vs) c [] one_only plain h more = absurd more
last-to T room label k v (w ∷ vs) c (d ∷ cs) one_only plain h more =
    let r = last-to T room label k w vs d cs one_only plain more.0 more.1 in
    let i = alike-item T room label k v c one_only plain h in
    let j = alike-item T room label k w d one_only plain more.0 in
    record { before = v ∷ r.before; last = r.last; item = r.item; split = ap (λ xs. v ∷ xs) r.split; means = r.means; found = skip-first i.0 j.0 c d cs i.1 j.1 ∙ r.found }

-- ---- messages

-- the message of a payload, and its contents
pub record IsMessage (T : Table) (inside i : ℕ) (v : RecordValue) (c : Content) : Type 0 where
  pub bytes : List ℕ
  pub tree : Node
  pub value : v ≡ delimited bytes
  pub content : c ≡ one (node tree)
  pub reads : IsRawMessage T inside (fields_of T i) bytes 0 tree

message-room : (T : Table) (room : ℕ) (label : Label) (k : Kind) (i : ℕ) (v : RecordValue) (c : Content)
    → is_map label ≡ false → k ≡ OfMessage i → Alike T room label k v c → (inside : ℕ) × (room ≡ suc inside)
message-room T room label k i v c outside kind (alike_number n no_map p e is) = absurd (message-clash k i p kind)
message-room T room label k i v c outside kind (alike_piece ns list p e is) = absurd (message-clash k i p kind)
message-room T room label k i v c outside kind (alike_run bytes no_map p e is) = absurd (message-clash k i p kind)
message-room T room label k i v c outside kind (alike_message m inside bytes t no_map kind_is room_is e reads is) = (inside, room_is)
message-room T room label k i v c outside kind (alike_entry key bytes t map_is e reads is) = absurd (map-clash label key outside map_is)

is-message : (T : Table) (room inside : ℕ) (label : Label) (k : Kind) (i : ℕ) (v : RecordValue) (c : Content)
    → is_map label ≡ false → k ≡ OfMessage i → room ≡ suc inside → Alike T room label k v c → IsMessage T inside i v c
is-message T room inside label k i v c outside kind room_is (alike_number n no_map p e is) = absurd (message-clash k i p kind)
is-message T room inside label k i v c outside kind room_is (alike_piece ns list p e is) = absurd (message-clash k i p kind)
is-message T room inside label k i v c outside kind room_is (alike_run bytes no_map p e is) = absurd (message-clash k i p kind)
is-message T room inside label k i v c outside kind room_is (alike_message m deep bytes t no_map kind_is deep_is e reads is) =
    let messages : OfMessage m ≡ OfMessage i = sym kind_is ∙ kind in
    let place : m ≡ i = cc in
    let rooms : deep ≡ inside = (let h : suc deep ≡ suc inside = sym deep_is ∙ room_is in omega (arith, h)) in
    record {
      bytes = bytes;
      tree = t;
      value = e;
      content = is;
      reads = subst (λ (x : ℕ). IsRawMessage T inside (fields_of T x) bytes 0 t) place
          (subst (λ (x : ℕ). IsRawMessage T x (fields_of T m) bytes 0 t) rooms reads);
    }
is-message T room inside label k i v c outside kind room_is (alike_entry key bytes t map_is e reads is) = absurd (map-clash label key outside map_is)

-- the payloads concatenated, and their contents
joined-alike : (T : Table) (room inside : ℕ) (label : Label) (k : Kind) (i : ℕ) (vs : List RecordValue) (cs : List Content)
    → is_map label ≡ false → k ≡ OfMessage i → room ≡ suc inside → AllAlike T room label k vs cs
    → IsRawMessage T inside (fields_of T i) (joined_payloads vs) 0 (joined_messages (singles_in cs))
joined-alike T room inside label k i [] [] outside kind room_is h = read_end refl refl
joined-alike T room inside label k i [] (c ∷ cs) outside kind room_is h = absurd h
joined-alike T room inside label k i (v ∷ vs) [] outside kind room_is h = absurd h
joined-alike T room inside label k i (v ∷ vs) (c ∷ cs) outside kind room_is h =
    let m = is-message T room inside label k i v c outside kind room_is h.0 in
    let rest = joined-alike T room inside label k i vs cs outside kind room_is h.1 in
    let here : IsRawMessage T inside (fields_of T i) (joined_payloads (delimited m.bytes ∷ vs)) 0 (joined_messages (singles_in (one (node m.tree) ∷ cs))) =
    reads-joined T inside (fields_of T i) m.bytes (joined_payloads vs) m.tree (joined_messages (singles_in cs)) m.reads rest in
    subst (λ (x : RecordValue). IsRawMessage T inside (fields_of T i) (joined_payloads (x ∷ vs)) 0 (joined_messages (singles_in (c ∷ cs)))) (sym m.value)
    (subst (λ (x : Content). IsRawMessage T inside (fields_of T i) (joined_payloads (delimited m.bytes ∷ vs)) 0 (joined_messages (singles_in (x ∷ cs)))) (sym m.content) here)

-- the result of merging a message
taken-room : (T : Table) (room inside i : ℕ) (raw : Node) → room ≡ suc inside → merged_taken T room i raw ≡ meaning T inside (fields_of T i) raw
taken-room T room inside i raw e = ap (λ x. merged_taken T x i raw) e ∙ taken-suc T inside i raw

message-content : (T : Table) (room inside : ℕ) (label : Label) (k : Kind) (i : ℕ) (v : RecordValue) (c : Content)
    (cs : List Content) → has_one_value label ≡ true → k ≡ OfMessage i → room ≡ suc inside → Alike T room label k v c
    → field_content (merged_taken T room) label k (c ∷ cs) ≡ single_content label (node (meaning T inside (fields_of T i) (joined_messages (singles_in (c ∷ cs)))))
message-content T room inside label k i v c cs one_only kind room_is h =
    let m = is-message T room inside label k i v c (single-no_map label one_only) kind room_is h in
    let inner = merged_taken T room in
    let raw = joined_messages (singles_in (c ∷ cs)) in
    single-content inner label k (c ∷ cs) (node (meaning T inside (fields_of T i) raw)) one_only
    (ap (λ x. singular inner x (singles_in (c ∷ cs))) kind ∙ singular-some inner i c cs (node m.tree) m.content ∙ ap (λ t. Some (node t)) (taken-room T room inside i raw room_is))

-- ---- elements

map-append : (f : Item → Item) (xs ys : List Item) → map f (xs ++ ys) ≡ map f xs ++ map f ys
map-append f [] ys = refl
map-append f (x ∷ xs) ys = ap (λ zs. f x ∷ zs) (map-append f xs ys)

values-split : (f : Item → Item) (c : Content) (cs : List Content) → map f (values_in (c ∷ cs)) ≡ map f (values_in (c ∷ [])) ++ map f (values_in cs)
values-split f (one i) cs = refl
values-split f (many is) cs = map-append f (list_of_items is) (values_in cs) ∙ ap (λ xs. map f xs ++ map f (values_in cs)) (sym (append-nil (list_of_items is)))
values-split f (pairs ps) cs = refl

piece-items : (inner : ℕ → Node → Node) (k : Kind) (ns : List ℕ) → is_message_kind k ≡ false → map (merged_element inner k) (list_of_items (numbers ns)) ≡ map number ns
piece-items inner k [] plain = refl
piece-items inner k (n ∷ ns) plain = ap (λ i. i ∷ map (merged_element inner k) (list_of_items (numbers ns)))
    (element-same inner k (number n) plain) ∙ ap (λ is. number n ∷ is) (piece-items inner k ns plain)

message-element : (T : Table) (room inside : ℕ) (k : Kind) (i : ℕ) (t : Node) → k ≡ OfMessage i → room ≡ suc inside
    → merged_element (merged_taken T room) k (node t) ≡ node (meaning T inside (fields_of T i) t)
message-element T room inside k i t kind room_is =
    ap (λ x. merged_element (merged_taken T room) x (node t)) kind ∙ ap (λ x. node (merged_taken T room i x)) (join-none t) ∙ ap node (taken-room T room inside i t room_is)

items-of : (T : Table) (room : ℕ) (label : Label) (k : Kind) (v : RecordValue) (c : Content) → Inner T room
    → is_list label ≡ true → Alike T room label k v c
    → ValueMeans T room k v (map (merged_element (merged_taken T room) k) (values_in (c ∷ [])))
items-of T room label k v c inner list (alike_number n no_map plain e is) =
    of_number n e (ap (λ x. map (merged_element (merged_taken T room) k) (values_in (x ∷ []))) is ∙ ap (λ i. i ∷ []) (element-same (merged_taken T room) k (number n) plain))
items-of T room label k v c inner list (alike_piece ns list_is plain e is) =
    of_piece ns e (ap (λ x. map (merged_element (merged_taken T room) k) (values_in (x ∷ []))) is
    ∙ ap (map (merged_element (merged_taken T room) k)) (append-nil (list_of_items (numbers ns)))
    ∙ piece-items (merged_taken T room) k ns plain)
items-of T room label k v c inner list (alike_run bytes no_map plain e is) =
    of_run bytes plain e (ap (λ x. map (merged_element (merged_taken T room) k) (values_in (x ∷ []))) is ∙ ap (λ i. i ∷ []) (element-same (merged_taken T room) k (run bytes) plain))
items-of T room label k v c inner list (alike_message i inside bytes t no_map kind room_is e reads is) =
    of_message i inside bytes (meaning T inside (fields_of T i) t) kind room_is e ((inner inside i room_is).to bytes t reads)
    (ap (λ x. map (merged_element (merged_taken T room) k) (values_in (x ∷ []))) is ∙ ap (λ j. j ∷ []) (message-element T room inside k i t kind room_is))
items-of T room label k v c inner list (alike_entry key bytes t map_is e reads is) = absurd (map-clash label key (list-no_map label list) map_is)

items-to : (T : Table) (room : ℕ) (label : Label) (k : Kind) (vs : List RecordValue) (cs : List Content) → Inner T room
    → is_list label ≡ true → AllAlike T room label k vs cs
    → AreItems T room k vs (map (merged_element (merged_taken T room) k) (values_in cs))
items-to T room label k [] [] inner list h = no_items refl refl
items-to T room label k [] (c ∷ cs) inner list h = absurd h
items-to T room label k (v ∷ vs) [] inner list h = absurd h
items-to T room label k (v ∷ vs) (c ∷ cs) inner list h =
    let f = merged_element (merged_taken T room) k in
    more_items v vs (map f (values_in (c ∷ []))) (map f (values_in cs)) refl
    (items-of T room label k v c inner list h.0) (items-to T room label k vs cs inner list h.1)
    (values-split f c cs)

-- the items of a value that is one message
message-items : Law → (T : Table) (room inside i : ℕ) (k : Kind) (v : RecordValue) (bytes : List ℕ) (t : Node)
    (is : List Item) → Inner T room → k ≡ OfMessage i → room ≡ suc inside → v ≡ delimited bytes
    → IsRawMessage T inside (fields_of T i) bytes 0 t → ValueMeans T room k v is → is ≡ node (meaning T inside (fields_of T i) t) ∷ []
message-items law T room inside i k v bytes t is inner kind room_is value reads (of_number n e j) = absurd (let h : delimited bytes ≡ single n = sym value ∙ e in cc)
message-items law T room inside i k v bytes t is inner kind room_is value reads (of_piece ns e j) = absurd (let h : delimited bytes ≡ packed ns = sym value ∙ e in cc)
message-items law T room inside i k v bytes t is inner kind room_is value reads (of_run other plain e j) = absurd (message-clash k i plain kind)
message-items law T room inside i k v bytes t is inner kind room_is value reads (of_message m deep other u kind_is deep_is e means j) =
    let messages : OfMessage m ≡ OfMessage i = sym kind_is ∙ kind in
    let place : m ≡ i = cc in
    let rooms : deep ≡ inside = (let h : suc deep ≡ suc inside = sym deep_is ∙ room_is in omega (arith, h)) in
    let strings : delimited other ≡ delimited bytes = sym e ∙ value in
    let string : other ≡ bytes = cc in
    let here : MeansIn T inside (fields_of T i) bytes u =
    subst (λ (x : List ℕ). MeansIn T inside (fields_of T i) x u) string
    (subst (λ (x : ℕ). MeansIn T inside (fields_of T x) other u) place
    (subst (λ (x : ℕ). MeansIn T x (fields_of T m) other u) rooms means)) in
    let b = (inner inside i room_is).back bytes u here in
    j ∙ ap (λ x. node x ∷ []) (b.2 ∙ ap (meaning T inside (fields_of T i)) (reads-same law b.1 reads))

items-same : Law → (T : Table) (room : ℕ) (label : Label) (k : Kind) (v : RecordValue) (c : Content) (is : List Item)
    → Inner T room → is_list label ≡ true → Alike T room label k v c → ValueMeans T room k v is
    → is ≡ map (merged_element (merged_taken T room) k) (values_in (c ∷ []))
items-same law T room label k v c is inner list (alike_number n no_map plain e j) h =
    means-plain T room k v is plain h ∙ sym (means-plain T room k v _ plain (items-of T room label k v c inner list (alike_number n no_map plain e j)))
items-same law T room label k v c is inner list (alike_piece ns list_is plain e j) h =
    means-plain T room k v is plain h ∙ sym (means-plain T room k v _ plain (items-of T room label k v c inner list (alike_piece ns list_is plain e j)))
items-same law T room label k v c is inner list (alike_run bytes no_map plain e j) h =
    means-plain T room k v is plain h ∙ sym (means-plain T room k v _ plain (items-of T room label k v c inner list (alike_run bytes no_map plain e j)))
items-same law T room label k v c is inner list (alike_message i inside bytes t no_map kind room_is e reads j) h =
    message-items law T room inside i k v bytes t is inner kind room_is e reads h
    ∙ sym (ap (λ x. map (merged_element (merged_taken T room) k) (values_in (x ∷ []))) j ∙ ap (λ x. x ∷ []) (message-element T room inside k i t kind room_is))
items-same law T room label k v c is inner list (alike_entry key bytes t map_is e reads j) h = absurd (map-clash label key (list-no_map label list) map_is)

items-back : Law → (T : Table) (room : ℕ) (label : Label) (k : Kind) (vs : List RecordValue) (cs : List Content)
    (is : List Item) → Inner T room → is_list label ≡ true → AllAlike T room label k vs cs → AreItems T room k vs is
    → is ≡ map (merged_element (merged_taken T room) k) (values_in cs)
items-back law T room label k [] [] is inner list h (no_items e j) = j
items-back law T room label k [] [] is inner list h (more_items v rest first others e means more j) = absurd (cc)
items-back law T room label k [] (c ∷ cs) is inner list h g = absurd h
items-back law T room label k (v ∷ vs) [] is inner list h g = absurd h
items-back law T room label k (v ∷ vs) (c ∷ cs) is inner list h (no_items e j) = absurd (cc)
items-back law T room label k (v ∷ vs) (c ∷ cs) is inner list h (more_items w rest first others e means more j) =
    let f = merged_element (merged_taken T room) k in
    let same : v ≡ w = cc in
    let rests : vs ≡ rest = cc in
    let here = items-same law T room label k v c first inner list h.0 (subst (λ (x : RecordValue). ValueMeans T room k x first) (sym same) means) in
    let later = items-back law T room label k vs cs others inner list h.1 (subst (λ (x : List RecordValue). AreItems T room k x others) (sym rests) more) in
    j ∙ ap (λ xs. xs ++ others) here ∙ ap (λ xs. map f (values_in (c ∷ [])) ++ xs) later ∙ sym (values-split f c cs)

-- ---- entries

pub record IsPair (T : Table) (room : ℕ) (key k : Kind) (v : RecordValue) (c : Content) : Type 0 where
  pub bytes : List ℕ
  pub tree : Node
  pub value : v ≡ delimited bytes
  pub content : c ≡ one (node tree)
  pub reads : IsRawMessage T room (entry_fields key k) bytes 0 tree

is-pair : (T : Table) (room : ℕ) (label : Label) (key k : Kind) (v : RecordValue) (c : Content) → label ≡ Map key → Alike T room label k v c → IsPair T room key k v c
is-pair T room label key k v c m (alike_number n no_map p e is) = absurd (map-clash label key no_map m)
is-pair T room label key k v c m (alike_piece ns list p e is) = absurd (map-clash label key (list-no_map label list) m)
is-pair T room label key k v c m (alike_run bytes no_map p e is) = absurd (map-clash label key no_map m)
is-pair T room label key k v c m (alike_message i inside bytes t no_map kind room_is e reads is) = absurd (map-clash label key no_map m)
is-pair T room label key k v c m (alike_entry other bytes t map_is e reads is) =
    let maps : Map other ≡ Map key = sym map_is ∙ m in
    let keys : other ≡ key = cc in
    record { bytes = bytes; tree = t; value = e; content = is; reads = subst (λ (x : Kind). IsRawMessage T room (entry_fields x k) bytes 0 t) keys reads }

abbrev pair_of : Table → ℕ → Kind → Kind → Node → Item × Item
pair_of T room key k t = (item_or_default 1 key (meaning T room (entry_fields key k) t), item_or_default 2 k (meaning T room (entry_fields key k) t))

pairs-split : (T : Table) (room : ℕ) (key k : Kind) (c : Content) (cs : List Content) (t : Node) → c ≡ one (node t)
    → map (merged_entry (merged_taken T room) key k) (values_in (c ∷ cs)) ≡ pair_of T room key k t ∷ map (merged_entry (merged_taken T room) key k) (values_in cs)
pairs-split T room key k c cs t e =
    ap (λ x. map (merged_entry (merged_taken T room) key k) (values_in (x ∷ cs))) e ∙ ap (λ p. p ∷ map (merged_entry (merged_taken T room) key k) (values_in cs)) (entry-same T room key k t)

pairs-to : (T : Table) (room : ℕ) (label : Label) (key k : Kind) (vs : List RecordValue) (cs : List Content)
    → Agree T room (entry_fields key k) → label ≡ Map key → AllAlike T room label k vs cs
    → AreEntries T room key k vs (map (merged_entry (merged_taken T room) key k) (values_in cs))
pairs-to T room label key k [] [] agree m h = no_entries refl refl
pairs-to T room label key k [] (c ∷ cs) agree m h = absurd h
pairs-to T room label key k (v ∷ vs) [] agree m h = absurd h
pairs-to T room label key k (v ∷ vs) (c ∷ cs) agree m h =
    let p = is-pair T room label key k v c m h.0 in
    more_entries p.bytes (meaning T room (entry_fields key k) p.tree) vs (map (merged_entry (merged_taken T room) key k) (values_in cs)) (ap (λ x. x ∷ vs) p.value)
    (agree.to p.bytes p.tree p.reads) (pairs-to T room label key k vs cs agree m h.1) (pairs-split T room key k c cs p.tree p.content)

pairs-back : Law → (T : Table) (room : ℕ) (label : Label) (key k : Kind) (vs : List RecordValue) (cs : List Content)
    (es : List (Item × Item)) → Agree T room (entry_fields key k) → label ≡ Map key → AllAlike T room label k vs cs
    → AreEntries T room key k vs es
    → es ≡ map (merged_entry (merged_taken T room) key k) (values_in cs)
pairs-back law T room label key k [] [] es agree m h (no_entries e j) = j
pairs-back law T room label key k [] [] es agree m h (more_entries bytes t rest others e means more j) = absurd (cc)
pairs-back law T room label key k [] (c ∷ cs) es agree m h g = absurd h
pairs-back law T room label key k (v ∷ vs) [] es agree m h g = absurd h
pairs-back law T room label key k (v ∷ vs) (c ∷ cs) es agree m h (no_entries e j) = absurd (cc)
pairs-back law T room label key k (v ∷ vs) (c ∷ cs) es agree m h (more_entries bytes t rest others e means more j) =
    let p = is-pair T room label key k v c m h.0 in
    let first : v ≡ delimited bytes = cc in
    let rests : vs ≡ rest = cc in
    let strings : delimited p.bytes ≡ delimited bytes = sym p.value ∙ first in
    let string : p.bytes ≡ bytes = cc in
    let b = agree.back bytes t means in
    let same : b.0 ≡ p.tree = reads-same law b.1 (subst (λ (x : List ℕ). IsRawMessage T room (entry_fields key k) x 0 p.tree) string p.reads) in
    let tree : t ≡ meaning T room (entry_fields key k) p.tree = b.2 ∙ ap (meaning T room (entry_fields key k)) same in
    let later = pairs-back law T room label key k vs cs others agree m h.1 (subst (λ (x : List RecordValue). AreEntries T room key k x others) (sym rests) more) in
    j ∙ ap (λ x. (item_or_default 1 key x, item_or_default 2 k x) ∷ others) tree
    ∙ ap (λ xs. pair_of T room key k p.tree ∷ xs) later ∙ sym (pairs-split T room key k c cs p.tree p.content)

-- ---- a field

plain-to : (T : Table) (room : ℕ) (label : Label) (k : Kind) (v : RecordValue) (vs : List RecordValue) (c : Content) (cs : List Content) → has_one_value label ≡ true → is_message_kind k ≡ false
    → Alike T room label k v c → AllAlike T room label k vs cs → FieldMeans T room label k (v ∷ vs) (field_content (merged_taken T room) label k (c ∷ cs))
plain-to T room label k v vs c cs one_only plain h more =
    let r = last-to T room label k v vs c cs one_only plain h more in
    rule.last_value r.before r.last r.item one_only plain r.split r.means
    (single-content (merged_taken T room) label k (c ∷ cs) r.item one_only (singular-last (merged_taken T room) k (singles_in (c ∷ cs)) plain ∙ r.found))

single-to : (T : Table) (room : ℕ) (label : Label) (k : Kind) (v : RecordValue) (vs : List RecordValue) (c : Content) (cs : List Content) → Inner T room → has_one_value label ≡ true
    → Alike T room label k v c → AllAlike T room label k vs cs → FieldMeans T room label k (v ∷ vs) (field_content (merged_taken T room) label k (c ∷ cs))
single-to T room label (OfMessage i) v vs c cs inner one_only h more =
    let no_map = single-no_map label one_only in
    let r = message-room T room label (OfMessage i) i v c no_map refl h in
    let reads = joined-alike T room r.0 label (OfMessage i) i (v ∷ vs) (c ∷ cs) no_map refl r.1 (h, more) in
    let raw = joined_messages (singles_in (c ∷ cs)) in
    one_message i r.0 (meaning T r.0 (fields_of T i) raw) one_only refl r.1 (λ e. cc) ((inner r.0 i r.1).to (joined_payloads (v ∷ vs)) raw reads)
    (message-content T room r.0 label (OfMessage i) i v c cs one_only refl r.1 h)
single-to T room label k v vs c cs inner one_only h more = plain-to T room label k v vs c cs one_only refl h more

field-to : (T : Table) (room : ℕ) (label : Label) (k : Kind) (vs : List RecordValue) (cs : List Content) → Inner T room
    → Entries T room label k → AllAlike T room label k vs cs
    → FieldMeans T room label k vs (field_content (merged_taken T room) label k cs)
field-to T room label k [] [] inner ents h = no_value refl (content-none (merged_taken T room) label k)
field-to T room label k [] (c ∷ cs) inner ents h = absurd h
field-to T room label k (v ∷ vs) [] inner ents h = absurd h
field-to T room Plain k (v ∷ vs) (c ∷ cs) inner ents h = single-to T room Plain k v vs c cs inner refl h.0 h.1
field-to T room Optional k (v ∷ vs) (c ∷ cs) inner ents h = single-to T room Optional k v vs c cs inner refl h.0 h.1
field-to T room (Member o) k (v ∷ vs) (c ∷ cs) inner ents h = single-to T room (Member o) k v vs c cs inner refl h.0 h.1
field-to T room Repeated k (v ∷ vs) (c ∷ cs) inner ents h =
    elements (map (merged_element (merged_taken T room) k) (values_in (c ∷ cs))) refl
    (items-to T room Repeated k (v ∷ vs) (c ∷ cs) inner refl h) refl
field-to T room Packed k (v ∷ vs) (c ∷ cs) inner ents h =
    elements (map (merged_element (merged_taken T room) k) (values_in (c ∷ cs))) refl
    (items-to T room Packed k (v ∷ vs) (c ∷ cs) inner refl h) refl
field-to T room (Map key) k (v ∷ vs) (c ∷ cs) inner ents h =
    entries key (map (merged_entry (merged_taken T room) key k) (values_in (c ∷ cs))) refl
    (pairs-to T room (Map key) key k (v ∷ vs) (c ∷ cs) (ents key refl) refl h) refl

none-alike : (T : Table) (room : ℕ) (label : Label) (k : Kind) (vs : List RecordValue) (cs : List Content) → vs ≡ [] → AllAlike T room label k vs cs → cs ≡ []
none-alike T room label k [] [] e h = refl
none-alike T room label k [] (c ∷ cs) e h = absurd h
none-alike T room label k (v ∷ vs) cs e h = absurd (cc)

append-some : (before : List RecordValue) (v : RecordValue) → before ++ v ∷ [] ≡ [] → ⊥
append-some [] v e = cc
append-some (b ∷ bs) v e = cc

last-back : (T : Table) (room : ℕ) (label : Label) (k : Kind) (vs : List RecordValue) (cs : List Content)
    (before : List RecordValue) (last : RecordValue) (i : Item) → has_one_value label ≡ true → is_message_kind k ≡ false
    → AllAlike T room label k vs cs → vs ≡ before ++ last ∷ [] → ValueMeans T room k last (i ∷ []) → field_content (merged_taken T room) label k cs ≡ single_content label i
last-back T room label k [] [] before last i one_only plain h split means = absurd (append-some before last (sym split))
last-back T room label k [] (c ∷ cs) before last i one_only plain h split means = absurd h
last-back T room label k (v ∷ vs) [] before last i one_only plain h split means = absurd h
last-back T room label k (v ∷ vs) (c ∷ cs) before last i one_only plain h split means =
    let r = last-to T room label k v vs c cs one_only plain h.0 h.1 in
    let lasts : Some r.last ≡ Some last = sym (ap last_of r.split ∙ last-behind r.before r.last) ∙ ap last_of split ∙ last-behind before last in
    let same : r.last ≡ last = cc in
    let items : r.item ∷ [] ≡ i ∷ [] = means-plain T room k r.last (r.item ∷ []) plain r.means ∙ ap plain_items same ∙ sym (means-plain T room k last (i ∷ []) plain means) in
    let item : r.item ≡ i = cc in
    single-content (merged_taken T room) label k (c ∷ cs) i one_only (singular-last (merged_taken T room) k (singles_in (c ∷ cs)) plain ∙ r.found ∙ ap Some item)

message-back : Law → (T : Table) (room inside i : ℕ) (label : Label) (k : Kind) (vs : List RecordValue) (cs : List Content)
    (t : Node) → Inner T room → has_one_value label ≡ true → k ≡ OfMessage i → room ≡ suc inside → vs ≢ []
    → AllAlike T room label k vs cs → MeansIn T inside (fields_of T i) (joined_payloads vs) t → field_content (merged_taken T room) label k cs ≡ single_content label (node t)
message-back law T room inside i label k [] [] t inner one_only kind room_is some h means = absurd (some refl)
message-back law T room inside i label k [] (c ∷ cs) t inner one_only kind room_is some h means = absurd h
message-back law T room inside i label k (v ∷ vs) [] t inner one_only kind room_is some h means = absurd h
message-back law T room inside i label k (v ∷ vs) (c ∷ cs) t inner one_only kind room_is some h means =
    let reads = joined-alike T room inside label k i (v ∷ vs) (c ∷ cs) (single-no_map label one_only) kind room_is h in
    let b = (inner inside i room_is).back (joined_payloads (v ∷ vs)) t means in
    message-content T room inside label k i v c cs one_only kind room_is h.0
    ∙ ap (λ x. single_content label (node x)) (sym (b.2 ∙ ap (meaning T inside (fields_of T i)) (reads-same law b.1 reads)))

field-back : Law → (T : Table) (room : ℕ) (label : Label) (k : Kind) (vs : List RecordValue) (cs : List Content)
    (c : Option Content) → Inner T room → Entries T room label k → AllAlike T room label k vs cs
    → FieldMeans T room label k vs c
    → c ≡ field_content (merged_taken T room) label k cs
field-back law T room label k vs cs c inner ents h (no_value e is) =
    is ∙ sym (ap (field_content (merged_taken T room) label k) (none-alike T room label k vs cs e h)
    ∙ content-none (merged_taken T room) label k)
field-back law T room label k vs cs c inner ents h (rule.last_value before last i one_only plain split means is) =
    is ∙ sym (last-back T room label k vs cs before last i one_only plain h split means)
field-back law T room label k vs cs c inner ents h (one_message i inside t one_only kind room_is some means is) =
    is ∙ sym (message-back law T room inside i label k vs cs t inner one_only kind room_is some h means)
field-back law T room label k vs cs c inner ents h (elements is list items e) =
    e ∙ ap some_items (items-back law T room label k vs cs is inner list h items)
    ∙ sym (list-content (merged_taken T room) label k cs list)
field-back law T room label k vs cs c inner ents h (entries key es m pairs_are e) =
    e ∙ ap (λ x. some_pairs (last_of_each key x)) (pairs-back law T room label key k vs cs es (ents key m) m h pairs_are)
    ∙ sym (ap (λ x. field_content (merged_taken T room) x k cs) m)

-- ---- the fields

fields-to : (T : Table) (room : ℕ) (fs : List Field) (vs : List (ℕ × RecordValue)) (raw : Node) → Inner T room
    → AllEntries T room fs → Match T room fs vs raw → AreFields T room fs vs (taken (merged_taken T room) raw fs)
fields-to T room [] vs raw inner ents h = no_field refl refl
fields-to T room (f ∷ fs) vs raw inner ents h =
    one_field f fs (field_content (merged_taken T room) f.label f.kind (contents_of f.number raw)) (taken (merged_taken T room) (contents_but f.number raw) fs) refl
    (field-to T room f.label f.kind (values_with_number f.number vs) (contents_of f.number raw) inner ents.0 (match-field T room (f ∷ fs) f.number f vs raw (field-here f fs f.number refl) h))
    (fields-to T room fs (values_but f.number vs) (contents_but f.number raw) inner ents.1 (match-but T room f fs vs raw h)) refl

fields-back : Law → (T : Table) (room : ℕ) (fs : List Field) (vs : List (ℕ × RecordValue)) (t raw : Node) → Inner T room
    → AllEntries T room fs → Match T room fs vs raw → AreFields T room fs vs t
    → t ≡ taken (merged_taken T room) raw fs
fields-back law T room [] vs t raw inner ents h (no_field e is) = is
fields-back law T room [] vs t raw inner ents h (one_field f rest c others e means more is) = absurd (cc)
fields-back law T room (f ∷ fs) vs t raw inner ents h (no_field e is) = absurd (cc)
fields-back law T room (f ∷ fs) vs t raw inner ents h (one_field g rest c others e means more is) =
    let same : g ≡ f = cc in
    let rests : rest ≡ fs = cc in
    let here : FieldMeans T room f.label f.kind (values_with_number f.number vs) c = subst (λ (x : Field). FieldMeans T room x.label x.kind (values_with_number x.number vs) c) same means in
    let later : AreFields T room fs (values_but f.number vs) others =
    subst (λ (x : List Field). AreFields T room x (values_but f.number vs) others) rests
    (subst (λ (x : Field). AreFields T room rest (values_but x.number vs) others) same more) in
    let content = field-back law T room f.label f.kind (values_with_number f.number vs) (contents_of f.number raw) c inner
    ents.0 (match-field T room (f ∷ fs) f.number f vs raw (field-here f fs f.number refl) h) here in
    let behind = fields-back law T room fs (values_but f.number vs) others (contents_but f.number raw) inner ents.1 (match-but T room f fs vs raw h) later in
    is ∙ ap (λ (x : Field). with_content x.number c others) same ∙ ap (λ x. with_content f.number x others) content
    ∙ ap (with_content f.number (field_content (merged_taken T room) f.label f.kind (contents_of f.number raw))) behind

-- ---- the message

back-one : Law → (T : Table) (room : ℕ) (fs : List Field) → Inner T room → AllEntries T room fs
    → (bytes : List ℕ) (t : Node) → MeansIn T room fs bytes t
    → (raw : Node) × IsRawMessage T room fs bytes 0 raw × (t ≡ meaning T room fs raw)
back-one law T room fs inner ents bytes t (means_in rs vs records values fields) =
    let r = contents-of T room fs inner ents bytes rs vs values 0 records in
    (r.0, r.1, fields-back law T room fs (counted_values fs vs) t (counted_records fs r.0) inner ents (match-counted T room fs fs vs r.0 r.2) fields)

agree-one : Law → (T : Table) (room : ℕ) (fs : List Field) → Inner T room → AllEntries T room fs → Agree T room fs
agree-one law T room fs inner ents = record {
  to = λ bytes raw reads.
      let h = values-of T room fs inner ents bytes 0 raw reads in
      means_in h.0 h.1 h.2 h.3 (fields-to T room fs (counted_values fs h.1) (counted_records fs raw) inner ents (match-counted T room fs fs h.1 raw h.4));
  back = λ bytes t means. back-one law T room fs inner ents bytes t means;
}

all-entries : Law → (T : Table) (room : ℕ) (fs : List Field) → Inner T room → AllEntries T room fs
all-entries law T room [] inner = tt
all-entries law T room (f ∷ fs) inner = (
  λ key e. agree-one law T room (entry_fields key f.kind) inner ((λ k h. absurd (cc)), ((λ k h. absurd (cc)), tt)),
  all-entries law T room fs inner,
)

pub agree : Law → (T : Table) (room : ℕ) (fs : List Field) → Agree T room fs
agree law T zero fs =
    let inner : Inner T 0 = λ inside i e. absurd (omega (arith, e)) in
    agree-one law T 0 fs inner (all-entries law T 0 fs inner)
agree law T (suc n) fs =
    let inner : Inner T (suc n) = λ inside i e. subst (λ (x : ℕ). Agree T x (fields_of T i)) (let h : n ≡ inside = omega (arith, e) in h) (agree law T n (fields_of T i)) in
    agree-one law T (suc n) fs inner (all-entries law T (suc n) fs inner)
