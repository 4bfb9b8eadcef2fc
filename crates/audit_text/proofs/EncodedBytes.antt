-- The encoding of a normal tree consists of bytes.
use Rattle.std.proofs.Common.{◌≡◌, ℕ, zero, suc, ◌+◌, ◌*◌, ◌/◌, ◌%◌, ◌^◌, ◌<◌, ◌≤◌, List, [], ◌∷◌, ◌++◌, length, All}
use Rattle.std.proofs.Common.{Some, Bool, true, false, cond, ◌&&◌, refl, ap, sym, subst, ◌∙◌, arith, inl, inr}
use Rattle.std.proofs.Common.{slice_get, option_map, unwrap_or, length-append, nat_lt}
use Rattle.std.specs.Int.{bytes_low_first}
use Rattle.std.specs.Str.{encode_utf8_all, all_scalars as scalars}
use Rattle.std.proofs.Math.Utf8.{scalar, scalar_cases}
use Rattle.std.specs.Char.{encode_utf8}
use Rattle.std.proofs.lemmas.Bool.Decides.{nat_tests, eqb_tells}
use Rattle.std.proofs.lemmas.List.Elements.{All-head, All-tail}
use Rattle.mrpc_table.specs.Node.{Node, no_fields, field, Content, one, many, pairs, Item, number, run, node, Items, no_items, item, Pairs, no_pairs, pair}
use Rattle.mrpc_table.specs.Normal.{IsNormal, HasFields, HasContent, IsItem, AreItems, ArePairs, IsRun, fields_of, field_at, kind_at, label_at}
use Rattle.mrpc_table.specs.Valid.{IsValid, IsMessage, IsField}
use Rattle.mrpc_table.specs.WireTypes.{wire_len, wire_type_of}
use Rattle.mrpc_table.specs.Words.{IsWordForm, IsSigned32, key_kind, nested_message}
use Rattle.mrpc_table.specs.declared.table.Kind.{Kind}
use Rattle.mrpc_table.specs.declared.table.Kind.TheVariants.{Int32, Int64, Uint32, Uint64, Sint32, Sint64}
use Rattle.mrpc_table.specs.declared.table.Kind.TheVariants.{Bool as TheBool, Fixed32, Fixed64, Sfixed32, Sfixed64}
use Rattle.mrpc_table.specs.declared.table.Kind.TheVariants.{Float, Double, Text, Octets, Message as OfMessage}
use Rattle.mrpc_table.specs.declared.table.Kind.TheVariants.{Choice}
use Rattle.mrpc_table.specs.declared.table.Label.TheVariants.{Plain}
use Rattle.mrpc_table.specs.declared.table.Field.{Field}
use Rattle.mrpc_table.specs.declared.table.Message.{Message}
use Rattle.mrpc_table.specs.declared.table.Table.{Table}
use Rattle.wire_base.specs.Encoding.{encoding, groups, varint, tag, delimited, zigzag_of, number_bytes}
use Rattle.wire_base.specs.Encoding.{is_packed, fields_bytes, content_bytes, item_bytes, joined_bytes, records_bytes}
use Rattle.wire_base.specs.Encoding.{entries_bytes}
use Rattle.audit_text.proofs.Bytes.{AreBytes, bytes-append, bytes-all}

-- ---- varints

-- below this bound, the last of this many groups is a byte
abbrev room : ℕ → ℕ
room zero = 256
room (suc more) = 128 * room more

groups-bytes : (more n : ℕ) → n < room more → AreBytes (groups more n)
unfolding groups
groups-bytes zero n small = (small, tt)
groups-bytes (suc more) n small =
    elim (nat_lt n 128) as (λ (b : Bool). nat_lt n 128 ≡ b → AreBytes (cond b (n ∷ []) ((n % 128 + 128) ∷ groups more (n / 128)))) [
      | true ↦ λ is. (grind (arith, nat_tests), tt)
      | false ↦ λ is. (omega arith, groups-bytes more (n / 128) (omega (arith, small)))
    ] refl

room-nine : 2 ^ 64 ≤ room 9
room-nine = omega arith

pub varint-bytes : (n : ℕ) → n < 2 ^ 64 → AreBytes (varint n)
unfolding varint
varint-bytes n small = groups-bytes 9 n (omega (arith, room-nine))

pub delimited-bytes : (bytes : List ℕ) → length bytes < 2 ^ 64 → AreBytes bytes → AreBytes (delimited bytes)
delimited-bytes bytes few h = bytes-append (varint (length bytes)) bytes (varint-bytes (length bytes) few) h

-- ---- numbers

low_first-bytes : (i k n : ℕ) → AreBytes (bytes_low_first i k n)
low_first-bytes i zero n = tt
low_first-bytes zero (suc k) n = (omega arith, low_first-bytes 1 k n)
low_first-bytes (suc i) (suc k) n = (omega arith, low_first-bytes (suc (suc i)) k n)

signed-small : (n : ℕ) → IsSigned32 n → n < 2 ^ 64
signed-small n h = omega (arith, h)

zigzag-small : (n : ℕ) → n < 2 ^ 64 → zigzag_of n < 2 ^ 64
zigzag-small n small = grind (arith, nat_tests)

pub number-bytes : (k : Kind) (n : ℕ) → IsWordForm k n → AreBytes (number_bytes k n)
number-bytes Int32 n h = varint-bytes n (signed-small n h)
number-bytes (Choice i) n h = varint-bytes n (signed-small n h)
number-bytes Int64 n h = varint-bytes n h
number-bytes Uint64 n h = varint-bytes n h
number-bytes Uint32 n h = varint-bytes n (omega (arith, h))
number-bytes TheBool n h = varint-bytes n (omega (arith, h))
number-bytes Sint32 n h = varint-bytes (zigzag_of n) (zigzag-small n (signed-small n h))
number-bytes Sint64 n h = varint-bytes (zigzag_of n) (zigzag-small n h)
number-bytes Fixed64 n h = low_first-bytes 0 8 n
number-bytes Sfixed64 n h = low_first-bytes 0 8 n
number-bytes Double n h = low_first-bytes 0 8 n
number-bytes Fixed32 n h = low_first-bytes 0 4 n
number-bytes Sfixed32 n h = low_first-bytes 0 4 (n % 2 ^ 32)
number-bytes Float n h = low_first-bytes 0 4 n
number-bytes Text n h = absurd h
number-bytes Octets n h = absurd h
number-bytes (OfMessage i) n h = absurd h

-- ---- fields

-- the fields of a message have small numbers
pub record AreSmall (fs : List Field) : Type 0 where
  pub each : (n : ℕ) (f : Field) → field_at fs n ≡ Some f → n < 2 ^ 29

found-small : (T : Table) (oneofs n : ℕ) (fs : List Field) (f : Field) → All (IsField T oneofs) fs → field_at fs n ≡ Some f → n < 2 ^ 29
found-small T oneofs n [] f all found = absurd cc
found-small T oneofs n (g ∷ fs) f all found =
    let least = (All-head (IsField T oneofs) g fs all).number.small in
    elim (eqb_tells g.number n) [
      | inl same ↦ omega (arith, same.1, least)
      | inr other ↦ let later : field_at fs n ≡ Some f = rw other.0 at found in found-small T oneofs n fs f (All-tail (IsField T oneofs) g fs all) later
    ]

small-at : (T : Table) (ms : List Message) (i : ℕ) → All (IsMessage T) ms → AreSmall (unwrap_or (option_map (λ m. m.fields) (slice_get ms i)) [])
small-at T [] i all = record { each = λ n f found. absurd cc }
small-at T (m ∷ ms) zero all = record { each = λ n f found. found-small T (length m.oneofs) n m.fields f (All-head (IsMessage T) m ms all).fields found }
small-at T (m ∷ ms) (suc i) all = small-at T ms i (All-tail (IsMessage T) m ms all)

pub small-fields : (T : Table) → IsValid T → (i : ℕ) → AreSmall (fields_of T i)
small-fields T valid i = small-at T T.messages i valid.messages

-- ---- runs

abbrev chosen : Bool → Bool → Bool → List ℕ → List ℕ → List ℕ → List ℕ → List ℕ
chosen x y z a b c d = cond x a (cond y b (cond z c d))

chosen-bytes : (x y z : Bool) (a b c d : List ℕ) → (x ≡ true → AreBytes a) → (y ≡ true → AreBytes b)
    → (z ≡ true → AreBytes c) → AreBytes d → AreBytes (chosen x y z a b c d)
chosen-bytes true y z a b c d f g h k = f refl
chosen-bytes false true z a b c d f g h k = g refl
chosen-bytes false false true a b c d f g h k = h refl
chosen-bytes false false false a b c d f g h k = k

char-bytes : (c : ℕ) → scalar c ≡ true → AreBytes (encode_utf8 c)
unfolding encode_utf8
char-bytes c is =
    let least : c < 1114112 = grind (arith, scalar_cases c is) in
    chosen-bytes (nat_lt c 128) (nat_lt c 2048) (nat_lt c 65536) _ _ _ _
    (λ h. (let e = below c 128 h in omega (arith, e), tt))
    (λ h. let e = below c 2048 h in (omega (arith, e), (omega arith, tt)))
    (λ h. let e = below c 65536 h in (omega (arith, e), (omega arith, (omega arith, tt))))
    (omega (arith, least), (omega arith, (omega arith, (omega arith, tt))))
  where
    below : (a b : ℕ) → nat_lt a b ≡ true → a < b
    below a b h = grind (arith, nat_tests)

utf8-bytes : (cs : List ℕ) → scalars cs ≡ true → AreBytes (encode_utf8_all cs)
utf8-bytes [] is = tt
utf8-bytes (c ∷ cs) is = bytes-append (encode_utf8 c) (encode_utf8_all cs) (char-bytes c (left (scalar c) (scalars cs) is)) (utf8-bytes cs (right (scalar c) (scalars cs) is))
  where
    left : (a b : Bool) → (a && b) ≡ true → a ≡ true
    left true b h = refl
    left false b h = absurd cc

    right : (a b : Bool) → (a && b) ≡ true → b ≡ true
    right true b h = h
    right false b h = absurd cc

run-bytes : (k : Kind) (bytes : List ℕ) → IsRun k bytes → AreBytes bytes
run-bytes Text bytes h = subst AreBytes h.1.1 (utf8-bytes h.0 h.1.0)
run-bytes Octets bytes h = bytes-all bytes h
run-bytes _ bytes h = absurd h

-- ---- trees

type-small : (k : Kind) → wire_type_of k < 8
type-small Int32 = omega arith
type-small Int64 = omega arith
type-small Uint32 = omega arith
type-small Uint64 = omega arith
type-small Sint32 = omega arith
type-small Sint64 = omega arith
type-small TheBool = omega arith
type-small Fixed32 = omega arith
type-small Fixed64 = omega arith
type-small Sfixed32 = omega arith
type-small Sfixed64 = omega arith
type-small Float = omega arith
type-small Double = omega arith
type-small Text = omega arith
type-small Octets = omega arith
type-small (OfMessage i) = omega arith
type-small (Choice i) = omega arith

tag-bytes : (n w : ℕ) → n < 2 ^ 29 → w < 8 → AreBytes (tag n w)
tag-bytes n w small below = varint-bytes (8 * n + w) (omega (arith, small, below))

-- the label and the kind of a field
kind-found : (fs : List Field) (n : ℕ) (f : Field) → field_at fs n ≡ Some f → kind_at fs n ≡ f.kind
kind-found fs n f found = ap (λ o. unwrap_or (option_map (λ f. f.kind) o) Uint64) found

label-found : (fs : List Field) (n : ℕ) (f : Field) → field_at fs n ≡ Some f → label_at fs n ≡ f.label
label-found fs n f found = ap (λ o. unwrap_or (option_map (λ f. f.label) o) Plain) found

-- a part is at most as long as the whole
few-left : (a b : List ℕ) → length (a ++ b) < 2 ^ 64 → length a < 2 ^ 64
few-left a b few = omega (arith, length-append a b)

few-right : (a b : List ℕ) → length (a ++ b) < 2 ^ 64 → length b < 2 ^ 64
few-right a b few = omega (arith, length-append a b)

few-inside : (bytes : List ℕ) → length (delimited bytes) < 2 ^ 64 → length bytes < 2 ^ 64
few-inside bytes few = few-right (varint (length bytes)) bytes few

mutual
  fields-bytes : (T : Table) → ((i : ℕ) → AreSmall (fields_of T i)) → (fs : List Field) (last : ℕ) (t : Node)
      → AreSmall fs → HasFields T fs last t → length (fields_bytes T fs t) < 2 ^ 64 → AreBytes (fields_bytes T fs t)
  fields-bytes T all fs last no_fields small h few = tt
  fields-bytes T all fs last (field n c t) small h few =
      bytes-append (content_bytes T fs n c) (fields_bytes T fs t)
      (content-bytes T all fs n c small h.1 (few-left (content_bytes T fs n c) (fields_bytes T fs t) few))
      (fields-bytes T all fs n t small h.2 (few-right (content_bytes T fs n c) (fields_bytes T fs t) few))

  content-bytes : (T : Table) → ((i : ℕ) → AreSmall (fields_of T i)) → (fs : List Field) (n : ℕ) (c : Content)
      → AreSmall fs → HasContent T fs n c → length (content_bytes T fs n c) < 2 ^ 64
      → AreBytes (content_bytes T fs n c)
  content-bytes T all fs n (one i) small h few =
      let k = kind_at fs n in
      let is : IsItem T k i = subst (λ k. IsItem T k i) (sym (kind-found fs n h.0 h.1)) h.3 in
      bytes-append (tag n (wire_type_of k)) (item_bytes T k i)
      (tag-bytes n (wire_type_of k) (small.each n h.0 h.1) (type-small k))
      (item-bytes T all k i is (few-right (tag n (wire_type_of k)) (item_bytes T k i) few))
  content-bytes T all fs n (many is) small h few =
      let k = kind_at fs n in
      let are : AreItems T k is = subst (λ k. AreItems T k is) (sym (kind-found fs n h.0 h.1)) h.4 in
      let low = small.each n h.0 h.1 in
      elim (is_packed (label_at fs n)) as
      (λ (b : Bool). length (cond b (tag n wire_len ++ delimited (joined_bytes T k is)) (records_bytes T n k is))
      < 2 ^ 64 → AreBytes (cond b (tag n wire_len ++ delimited (joined_bytes T k is)) (records_bytes T n k is))) [
        | true ↦ λ few.
            let within = few-right (tag n wire_len) (delimited (joined_bytes T k is)) few in
            let inside = few-inside (joined_bytes T k is) within in
            bytes-append (tag n wire_len) (delimited (joined_bytes T k is)) (tag-bytes n wire_len low (omega arith))
            (delimited-bytes (joined_bytes T k is) inside (joined-bytes T all k is are inside))
        | false ↦ λ few. records-bytes T all n k is low are few
      ] few
  content-bytes T all fs n (pairs ps) small h few =
      let k = kind_at fs n in
      let key = key_kind (label_at fs n) in
      let keyed : key_kind (label_at fs n) ≡ h.1 = ap key_kind (label-found fs n h.0 h.2 ∙ h.3) in
      let are : ArePairs T key k ps = subst (λ k. ArePairs T key k ps) (sym (kind-found fs n h.0 h.2)) (subst (λ key. ArePairs T key h.0.kind ps) (sym keyed) h.5) in
      entries-bytes T all n key k ps (small.each n h.0 h.2) are few

  item-bytes : (T : Table) → ((i : ℕ) → AreSmall (fields_of T i)) → (k : Kind) (i : Item) → IsItem T k i → length (item_bytes T k i) < 2 ^ 64 → AreBytes (item_bytes T k i)
  item-bytes T all k (number n) h few = number-bytes k n h
  item-bytes T all k (run bytes) h few = delimited-bytes bytes (few-inside bytes few) (run-bytes k bytes h)
  item-bytes T all k (node t) h few =
      let fs = fields_of T (nested_message k) in
      let inside = few-inside (fields_bytes T fs t) few in
      let same : nested_message k ≡ h.0 = ap nested_message h.1 in
      let has : HasFields T fs 0 t = subst (λ i. HasFields T (fields_of T i) 0 t) (sym same) h.2 in
      delimited-bytes (fields_bytes T fs t) inside (fields-bytes T all fs 0 t (all (nested_message k)) has inside)

  joined-bytes : (T : Table) → ((i : ℕ) → AreSmall (fields_of T i)) → (k : Kind) (is : Items) → AreItems T k is
      → length (joined_bytes T k is) < 2 ^ 64 → AreBytes (joined_bytes T k is)
  joined-bytes T all k no_items h few = tt
  joined-bytes T all k (item i is) h few =
      bytes-append (item_bytes T k i) (joined_bytes T k is)
      (item-bytes T all k i h.0 (few-left (item_bytes T k i) (joined_bytes T k is) few))
      (joined-bytes T all k is h.1 (few-right (item_bytes T k i) (joined_bytes T k is) few))

  records-bytes : (T : Table) → ((i : ℕ) → AreSmall (fields_of T i)) → (n : ℕ) (k : Kind) (is : Items) → n < 2 ^ 29
      → AreItems T k is → length (records_bytes T n k is) < 2 ^ 64 → AreBytes (records_bytes T n k is)
  records-bytes T all n k no_items low h few = tt
  records-bytes T all n k (item i is) low h few =
      let front = tag n (wire_type_of k) ++ item_bytes T k i in
      let first = few-left front (records_bytes T n k is) few in
      bytes-append front (records_bytes T n k is)
      (bytes-append (tag n (wire_type_of k)) (item_bytes T k i) (tag-bytes n (wire_type_of k) low (type-small k))
      (item-bytes T all k i h.0 (few-right (tag n (wire_type_of k)) (item_bytes T k i) first)))
      (records-bytes T all n k is low h.1 (few-right front (records_bytes T n k is) few))

  entries-bytes : (T : Table) → ((i : ℕ) → AreSmall (fields_of T i)) → (n : ℕ) (key k : Kind) (ps : Pairs)
      → n < 2 ^ 29 → ArePairs T key k ps → length (entries_bytes T n key k ps) < 2 ^ 64
      → AreBytes (entries_bytes T n key k ps)
  entries-bytes T all n key k no_pairs low h few = tt
  entries-bytes T all n key k (pair i j ps) low h few =
      let left = tag 1 (wire_type_of key) ++ item_bytes T key i in
      let right = tag 2 (wire_type_of k) ++ item_bytes T k j in
      let front = tag n wire_len ++ delimited (left ++ right) in
      let rest = entries_bytes T n key k ps in
      let inside = few-inside (left ++ right) (few-right (tag n wire_len) (delimited (left ++ right)) (few-left front rest few)) in
      let first = few-right (tag 1 (wire_type_of key)) (item_bytes T key i) (few-left left right inside) in
      let second = few-right (tag 2 (wire_type_of k)) (item_bytes T k j) (few-right left right inside) in
      let both = bytes-append left right
      (bytes-append (tag 1 (wire_type_of key)) (item_bytes T key i) (tag-bytes 1 (wire_type_of key) (omega arith) (type-small key)) (item-bytes T all key i h.0 first))
      (bytes-append (tag 2 (wire_type_of k)) (item_bytes T k j) (tag-bytes 2 (wire_type_of k) (omega arith) (type-small k)) (item-bytes T all k j h.1 second)) in
      bytes-append front rest
      (bytes-append (tag n wire_len) (delimited (left ++ right)) (tag-bytes n wire_len low (omega arith)) (delimited-bytes (left ++ right) inside both))
      (entries-bytes T all n key k ps low h.2 (few-right front rest few))

pub encoding-bytes : (T : Table) (msg : ℕ) (t : Node) → IsValid T → IsNormal T msg t → length (encoding T msg t) < 2 ^ 64 → AreBytes (encoding T msg t)
encoding-bytes T msg t valid normal few = fields-bytes T (small-fields T valid) (fields_of T msg) 0 t (small-fields T valid msg) normal.fields few
