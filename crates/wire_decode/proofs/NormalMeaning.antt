-- Valid records mean a normal tree.
use Rattle.std.proofs.Common.{◌≡◌, ◌≢◌, ℕ, zero, suc, ◌<◌, ◌≤◌, List, [], ◌∷◌, map, Option, Some, None, Bool, true}
use Rattle.std.proofs.Common.{false, cond, refl, ap, sym, subst, ◌∙◌, arith, inl, inr, ⊎_elim, ◌⊎◌, IfSome, unwrap_or}
use Rattle.std.proofs.lemmas.Bool.{eq-eqb}
use Rattle.std.proofs.lemmas.Str.{IsUtf8-nil}
use Rattle.std.proofs.lemmas.List.Elements.{All-nil}
use Rattle.mrpc_table.specs.Node.{Node, no_fields, field, Content, one, many, pairs, Item, number, run, node, no_items, Pairs, no_pairs, pair}
use Rattle.mrpc_table.specs.Normal.{fields_of, field_at, IsDefault, CanHaveOne, CanHaveMany, AreKeysAscending, HasFields}
use Rattle.mrpc_table.specs.Normal.{IsItem, AreItems, ArePairs, IsNormal, depth, item_depth, items_depth, pairs_depth}
use Rattle.mrpc_table.specs.NormalParts.{IsNormalWithin}
use Rattle.mrpc_table.specs.declared.table.Kind.{Kind}
use Rattle.mrpc_table.specs.declared.table.Kind.TheVariants.{Int32, Int64, Uint32, Uint64, Sint32, Sint64}
use Rattle.mrpc_table.specs.declared.table.Kind.TheVariants.{Bool as TheBool, Fixed32, Fixed64, Sfixed32, Sfixed64}
use Rattle.mrpc_table.specs.declared.table.Kind.TheVariants.{Float, Double, Text, Octets, Message as OfMessage}
use Rattle.mrpc_table.specs.declared.table.Kind.TheVariants.{Choice}
use Rattle.mrpc_table.specs.declared.table.Label.{Label}
use Rattle.mrpc_table.specs.declared.table.Label.TheVariants.{Plain, Optional, Repeated, Packed, Map, Member}
use Rattle.mrpc_table.specs.declared.table.Field.{Field}
use Rattle.mrpc_table.specs.declared.table.Table.{Table}
use Rattle.wire_decode.specs.Words.{is_map}
use Rattle.wire_decode.specs.Known.{is_message_kind, HasRoom, entry_fields}
use Rattle.wire_decode.specs.MergedMessage.{IsMergedMessage}
use Rattle.wire_decode.specs.Merged.{contents_of, values_in, singles_in, join_fields, joined_messages, last_value}
use Rattle.wire_decode.specs.Contents.{items_from}
use Rattle.wire_decode.specs.Contents.{is_default_item, default_item_of, present, present_if_set}
use Rattle.wire_decode.specs.Merged.{singular, merged_element, part_of_entry, merged_entry}
use Rattle.wire_decode.specs.Contents.{some_items, some_pairs, with_content}
use Rattle.wire_decode.specs.Merged.{field_content, is_overtaken, counted_records}
use Rattle.wire_decode.specs.Merged.{with_fields, merged}
use Rattle.wire_decode.proofs.Merging.{element-same, merged-suc}
use Rattle.wire_decode.proofs.WordForms.{AreBytes}
use Rattle.wire_decode.proofs.Sound.{SoundNode, SoundValue, SoundEntry, reads-sound, join-sound, AllContents}
use Rattle.wire_decode.proofs.Sound.{AllValues, AllEntries, contents-sound, singles-sound, values-sound}
use Rattle.wire_decode.proofs.Sound.{entries-sound, room-inside, joined-sound}
use Rattle.wire_decode.proofs.UsableTables.{AreFieldsFrom, IsUsableTable, IsRest, rest-start, rest-first, rest-more}
use Rattle.mrpc_table.specs.MapEntries.{last_of_each}
use Rattle.wire_decode.proofs.Plainness.{not_message}
use Rattle.std.specs.List.{AllByRecursion}
use Rattle.wire_decode.proofs.Members.{counted-no_rivals, members-one}

-- a value of the kind, within the depth
abbrev GoodItem : Table → Kind → ℕ → Item → Type 0
GoodItem T k room i = IsItem T k i × (item_depth i ≤ room)

-- how nested messages are merged
record Inner (T : Table) (room : ℕ) (inner : ℕ → Node → Node) : Type 0 where
  each : (inside i : ℕ) (u : Node) → room ≡ suc inside → SoundNode T inside (fields_of T i) u → IsNormalWithin T i room (inner i u)

value-good : (T : Table) (room : ℕ) (k : Kind) (i : Item) → is_message_kind k ≡ false → SoundValue T room k i → GoodItem T k (suc room) i
value-good T room k (number n) plain h = (h, omega arith)
value-good T room k (run bytes) plain h = (h, omega arith)
value-good T room k (node t) plain h = absurd (not_message k h.0 plain h.2)

message-good : (T : Table) (room m : ℕ) (inner : ℕ → Node → Node) (inside : ℕ) (u : Node) → Inner T room inner
    → room ≡ suc inside → SoundNode T inside (fields_of T m) u
    → GoodItem T (OfMessage m) (suc room) (node (inner m u))
message-good T room m inner inside u fits e h = let g = fits.each inside m u e h in let d = g.depth in ((m, refl, g.fields, g.oneofs), omega (arith, d))

last-good : (T : Table) (room : ℕ) (k : Kind) (is : List Item) → is_message_kind k ≡ false → AllValues T room k is → IfSome (last_value is) (GoodItem T k (suc room))
last-good T room k [] plain h = tt
last-good T room k (i ∷ []) plain h = value-good T room k i plain h.0
last-good T room k (i ∷ j ∷ is) plain h = last-good T room k (j ∷ is) plain h.1

singular-plain : (inner : ℕ → Node → Node) (k : Kind) (is : List Item) → is_message_kind k ≡ false → singular inner k is ≡ last_value is
singular-plain inner (OfMessage m) is h = absurd (cc)
singular-plain inner _ is h = refl

-- a kind is a message's, or it isn't
kinds : (k : Kind) → (is_message_kind k ≡ false) ⊎ ((m : ℕ) × (k ≡ OfMessage m))
kinds (OfMessage m) = inr (m, refl)
kinds _ = inl refl

message-singular : (T : Table) (room : ℕ) (inner : ℕ → Node → Node) (m : ℕ) (is : List Item) → Inner T room inner
    → AllValues T room (OfMessage m) is
    → IfSome (singular inner (OfMessage m) is) (GoodItem T (OfMessage m) (suc room))
message-singular T room inner m [] fits h = tt
message-singular T room inner m (v ∷ vs) fits h =
    let r = room-inside T room m v h.0 in
    message-good T room m inner r.0 (joined_messages (v ∷ vs)) fits r.1 (joined-sound T room r.0 m (v ∷ vs) r.1 h)

singular-good : (T : Table) (room : ℕ) (inner : ℕ → Node → Node) (k : Kind) (is : List Item) → Inner T room inner
    → AllValues T room k is → IfSome (singular inner k is) (GoodItem T k (suc room))
singular-good T room inner k is fits h =
    ⊎_elim
    (λ plain. subst (λ (o : Option Item). IfSome o (GoodItem T k (suc room))) (sym (singular-plain inner k is plain)) (last-good T room k is plain h))
    (λ m. subst (λ (x : Kind). AllValues T room x is → IfSome (singular inner x is) (GoodItem T x (suc room))) (sym m.1) (message-singular T room inner m.0 is fits) h)
    (kinds k)

message-element : (T : Table) (room : ℕ) (inner : ℕ → Node → Node) (m : ℕ) (i : Item) → Inner T room inner
    → SoundValue T room (OfMessage m) i → GoodItem T (OfMessage m) (suc room) (merged_element inner (OfMessage m) i)
message-element T room inner m i fits h =
    let r = room-inside T room m i h in
    message-good T room m inner r.0 (joined_messages (i ∷ [])) fits r.1 (joined-sound T room r.0 m (i ∷ []) r.1 (h, tt))

element-good : (T : Table) (room : ℕ) (inner : ℕ → Node → Node) (k : Kind) (i : Item) → Inner T room inner → SoundValue T room k i → GoodItem T k (suc room) (merged_element inner k i)
element-good T room inner k i fits h =
    ⊎_elim
    (λ plain. subst (λ (x : Item). GoodItem T k (suc room) x) (sym (element-same inner k i plain)) (value-good T room k i plain h))
    (λ m. subst (λ (x : Kind). SoundValue T room x i → GoodItem T x (suc room) (merged_element inner x i)) (sym m.1) (message-element T room inner m.0 i fits) h)
    (kinds k)

default-good : (T : Table) (room : ℕ) (k : Kind) → HasRoom room k → GoodItem T k (suc room) (default_item_of k)
default-good T room Text h = (IsUtf8-nil, omega arith)
default-good T room Octets h = (All-nil (λ b. b < 256), omega arith)
default-good T room (OfMessage i) h = ((i, refl, tt, λ o. omega arith), (let r = h refl in omega (arith, r)))
default-good T room Int32 h = (inl (omega arith), omega arith)
default-good T room Sint32 h = (inl (omega arith), omega arith)
default-good T room Sfixed32 h = (inl (omega arith), omega arith)
default-good T room (Choice i) h = (inl (omega arith), omega arith)
default-good T room Int64 h = (omega arith, omega arith)
default-good T room Sint64 h = (omega arith, omega arith)
default-good T room Uint32 h = (omega arith, omega arith)
default-good T room Uint64 h = (omega arith, omega arith)
default-good T room TheBool h = (omega arith, omega arith)
default-good T room Fixed32 h = (omega arith, omega arith)
default-good T room Fixed64 h = (omega arith, omega arith)
default-good T room Sfixed64 h = (omega arith, omega arith)
default-good T room Float h = (omega arith, omega arith)
default-good T room Double h = (omega arith, omega arith)

unwrap-good : (P : Item → Type 0) (o : Option Item) (d : Item) → IfSome o P → P d → P (unwrap_or o d)
unwrap-good P None d h e = e
unwrap-good P (Some i) d h e = h

part-good : (T : Table) (room : ℕ) (inner : ℕ → Node → Node) (n : ℕ) (f : Field) (fs : List Field) (t : Node)
    → Inner T room inner → field_at fs n ≡ Some f → f.label ≡ Optional → HasRoom room f.kind → SoundNode T room fs t
    → GoodItem T f.kind (suc room) (part_of_entry inner n f.kind t)
part-good T room inner n f fs t fits at single has_room h =
    let values = singles-sound T room f.label f.kind (contents_of n t) (ap is_map single) (contents-sound T room fs n f t at h) in
    unwrap-good (GoodItem T f.kind (suc room)) (singular inner f.kind (singles_in (contents_of n t)))
    (default_item_of f.kind) (singular-good T room inner f.kind (singles_in (contents_of n t)) fits values)
    (default-good T room f.kind has_room)

abbrev GoodPair : Table → Kind → Kind → ℕ → Item × Item → Type 0
GoodPair T key k room e = GoodItem T key room e.0 × GoodItem T k room e.1

abbrev AllPairs : Table → Kind → Kind → ℕ → List (Item × Item) → Type 0
AllPairs T key k room [] = Unit {0}
AllPairs T key k room (e ∷ es) = GoodPair T key k room e × AllPairs T key k room es

-- if the key is no message
entry-good : (T : Table) (room : ℕ) (inner : ℕ → Node → Node) (key k : Kind) (i : Item) → Inner T room inner
    → is_message_kind key ≡ false → SoundEntry T room key k i → GoodPair T key k (suc room) (merged_entry inner key k i)
entry-good T room inner key k (number n) fits plain h = absurd h
entry-good T room inner key k (run bytes) fits plain h = absurd h
entry-good T room inner key k (node t) fits plain h =
    let sound = join-sound T room (entry_fields key k) t no_fields h.1 tt in
    let first : Field = record { number = 1; name = []; kind = key; label = Optional } in
    let second : Field = record { number = 2; name = []; kind = k; label = Optional } in (
      part-good T room inner 1 first (entry_fields key k) (join_fields t no_fields) fits refl refl (λ e. absurd (let bad : false ≡ true = sym plain ∙ e in cc)) sound,
      part-good T room inner 2 second (entry_fields key k) (join_fields t no_fields) fits refl refl h.0 sound,
    )

entries-good : (T : Table) (room : ℕ) (inner : ℕ → Node → Node) (key k : Kind) (is : List Item) → Inner T room inner
    → is_message_kind key ≡ false → AllEntries T room key k is → AllPairs T key k (suc room) (map (merged_entry inner key k) is)
entries-good T room inner key k [] fits plain h = tt
entries-good T room inner key k (i ∷ is) fits plain h = (entry-good T room inner key k i fits plain h.0, entries-good T room inner key k is fits plain h.1)

-- the last entry of each key
record GoodPairs (T : Table) (key k : Kind) (room : ℕ) (ps : Pairs) : Type 0 where
  all : ArePairs T key k ps
  ascend : AreKeysAscending key ps
  depth : pairs_depth ps ≤ room

-- the entries that are kept are in normal form: the law of `last_of_each`
abbrev pub KeptAreNormal : Type 0
KeptAreNormal =
    ((T : Table) (key k : Kind) (es : List (Item × Item)) → AllByRecursion (λ e. IsItem T key e.0 × IsItem T k e.1) es → ArePairs T key k (last_of_each key es))
    × ((T : Table) (key k : Kind) (es : List (Item × Item)) → ((i : ℕ) → key ≢ OfMessage i)
    → AllByRecursion (λ e. IsItem T key e.0 × IsItem T k e.1) es → AreKeysAscending key (last_of_each key es))
    × ((key : Kind) (room : ℕ) (es : List (Item × Item))
    → AllByRecursion (λ e. (item_depth e.0 ≤ room) × (item_depth e.1 ≤ room)) es
    → pairs_depth (last_of_each key es) ≤ room)

all-kinds : (T : Table) (key k : Kind) (room : ℕ) (es : List (Item × Item)) → AllPairs T key k room es → AllByRecursion (λ e. IsItem T key e.0 × IsItem T k e.1) es
all-kinds T key k room [] h = tt
all-kinds T key k room (e ∷ es) h = ((h.0.0.0, h.0.1.0), all-kinds T key k room es h.1)

all-depths : (T : Table) (key k : Kind) (room : ℕ) (es : List (Item × Item)) → AllPairs T key k room es
    → AllByRecursion (λ e. (item_depth e.0 ≤ room) × (item_depth e.1 ≤ room)) es
all-depths T key k room [] h = tt
all-depths T key k room (e ∷ es) h = ((h.0.0.1, h.0.1.1), all-depths T key k room es h.1)

last-pairs : (law : KeptAreNormal) (T : Table) (key k : Kind) (room : ℕ) (es : List (Item × Item))
    → is_message_kind key ≡ false → AllPairs T key k room es → GoodPairs T key k room (last_of_each key es)
last-pairs law T key k room es plain h = record {
  all = law.0 T key k es (all-kinds T key k room es h);
  ascend = law.1 T key k es (λ i e. (let bad : false ≡ true = sym plain ∙ ap is_message_kind e in cc)) (all-kinds T key k room es h);
  depth = law.2 key room es (all-depths T key k room es h);
}

-- the content of a field
abbrev GoodContent : Table → Label → Kind → ℕ → Content → Type 0
GoodContent T label k room (one i) = CanHaveOne label i × GoodItem T k room i
GoodContent T label k room (many is) = CanHaveMany label × (is ≢ no_items) × AreItems T k is × (items_depth is ≤ room)
GoodContent T label k room (pairs ps) = (key : Kind) × (label ≡ Map key) × (ps ≢ no_pairs) × GoodPairs T key k room ps

default-test : (i : Item) → IsDefault i → is_default_item i ≡ true
default-test (number n) h = eq-eqb n 0 h
default-test (run bytes) h = ap (λ b. is_default_item (run b)) h
default-test (node t) h = absurd h

set-go : (T : Table) (k : Kind) (room : ℕ) (i : Item) (b : Bool) → is_default_item i ≡ b → GoodItem T k room i → IfSome (cond b None (Some (one i))) (GoodContent T Plain k room)
set-go T k room i true e h = tt
set-go T k room i false e h = (λ d. (let bad : true ≡ false = sym (default-test i d) ∙ e in cc), h)

set-good : (T : Table) (k : Kind) (room : ℕ) (o : Option Item) → IfSome o (GoodItem T k room) → IfSome (present_if_set o) (GoodContent T Plain k room)
set-good T k room None h = tt
set-good T k room (Some i) h = set-go T k room i (is_default_item i) refl h

optional-good : (T : Table) (k : Kind) (room : ℕ) (o : Option Item) → IfSome o (GoodItem T k room) → IfSome (present o) (GoodContent T Optional k room)
optional-good T k room None h = tt
optional-good T k room (Some i) h = (tt, h)

member-good : (T : Table) (k : Kind) (room p : ℕ) (o : Option Item) → IfSome o (GoodItem T k room) → IfSome (present o) (GoodContent T (Member p) k room)
member-good T k room p None h = tt
member-good T k room p (Some i) h = (tt, h)

elements-good : (T : Table) (room : ℕ) (inner : ℕ → Node → Node) (k : Kind) (is : List Item) → Inner T room inner
    → AllValues T room k is
    → AreItems T k (items_from (map (merged_element inner k) is))
    × (items_depth (items_from (map (merged_element inner k) is)) ≤ suc room)
elements-good T room inner k [] fits h = (tt, omega arith)
elements-good T room inner k (i ∷ is) fits h =
    let first = element-good T room inner k i fits h.0 in
    let rest = elements-good T room inner k is fits h.1 in
    let a = first.1 in
    let b = rest.1 in
    ((first.0, rest.0), omega (arith, a, b))

list-good : (T : Table) (room : ℕ) (inner : ℕ → Node → Node) (label : Label) (k : Kind) (is : List Item)
    → Inner T room inner → CanHaveMany label → AllValues T room k is
    → IfSome (some_items (map (merged_element inner k) is)) (GoodContent T label k (suc room))
list-good T room inner label k [] fits takes h = tt
list-good T room inner label k (i ∷ is) fits takes h =
    let good = elements-good T room inner k (i ∷ is) fits h in
    (takes, (λ e. cc), good.0, good.1)

map-good : (T : Table) (key k : Kind) (room : ℕ) (ps : Pairs) → GoodPairs T key k room ps → IfSome (some_pairs ps) (GoodContent T (Map key) k room)
map-good T key k room no_pairs h = tt
map-good T key k room (pair i j ps) h = (key, refl, (λ e. cc), h)

content-good : (law : KeptAreNormal)
    → (T : Table) (room : ℕ) (inner : ℕ → Node → Node) (label : Label) (k : Kind) (cs : List Content)
    → Inner T room inner → ((key : Kind) → label ≡ Map key → is_message_kind key ≡ false) → AllContents T room label k cs
    → IfSome (field_content inner label k cs) (GoodContent T label k (suc room))
content-good law T room inner Plain k cs fits plain h = set-good T k (suc room) (singular inner k (singles_in cs))
    (singular-good T room inner k (singles_in cs) fits (singles-sound T room Plain k cs refl h))
content-good law T room inner Optional k cs fits plain h =
    optional-good T k (suc room) (singular inner k (singles_in cs))
    (singular-good T room inner k (singles_in cs) fits (singles-sound T room Optional k cs refl h))
content-good law T room inner (Member o) k cs fits plain h =
    member-good T k (suc room) o (singular inner k (singles_in cs))
    (singular-good T room inner k (singles_in cs) fits (singles-sound T room (Member o) k cs refl h))
content-good law T room inner Repeated k cs fits plain h = list-good T room inner Repeated k (values_in cs) fits tt (values-sound T room Repeated k cs refl h)
content-good law T room inner Packed k cs fits plain h = list-good T room inner Packed k (values_in cs) fits tt (values-sound T room Packed k cs refl h)
content-good law T room inner (Map key) k cs fits plain h =
    let no_message = plain key refl in
    map-good T key k (suc room) (last_of_each key (map (merged_entry inner key k) (values_in cs)))
    (last-pairs law T key k (suc room) (map (merged_entry inner key k) (values_in cs)) no_message
    (entries-good T room inner key k (values_in cs) fits no_message (entries-sound T room key k cs h)))

-- fields, within the depth
record GoodFields (T : Table) (fs : List Field) (last room : ℕ) (t : Node) : Type 0 where
  fields : HasFields T fs last t
  depth : depth t ≤ room

lower-fields : (T : Table) (fs : List Field) (last n : ℕ) (t : Node) → last < n → HasFields T fs n t → HasFields T fs last t
lower-fields T fs last n no_fields less h = tt
lower-fields T fs last n (field m c t) less h = (let a = h.0 in omega (arith, a, less), h.1, h.2)

with-good : (T : Table) (fs : List Field) (last room : ℕ) (f : Field) (o : Option Content) (t : Node)
    → last < f.number → field_at fs f.number ≡ Some f → IfSome o (GoodContent T f.label f.kind room)
    → GoodFields T fs f.number room t → GoodFields T fs last room (with_content f.number o t)
with-good T fs last room f None t less at h rest = record { fields = lower-fields T fs last f.number t less rest.fields; depth = rest.depth }
with-good T fs last room f (Some (one i)) t less at h rest = record {
  fields = (less, (f, at, h.0, h.1.0), rest.fields);
  depth = let a = h.1.1 in let b = rest.depth in omega (arith, a, b);
}
with-good T fs last room f (Some (many is)) t less at h rest = record {
  fields = (less, (f, at, h.0, h.1, h.2), rest.fields);
  depth = let a = h.3 in let b = rest.depth in omega (arith, a, b);
}
with-good T fs last room f (Some (pairs ps)) t less at h rest = record {
  fields = (less, (f, h.0, at, h.1, h.2, h.3.all, h.3.ascend), rest.fields);
  depth = let a = h.3.depth in let b = rest.depth in omega (arith, a, b);
}

fields-good : (law : KeptAreNormal)
    → (T : Table) (room : ℕ) (inner : ℕ → Node → Node) (all : List Field) (kept : Node) (last : ℕ) (fs : List Field)
    → Inner T room inner → SoundNode T room all kept → AreFieldsFrom last fs → IsRest all last fs
    → GoodFields T all last (suc room) (with_fields inner kept fs)
fields-good law T room inner all kept last [] fits h are rest = record { fields = tt; depth = omega arith }
fields-good law T room inner all kept last (f ∷ fs) fits h are rest =
    let at = rest-first all last f fs are.0 rest in
    with-good T all last (suc room) f (field_content inner f.label f.kind (contents_of f.number kept)) (with_fields inner kept fs) are.0 at
    (content-good law T room inner f.label f.kind (contents_of f.number kept) fits are.1.key (contents-sound T room all f.number f kept at h))
    (fields-good law T room inner all kept f.number fs fits h are.2 (rest-more all last f fs are.0 rest))

counted-go : (T : Table) (room : ℕ) (fs : List Field) (n : ℕ) (c : Content) (t : Node) (b : Bool) → SoundNode T room fs (field n c t) → SoundNode T room fs (cond b t (field n c t))
counted-go T room fs n c t true h = h.0
counted-go T room fs n c t false h = h

counted-sound : (T : Table) (room : ℕ) (fs all : List Field) (t : Node) → SoundNode T room fs t → SoundNode T room fs (counted_records all t)
counted-sound T room fs all no_fields h = tt
counted-sound T room fs all (field n c t) h = counted-go T room fs n c (counted_records all t) (is_overtaken all n t) (counted-sound T room fs all t h.0, h.1, h.2, h.3)

merged-step : (law : KeptAreNormal) → (T : Table) (room : ℕ) → IsUsableTable T → Inner T room (merged T room)
    → (i : ℕ) (raw : Node) → SoundNode T room (fields_of T i) raw
    → IsNormalWithin T i (suc room) (merged T (suc room) i raw)
merged-step law T room usable fits i raw h =
    let fs = fields_of T i in
    let kept = counted_records fs raw in
    let good = fields-good law T room (merged T room) fs kept 0 fs fits (counted-sound T room fs fs raw h) (usable.each i) (rest-start fs) in
    subst (λ (t : Node). IsNormalWithin T i (suc room) t) (sym (merged-suc T room i raw)) (record {
      fields = good.fields;
      oneofs = λ o. members-one (merged T room) fs o kept fs 0 (counted-no_rivals fs raw) (usable.each i) (rest-start fs);
      depth = good.depth;
    })

inner-fits : (law : KeptAreNormal) → (T : Table) (room : ℕ) → IsUsableTable T → Inner T room (merged T room)
inner-fits law T zero usable = record { each = λ inside i u e h. absurd (omega (arith, e)) }
inner-fits law T (suc room) usable = record {
  each = λ inside i u e h.
      let same : inside ≡ room = omega (arith, e) in
      merged-step law T room usable (inner-fits law T room usable) i u (subst (λ (x : ℕ). SoundNode T x (fields_of T i) u) same h);
}

-- bytes mean a normal tree
pub normal-meaning : (law : KeptAreNormal) → (T : Table) (msg : ℕ) (bytes : List ℕ) (t : Node) → IsUsableTable T → AreBytes bytes → IsMergedMessage T msg bytes t → IsNormal T msg t
normal-meaning law T msg bytes t usable small h =
    let fits = merged-step law T 31 usable (inner-fits law T 31 usable) msg h.raw (reads-sound h.reads small) in
    let normal : IsNormal T msg (merged T 32 msg h.raw) = record { fields = fits.fields; oneofs = fits.oneofs; depth = fits.depth } in
    subst (λ (u : Node). IsNormal T msg u) (sym h.value) normal
