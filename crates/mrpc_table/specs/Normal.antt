-- The trees of a message, and which of them are in normal form. Numbers ascend, and no field with implicit presence has
-- its default. No repeated field or map is empty, a map's keys ascend, and a oneof has at most one member (Protocol
-- Buffers, "Field Presence", "Maps", "Oneof"; the normal form is this project's own).
use Rattle.std.specs.Prelude.{◌≡◌, ◌≢◌, ◌==◌, ℕ, ◌+◌, ◌<◌, ◌≤◌, max, List, [], All, Option, Some, option_map, find, slice_get, unwrap_or, cond}
use Rattle.std.specs.Str.{IsUtf8}
use Rattle.std.specs.Ordering.{nat_cmp}
use Rattle.std.specs.declared.cmp.Ordering.TheVariants.{Less}
use Rattle.std.specs.Cmp.Lexicographic.{slice_cmp}
use Rattle.mrpc_table.specs.Node.{Node, no_fields, field, Content, one, many, pairs, Item, number, run, node, Items, no_items, item, Pairs, no_pairs, pair}
use Rattle.mrpc_table.specs.Words.{IsWordForm, rank}
use Rattle.mrpc_table.specs.declared.limits.TheConstants.{MAX_DEPTH}
use Rattle.mrpc_table.specs.declared.table.Kind.{Kind}
use Rattle.mrpc_table.specs.declared.table.Kind.TheVariants.{Uint64, Text, Octets, Message as OfMessage}
use Rattle.mrpc_table.specs.declared.table.Label.{Label}
use Rattle.mrpc_table.specs.declared.table.Label.TheVariants.{Plain, Optional, Repeated, Packed, Map, Member}
use Rattle.mrpc_table.specs.declared.table.Field.{Field}
use Rattle.mrpc_table.specs.declared.table.Table.{Table}

-- the message at an index of the table, and the field with a number in a message
abbrev pub fields_of : Table → ℕ → List Field
fields_of T i = unwrap_or (option_map (λ m. m.fields) (slice_get T.messages i)) []

abbrev pub field_at : List Field → ℕ → Option Field
field_at fs n = find (λ f. f.number == n) fs

-- the kind of the field with a number
abbrev pub kind_at : List Field → ℕ → Kind
kind_at fs n = unwrap_or (option_map (λ f. f.kind) (field_at fs n)) Uint64

-- the label of the field with a number
abbrev pub label_at : List Field → ℕ → Label
label_at fs n = unwrap_or (option_map (λ f. f.label) (field_at fs n)) Plain

-- the number 0, or an empty run
abbrev pub IsDefault : Item → Type 0
IsDefault (number n) = n ≡ 0
IsDefault (run bytes) = bytes ≡ []
IsDefault (node t) = ⊥

-- one key is before another: as numbers of the kind, or by bytes
abbrev pub IsBefore : Kind → Item → Item → Type 0
IsBefore k (number m) (number n) = rank k m < rank k n
IsBefore k (run a) (run b) = slice_cmp nat_cmp a b ≡ Less
IsBefore k _ _ = ⊥

-- the keys ascend, and no two are equal
abbrev pub AreKeysAscendingFrom : Kind → Item → Pairs → Type 0
AreKeysAscendingFrom k last no_pairs = Unit {0}
AreKeysAscendingFrom k last (pair key value ps) = IsBefore k last key × AreKeysAscendingFrom k key ps

abbrev pub AreKeysAscending : Kind → Pairs → Type 0
AreKeysAscending k no_pairs = Unit {0}
AreKeysAscending k (pair key value ps) = AreKeysAscendingFrom k key ps

-- 1 for the label of a member of the oneof at an index, else 0
abbrev pub membership : Label → ℕ → ℕ
membership (Member o) p = cond (o == p) 1 0
membership _ p = 0

-- how many fields of the tree are members of the oneof at index o
abbrev pub members_in : List Field → ℕ → Node → ℕ
members_in fs o no_fields = 0
members_in fs o (field n c t) = unwrap_or (option_map (λ f. membership f.label o) (field_at fs n)) 0 + members_in fs o t

abbrev pub HasOneMemberEach : List Field → Node → Type 0
HasOneMemberEach fs t = (o : ℕ) → members_in fs o t ≤ 1

-- a field with this label may have the one value; under implicit presence it isn't the default
abbrev pub CanHaveOne : Label → Item → Type 0
CanHaveOne Plain i = IsDefault i → ⊥
CanHaveOne Optional i = Unit {0}
CanHaveOne (Member o) i = Unit {0}
CanHaveOne _ i = ⊥

-- a field with this label may have a list of elements
abbrev pub CanHaveMany : Label → Type 0
CanHaveMany Repeated = Unit {0}
CanHaveMany Packed = Unit {0}
CanHaveMany _ = ⊥

-- the code's own: a string is UTF-8, and bytes are any bytes
abbrev pub IsRun : Kind → List ℕ → Type 0
IsRun Text bytes = IsUtf8 bytes
IsRun Octets bytes = All (λ b. b < 256) bytes
IsRun _ bytes = ⊥

abbrev mutual
  -- each field is one of these, by numbers that ascend from above `last`
  pub HasFields : Table → List Field → ℕ → Node → Type 0
  HasFields T fs last no_fields = Unit {0}
  HasFields T fs last (field n c t) = (last < n) × HasContent T fs n c × HasFields T fs n t

  -- the field with a number may have the content
  pub HasContent : Table → List Field → ℕ → Content → Type 0
  HasContent T fs n (one i) = (f : Field) × (field_at fs n ≡ Some f) × CanHaveOne f.label i × IsItem T f.kind i
  HasContent T fs n (many is) = (f : Field) × (field_at fs n ≡ Some f) × CanHaveMany f.label × (is ≢ no_items)
      × AreItems T f.kind is
  HasContent T fs n (pairs ps) = (f : Field) × (key : Kind) × (field_at fs n ≡ Some f) × (f.label ≡ Map key)
      × (ps ≢ no_pairs) × ArePairs T key f.kind ps × AreKeysAscending key ps

  -- a value of the kind
  pub IsItem : Table → Kind → Item → Type 0
  IsItem T k (number n) = IsWordForm k n
  IsItem T k (run bytes) = IsRun k bytes
  IsItem T k (node t) = (i : ℕ) × (k ≡ OfMessage i) × HasFields T (fields_of T i) 0 t × HasOneMemberEach (fields_of T i) t

  pub AreItems : Table → Kind → Items → Type 0
  AreItems T k no_items = Unit {0}
  AreItems T k (item i is) = IsItem T k i × AreItems T k is

  pub ArePairs : Table → Kind → Kind → Pairs → Type 0
  ArePairs T key k no_pairs = Unit {0}
  ArePairs T key k (pair i j ps) = IsItem T key i × IsItem T k j × ArePairs T key k ps

-- how deep messages nest, the root counting 1; a map's entry adds no depth
abbrev mutual
  pub depth : Node → ℕ
  depth no_fields = 1
  depth (field n c t) = max (content_depth c) (depth t)

  pub content_depth : Content → ℕ
  content_depth (one i) = item_depth i
  content_depth (many is) = items_depth is
  content_depth (pairs ps) = pairs_depth ps

  pub item_depth : Item → ℕ
  item_depth (number n) = 0
  item_depth (run bytes) = 0
  item_depth (node t) = 1 + depth t

  pub items_depth : Items → ℕ
  items_depth no_items = 0
  items_depth (item i is) = max (item_depth i) (items_depth is)

  pub pairs_depth : Pairs → ℕ
  pairs_depth no_pairs = 0
  pairs_depth (pair i j ps) = max (max (item_depth i) (item_depth j)) (pairs_depth ps)

-- a tree in normal form of the message at an index of the table
pub record IsNormal (T : Table) (msg : ℕ) (t : Node) : Type 0 where
  pub fields : HasFields T (fields_of T msg) 0 t
  pub oneofs : HasOneMemberEach (fields_of T msg) t
  pub depth : depth t ≤ MAX_DEPTH
