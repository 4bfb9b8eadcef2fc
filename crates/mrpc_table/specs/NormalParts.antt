-- The code's own: what each part of a tree must satisfy for the tree to be normal, within a bound on the depth.
use Rattle.std.specs.Prelude.{◌≡◌, ◌≢◌, ℕ, ◌+◌, ◌<◌, ◌≤◌, Bool, true, false, not, if◌then◌else◌, List, slice_index_or, slice_set}
use Rattle.mrpc_table.specs.Node.{Node, Content, one, many, pairs, Item, Items, no_items, Pairs, no_pairs}
use Rattle.mrpc_table.specs.Normal.{fields_of, HasFields, HasOneMemberEach, members_in, CanHaveOne, CanHaveMany, IsItem, AreItems, ArePairs, AreKeysAscending, depth, content_depth, item_depth, items_depth, pairs_depth}
use Rattle.mrpc_table.specs.declared.table.Kind.{Kind}
use Rattle.mrpc_table.specs.declared.table.Label.{Label}
use Rattle.mrpc_table.specs.declared.table.Label.TheVariants.{Map, Member}
use Rattle.mrpc_table.specs.declared.table.Field.{Field}
use Rattle.mrpc_table.specs.declared.table.Table.{Table}

-- a normal tree of a message, but with this depth at most
pub record IsNormalWithin (T : Table) (msg : ℕ) (room : ℕ) (t : Node) : Type 0 where
  pub fields : HasFields T (fields_of T msg) 0 t
  pub oneofs : HasOneMemberEach (fields_of T msg) t
  pub depth : depth t ≤ room

-- the suffix of a tree after the field of number `last` is normal, if these oneofs have a member already
pub record IsNormalSuffix (T : Table) (fs : List Field) (room last : ℕ) (taken : List Bool) (t : Node) : Type 0 where
  pub fields : HasFields T fs last t
  pub oneofs : (o : ℕ) → (if slice_index_or taken o false then 1 else 0) + members_in fs o t ≤ 1
  pub depth : depth t ≤ room

abbrev pub IsContent : Table → Field → Content → Type 0
IsContent T f (one i) = CanHaveOne f.label i × IsItem T f.kind i
IsContent T f (many is) = CanHaveMany f.label × (is ≢ no_items) × AreItems T f.kind is
IsContent T f (pairs ps) = (key : Kind) × (f.label ≡ Map key) × (ps ≢ no_pairs) × ArePairs T key f.kind ps
    × AreKeysAscending key ps

pub record IsContentWithin (T : Table) (f : Field) (room : ℕ) (c : Content) : Type 0 where
  pub content : IsContent T f c
  pub depth : content_depth c ≤ room

pub record IsItemWithin (T : Table) (k : Kind) (room : ℕ) (i : Item) : Type 0 where
  pub item : IsItem T k i
  pub depth : item_depth i ≤ room

pub record AreItemsWithin (T : Table) (k : Kind) (room : ℕ) (is : Items) : Type 0 where
  pub items : AreItems T k is
  pub depth : items_depth is ≤ room

pub record ArePairsWithin (T : Table) (key k : Kind) (room : ℕ) (ps : Pairs) : Type 0 where
  pub pairs : ArePairs T key k ps
  pub depth : pairs_depth ps ≤ room

-- which oneofs have a member, by their index: that of a label has none yet, and then has one
abbrev pub is_free : List Bool → Label → Bool
is_free taken (Member o) = not (slice_index_or taken o false)
is_free taken _ = true

abbrev pub taken_after : List Bool → Label → List Bool
taken_after taken (Member o) = slice_set taken o true
taken_after taken _ = taken

abbrev pub IsOneofWithin : ℕ → Label → Type 0
IsOneofWithin places (Member o) = o < places
IsOneofWithin places _ = Unit {0}
