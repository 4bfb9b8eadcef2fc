-- Numbers ascend in a tree and in the messages in it.
use Rattle.std.proofs.Common.{◌≡◌, ℕ, ◌==◌, Bool, true, false, if◌then◌else◌, List, Option, Some, subst}
use Rattle.mrpc_table.specs.Node.{Node, Content, one, many, pairs, Item, number, run, node, no_fields, field, content_at, AreNumbersAscending}
use Rattle.mrpc_table.specs.PathTrees.{IsTreeAscendingFrom, IsAscendingContent, IsAscendingItem}
use Rattle.mrpc_table.specs.Normal.{HasFields, HasContent, IsItem, fields_of}
use Rattle.mrpc_table.specs.declared.table.Table.{Table}
use Rattle.mrpc_table.specs.declared.table.Field.{Field}
use Rattle.mrpc_table.specs.declared.table.Kind.{Kind}

-- the numbers of the fields ascend
pub numbers-ascend : (last : ℕ) (t : Node) → IsTreeAscendingFrom last t → AreNumbersAscending last t
numbers-ascend last no_fields up = tt
numbers-ascend last (field n c t) up = (up.0, numbers-ascend n t up.2)

-- the content under a number of an ascending tree ascends too
chosen-ascends : (same : Bool) (d : Content) (other : Option Content) (c : Content) → IsAscendingContent d → ((e : Content) → other ≡ Some e → IsAscendingContent e)
    → (if same then Some d else other) ≡ Some c → IsAscendingContent c
chosen-ascends true d other c here there at = let e : d ≡ c = cc at in subst IsAscendingContent e here
chosen-ascends false d other c here there at = there c at

pub content-ascends : (t : Node) (last n : ℕ) → IsTreeAscendingFrom last t → (c : Content) → content_at t n ≡ Some c → IsAscendingContent c
content-ascends no_fields last n up c at = cc
content-ascends (field m d t) last n up c at = chosen-ascends (m == n) d (content_at t n) c up.1 (content-ascends t m n up.2) at

-- the fields of a normal tree ascend, and so do those of the messages in it
mutual
  pub fields-ascend : (T : Table) (fs : List Field) (last : ℕ) (t : Node) → HasFields T fs last t → IsTreeAscendingFrom last t
  fields-ascend T fs last no_fields has = tt
  fields-ascend T fs last (field n c t) has = (has.0, content-held T fs n c has.1, fields-ascend T fs n t has.2)

  content-held : (T : Table) (fs : List Field) (n : ℕ) (c : Content) → HasContent T fs n c → IsAscendingContent c
  content-held T fs n (one i) has = item-held T has.0.kind i has.3
  content-held T fs n (many is) has = tt
  content-held T fs n (pairs ps) has = tt

  item-held : (T : Table) (k : Kind) (i : Item) → IsItem T k i → IsAscendingItem i
  item-held T k (number n) is = tt
  item-held T k (run bytes) is = tt
  item-held T k (node t) is = fields-ascend T (fields_of T is.0) 0 t is.2
