-- The data of a tree after a part was appended to it.
use Rattle.std.proofs.Common.{◌≡◌, ℕ, List, [], ◌∷◌, ◌++◌, refl, ap}
use Rattle.mrpc_table.specs.Node.{field, item, push_field, push_item}
use Rattle.mrpc_table.specs.View.{item_of, items_of, content_of, node_of}
use Rattle.mrpc_table.specs.declared.tree.FieldValue.{FieldValue}
use Rattle.mrpc_table.specs.declared.tree.Value.{Value}

pub node_of-last : (fs : List (ℕ × FieldValue)) (f : ℕ × FieldValue) → node_of (fs ++ f ∷ []) ≡ push_field (node_of fs) f.0 (content_of f.1)
node_of-last [] f = refl
node_of-last (e ∷ fs) f = ap (field e.0 (content_of e.1)) (node_of-last fs f)

pub items_of-last : (vs : List Value) (v : Value) → items_of (vs ++ v ∷ []) ≡ push_item (items_of vs) (item_of v)
items_of-last [] v = refl
items_of-last (w ∷ vs) v = ap (item (item_of w)) (items_of-last vs v)
