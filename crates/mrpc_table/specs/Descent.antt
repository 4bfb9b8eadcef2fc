-- The code's own: each message in a message weighs less than it, so that functions on trees terminate.
use Rattle.std.specs.Prelude.{◌≤◌, ℕ, max, List, [], ◌∷◌}
use Rattle.std.proofs.Common.{arith}
use Rattle.mrpc_table.specs.View.{item_of, items_of, pairs_of, content_of, node_of}
use Rattle.mrpc_table.specs.Weight.{weight, content_weight, item_weight, items_weight, pairs_weight}
use Rattle.mrpc_table.specs.declared.tree.FieldValue.{FieldValue}
use Rattle.mrpc_table.specs.declared.tree.FieldValue.TheVariants.{One, Many, Pairs as ThePairs}
use Rattle.mrpc_table.specs.declared.tree.Value.{Value}
use Rattle.mrpc_table.specs.declared.tree.Value.TheVariants.{Number, Run, Node as TheNode}
use Rattle.mrpc_table.specs.declared.tree.Tree.TheDeep.{deep-Value, deep-FieldValue}
use Rattle.mrpc_table.specs.declared.tree.Tree.TheShapes.{weighed-FieldValue-Pairs-0-at-2, weighed-Tree-fields-at-2}
use denote.Param.Weighed.{most, w_this}

pub deep_value : (v : Value) → deep-Value v ≤ item_weight (item_of v)
deep_value (Number n) = omega arith
deep_value (Run bytes) = omega arith
deep_value (TheNode t) = omega arith

pub deep_values : (vs : List Value) → most (w_this.weight Value deep-Value) vs ≤ items_weight (items_of vs)
deep_values [] = omega arith
deep_values (v ∷ vs) = omega (arith, deep_value v, deep_values vs)

pub deep_pairs : (ps : List (Value × Value))
    → most (weighed-FieldValue-Pairs-0-at-2.weight Value deep-Value) ps ≤ pairs_weight (pairs_of ps)
deep_pairs [] = omega arith
deep_pairs (p ∷ ps) = omega (arith, deep_value p.0, deep_value p.1, deep_pairs ps)

pub deep_content : (c : FieldValue) → deep-FieldValue c ≤ content_weight (content_of c)
deep_content (One v) = omega (arith, deep_value v)
deep_content (Many vs) = omega (arith, deep_values vs.items)
deep_content (ThePairs ps) = omega (arith, deep_pairs ps.items)

pub deep_fields : (fs : List (ℕ × FieldValue))
    → most (weighed-Tree-fields-at-2.weight FieldValue deep-FieldValue) fs ≤ weight (node_of fs)
deep_fields [] = omega arith
deep_fields (f ∷ fs) = omega (arith, deep_content f.1, deep_fields fs)

pub deep_tree : (fs : List (ℕ × FieldValue))
    → max (most (weighed-Tree-fields-at-2.weight FieldValue deep-FieldValue) fs) 0 ≤ weight (node_of fs)
deep_tree fs = omega (arith, deep_fields fs)
