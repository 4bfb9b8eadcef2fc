-- Removing the last field, element or entry removes its weight.
use Rattle.std.proofs.Common.{◌≡◌, ℕ, ◌+◌, List, [], ◌∷◌, ◌++◌, arith}
use Rattle.mrpc_table.specs.View.{item_of, items_of, pairs_of, content_of, node_of}
use Rattle.mrpc_table.specs.Weight.{weight, content_weight, item_weight, items_weight, pairs_weight}
use Rattle.mrpc_table.specs.declared.tree.FieldValue.{FieldValue}
use Rattle.mrpc_table.specs.declared.tree.Value.{Value}

pub fields-last : (fs : List (ℕ × FieldValue)) (f : ℕ × FieldValue)
    → weight (node_of (fs ++ f ∷ [])) ≡ weight (node_of fs) + (content_weight (content_of f.1) + 1)
fields-last [] f = omega arith
fields-last (g ∷ fs) f = omega (arith, fields-last fs f)

pub values-last : (vs : List Value) (v : Value)
    → items_weight (items_of (vs ++ v ∷ [])) ≡ items_weight (items_of vs) + item_weight (item_of v)
values-last [] v = omega arith
values-last (w ∷ vs) v = omega (arith, values-last vs v)

pub entries-last : (es : List (Value × Value)) (e : Value × Value)
    → pairs_weight (pairs_of (es ++ e ∷ []))
    ≡ pairs_weight (pairs_of es) + (item_weight (item_of e.0) + item_weight (item_of e.1))
entries-last [] e = omega arith
entries-last (d ∷ es) e = omega (arith, entries-last es e)
