-- The data of a tree after a part was appended to it.
use Rattle.std.proofs.Common.{◌≡◌, ℕ, ◌+◌, ◌<◌, List, [], ◌∷◌, ◌++◌, length, take, get_or, refl, ap, sym, ◌∙◌}
use Rattle.std.proofs.lemmas.List.{take_more}
use Rattle.mrpc_table.specs.Node.{field, item, pair, push_field, push_item, push_pair}
use Rattle.mrpc_table.specs.View.{item_of, items_of, pairs_of, content_of, node_of}
use Rattle.mrpc_table.specs.declared.tree.FieldValue.{FieldValue}
use Rattle.mrpc_table.specs.declared.tree.Value.{Value}

pub node_of-last : (fs : List (ℕ × FieldValue)) (f : ℕ × FieldValue) → node_of (fs ++ f ∷ []) ≡ push_field (node_of fs) f.0 (content_of f.1)
node_of-last [] f = refl
node_of-last (e ∷ fs) f = ap (field e.0 (content_of e.1)) (node_of-last fs f)

pub items_of-last : (vs : List Value) (v : Value) → items_of (vs ++ v ∷ []) ≡ push_item (items_of vs) (item_of v)
items_of-last [] v = refl
items_of-last (w ∷ vs) v = ap (item (item_of w)) (items_of-last vs v)

pub pairs_of-last : (ps : List (Value × Value)) (p : Value × Value) → pairs_of (ps ++ p ∷ []) ≡ push_pair (pairs_of ps) (item_of p.0) (item_of p.1)
pairs_of-last [] p = refl
pairs_of-last (q ∷ ps) p = ap (pair (item_of q.0) (item_of q.1)) (pairs_of-last ps p)

-- if a list represents a prefix of another, one more part on both keeps that
pub node_of-more : (fs gs : List (ℕ × FieldValue)) (i : ℕ) (f g : ℕ × FieldValue) → i < length gs → g ≡ get_or gs i g
    → f.0 ≡ g.0 → content_of f.1 ≡ content_of g.1 → node_of fs ≡ node_of (take i gs)
    → node_of (fs ++ f ∷ []) ≡ node_of (take (i + 1) gs)
node_of-more fs gs i f g within at same_number same_content same =
    node_of-last fs f ∙ ap (λ t. push_field t f.0 (content_of f.1)) same ∙ ap (λ n. push_field (node_of (take i gs)) n (content_of f.1)) same_number
    ∙ ap (push_field (node_of (take i gs)) g.0) same_content
    ∙ sym (ap node_of (take_more gs i g within ∙ ap (λ e. take i gs ++ e ∷ []) (sym at)) ∙ node_of-last (take i gs) g)

pub items_of-more : (vs ws : List Value) (i : ℕ) (v w : Value) → i < length ws → w ≡ get_or ws i w
    → item_of v ≡ item_of w → items_of vs ≡ items_of (take i ws)
    → items_of (vs ++ v ∷ []) ≡ items_of (take (i + 1) ws)
items_of-more vs ws i v w within at same_item same =
    items_of-last vs v ∙ ap (λ t. push_item t (item_of v)) same ∙ ap (push_item (items_of (take i ws))) same_item
    ∙ sym (ap items_of (take_more ws i w within ∙ ap (λ e. take i ws ++ e ∷ []) (sym at)) ∙ items_of-last (take i ws) w)

pub pairs_of-more : (ps qs : List (Value × Value)) (i : ℕ) (p q : Value × Value) → i < length qs → q ≡ get_or qs i q
    → item_of p.0 ≡ item_of q.0 → item_of p.1 ≡ item_of q.1 → pairs_of ps ≡ pairs_of (take i qs)
    → pairs_of (ps ++ p ∷ []) ≡ pairs_of (take (i + 1) qs)
pairs_of-more ps qs i p q within at same_key same_value same =
    pairs_of-last ps p ∙ ap (λ t. push_pair t (item_of p.0) (item_of p.1)) same ∙ ap (λ k. push_pair (pairs_of (take i qs)) k (item_of p.1)) same_key
    ∙ ap (push_pair (pairs_of (take i qs)) (item_of q.0)) same_value
    ∙ sym (ap pairs_of (take_more qs i q within ∙ ap (λ e. take i qs ++ e ∷ []) (sym at)) ∙ pairs_of-last (take i qs) q)
