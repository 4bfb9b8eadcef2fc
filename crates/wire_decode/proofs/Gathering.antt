-- Two contents of a field combined into one.
use Rattle.std.proofs.Common.{◌≡◌, ℕ, List, [], ◌∷◌, ◌++◌, map, Some, Bool, true, false, refl, ap, sym, subst, ◌∙◌, append_assoc, append-nil}
use Rattle.mrpc_table.specs.Node.{Node, no_fields, field, Content, one, many, pairs, Item, number, run, node}
use Rattle.mrpc_table.specs.View.{item_of, items_of, content_of, node_of}
use Rattle.mrpc_table.specs.declared.tree.FieldValue.{FieldValue}
use Rattle.mrpc_table.specs.declared.tree.Value.{Value}
use Rattle.mrpc_table.specs.declared.table.Kind.{Kind}
use Rattle.mrpc_table.specs.declared.table.Kind.TheVariants.{Message as OfMessage}
use Rattle.mrpc_table.specs.declared.table.Label.TheVariants.{Plain, Optional, Repeated, Packed, Map, Member}
use Rattle.wire_decode.specs.Merged.{list_of_items, values_in, singles_in, join_fields, joined_messages, last_value, singular, merged_element, merged_entry}
use Rattle.wire_decode.specs.Contents.{present, present_if_set, some_items, some_pairs}
use Rattle.mrpc_table.specs.MapEntries.{last_of_each}
use Rattle.wire_decode.specs.TwoInOne.{single_merge_mode, IsMeaningOfBoth, IsItemForBoth, HasItemForBoth, are_both, is_second, is_first}
use Rattle.wire_decode.specs.declared.gather.MergeMode.{MergeMode}
use Rattle.wire_decode.specs.declared.gather.MergeMode.TheVariants.{Listed, Joined, Last}

pub join-assoc : (t u v : Node) → join_fields (join_fields t u) v ≡ join_fields t (join_fields u v)
join-assoc no_fields u v = refl
join-assoc (field n c t) u v = ap (field n c) (join-assoc t u v)

pub node_of-append : (xs ys : List (ℕ × FieldValue)) → node_of (xs ++ ys) ≡ join_fields (node_of xs) (node_of ys)
node_of-append [] ys = refl
node_of-append (x ∷ xs) ys = ap (field x.0 (content_of x.1)) (node_of-append xs ys)

pub items_in-items_of : (vs : List Value) → list_of_items (items_of vs) ≡ map item_of vs
items_in-items_of [] = refl
items_in-items_of (v ∷ vs) = ap (λ is. item_of v ∷ is) (items_in-items_of vs)

pub map-behind : (vs ws : List Value) → map item_of (vs ++ ws) ≡ map item_of vs ++ map item_of ws
map-behind [] ws = refl
map-behind (v ∷ vs) ws = ap (λ is. item_of v ∷ is) (map-behind vs ws)

-- the values of a content that is a list of values
pub values-many : (vs : List Value) → values_in (many (items_of vs) ∷ []) ≡ map item_of vs
values-many vs = append-nil (list_of_items (items_of vs)) ∙ items_in-items_of vs

pub values_in-append : (cs ds : List Content) → values_in (cs ++ ds) ≡ values_in cs ++ values_in ds
values_in-append [] ds = refl
values_in-append (one i ∷ cs) ds = ap (λ is. i ∷ is) (values_in-append cs ds)
values_in-append (many is ∷ cs) ds = ap (λ js. list_of_items is ++ js) (values_in-append cs ds) ∙ sym (append_assoc (list_of_items is) (values_in cs) (values_in ds))
values_in-append (pairs ps ∷ cs) ds = values_in-append cs ds

pub singles_in-append : (cs ds : List Content) → singles_in (cs ++ ds) ≡ singles_in cs ++ singles_in ds
singles_in-append [] ds = refl
singles_in-append (one i ∷ cs) ds = ap (λ is. i ∷ is) (singles_in-append cs ds)
singles_in-append (many is ∷ cs) ds = singles_in-append cs ds
singles_in-append (pairs ps ∷ cs) ds = singles_in-append cs ds

pub joined-append : (is js : List Item) → joined_messages (is ++ js) ≡ join_fields (joined_messages is) (joined_messages js)
joined-append [] js = refl
joined-append (number n ∷ is) js = joined-append is js
joined-append (run bytes ∷ is) js = joined-append is js
joined-append (node t ∷ is) js = ap (join_fields t) (joined-append is js) ∙ sym (join-assoc t (joined_messages is) (joined_messages js))

single-not_listed : (k : Kind) → single_merge_mode k ≡ Listed → ⊥
single-not_listed (OfMessage i) h = cc
single-not_listed _ h = cc

values-both : (a b c : Content) (before after : List Content)
    → values_in (c ∷ []) ≡ values_in (a ∷ []) ++ values_in (b ∷ [])
    → values_in (before ++ c ∷ after) ≡ values_in (before ++ a ∷ b ∷ after)
values-both a b c before after e =
    let one_c : values_in (c ∷ after) ≡ values_in (c ∷ []) ++ values_in after = values_in-append (c ∷ []) after in
    let two : values_in (a ∷ b ∷ after) ≡ values_in (a ∷ b ∷ []) ++ values_in after = values_in-append (a ∷ b ∷ []) after in
    let pair_ab : values_in (a ∷ b ∷ []) ≡ values_in (a ∷ []) ++ values_in (b ∷ []) = values_in-append (a ∷ []) (b ∷ []) in
    values_in-append before (c ∷ after) ∙ ap (λ is. values_in before ++ is)
    (one_c ∙ ap (λ is. is ++ values_in after) (e ∙ sym pair_ab) ∙ sym two)
    ∙ sym (values_in-append before (a ∷ b ∷ after))

pub listed-both : (a b c : Content) → values_in (c ∷ []) ≡ values_in (a ∷ []) ++ values_in (b ∷ []) → IsMeaningOfBoth Listed a b c
listed-both a b c e Repeated k form inner before after = ap (λ is. some_items (map (merged_element inner k) is)) (values-both a b c before after e)
listed-both a b c e Packed k form inner before after = ap (λ is. some_items (map (merged_element inner k) is)) (values-both a b c before after e)
listed-both a b c e (Map key) k form inner before after = ap (λ is. some_pairs (last_of_each key (map (merged_entry inner key k) is))) (values-both a b c before after e)
listed-both a b c e Plain k form inner before after = absurd (single-not_listed k form)
listed-both a b c e Optional k form inner before after = absurd (single-not_listed k form)
listed-both a b c e (Member o) k form inner before after = absurd (single-not_listed k form)

last-skips : (is js : List Item) (a b : Item) → last_value (is ++ b ∷ js) ≡ last_value (is ++ a ∷ b ∷ js)
last-skips [] js a b = refl
last-skips (i ∷ []) js a b = refl
last-skips (i ∷ j ∷ is) js a b = last-skips (j ∷ is) js a b

singular-some : (inner : ℕ → Node → Node) (m : ℕ) (is js : List Item) (i : Item) → singular inner (OfMessage m) (is ++ i ∷ js) ≡ Some (node (inner m (joined_messages (is ++ i ∷ js))))
singular-some inner m [] js i = refl
singular-some inner m (j ∷ is) js i = refl

abbrev form_for : Bool → MergeMode
form_for true = Joined
form_for false = Last

-- a singular field has the same value
singular-both : (message : Bool) (i j v : Item) (k : Kind) → single_merge_mode k ≡ form_for message → IsItemForBoth message i j v
    → (inner : ℕ → Node → Node) (is js : List Item)
    → singular inner k (is ++ v ∷ js) ≡ singular inner k (is ++ i ∷ j ∷ js)
singular-both true i j v (OfMessage m) form h inner is js =
    singular-some inner m is js v
    ∙ ap (λ t. Some (node (inner m t))) (joined-append is (v ∷ js) ∙ ap (join_fields (joined_messages is)) (h js) ∙ sym (joined-append is (i ∷ j ∷ js)))
    ∙ sym (singular-some inner m is (j ∷ js) i)
singular-both false i j v (OfMessage m) form h inner is js = absurd (cc)
singular-both true i j v _ form h inner is js = absurd (cc)
singular-both false i j v _ form h inner is js = ap (λ x. last_value (is ++ x ∷ js)) h ∙ last-skips is js i j

singles-at : (c : Content) (before after : List Content) → singles_in (before ++ c ∷ after) ≡ singles_in before ++ (singles_in (c ∷ []) ++ singles_in after)
singles-at c before after = singles_in-append before (c ∷ after) ∙ ap (λ is. singles_in before ++ is) (singles_in-append (c ∷ []) after)

singles-two : (a b : Content) (before after : List Content) → singles_in (before ++ a ∷ b ∷ after) ≡ singles_in before
    ++ (singles_in (a ∷ []) ++ (singles_in (b ∷ []) ++ singles_in after))
singles-two a b before after = singles-at a before (b ∷ after) ∙ ap (λ is. singles_in before ++ (singles_in (a ∷ []) ++ is)) (singles_in-append (b ∷ []) after)

pub singles-singular : (message : Bool) (a b c : Content) → HasItemForBoth message a b c → (k : Kind)
    → single_merge_mode k ≡ form_for message → (inner : ℕ → Node → Node) (before after : List Content)
    → singular inner k (singles_in (before ++ c ∷ after)) ≡ singular inner k (singles_in (before ++ a ∷ b ∷ after))
singles-singular message a b c (are_both i j v at_a at_b at_c h) k form inner before after =
    let left = singles-at c before after ∙ ap (λ is. singles_in before ++ (is ++ singles_in after)) at_c in
    let right = singles-two a b before after
    ∙ ap (λ is. singles_in before ++ (is ++ (singles_in (b ∷ []) ++ singles_in after))) at_a
    ∙ ap (λ is. singles_in before ++ (i ∷ (is ++ singles_in after))) at_b in
    ap (singular inner k) left ∙ singular-both message i j v k form h inner (singles_in before) (singles_in after) ∙ sym (ap (singular inner k) right)
singles-singular message a b c (is_second none same) k form inner before after =
    ap (singular inner k) (singles-at c before after ∙ ap (λ is. singles_in before ++ (is ++ singles_in after)) same
    ∙ sym (singles-two a b before after
    ∙ ap (λ is. singles_in before ++ (is ++ (singles_in (b ∷ []) ++ singles_in after))) none))
singles-singular message a b c (is_first none same) k form inner before after =
    ap (singular inner k) (singles-at c before after ∙ ap (λ is. singles_in before ++ (is ++ singles_in after)) same
    ∙ sym (singles-two a b before after
    ∙ ap (λ is. singles_in before ++ (singles_in (a ∷ []) ++ (is ++ singles_in after))) none))

form-not_listed : (message : Bool) → Listed ≡ form_for message → ⊥
form-not_listed true h = cc
form-not_listed false h = cc

pub singles-both : (message : Bool) (a b c : Content) → HasItemForBoth message a b c → IsMeaningOfBoth (form_for message) a b c
singles-both message a b c h Plain k form inner before after = ap present_if_set (singles-singular message a b c h k form inner before after)
singles-both message a b c h Optional k form inner before after = ap present (singles-singular message a b c h k form inner before after)
singles-both message a b c h (Member o) k form inner before after = ap present (singles-singular message a b c h k form inner before after)
singles-both message a b c h Repeated k form inner before after = absurd (form-not_listed message form)
singles-both message a b c h Packed k form inner before after = absurd (form-not_listed message form)
singles-both message a b c h (Map key) k form inner before after = absurd (form-not_listed message form)

pub joined-both : (a b c : Content) (form : MergeMode) → form ≡ Joined → HasItemForBoth true a b c → IsMeaningOfBoth form a b c
joined-both a b c form e h = let P : MergeMode → Type 0 = λ f. IsMeaningOfBoth f a b c in subst P (sym e) (singles-both true a b c h)

pub last-both : (a b c : Content) (form : MergeMode) → form ≡ Last → HasItemForBoth false a b c → IsMeaningOfBoth form a b c
last-both a b c form e h = let P : MergeMode → Type 0 = λ f. IsMeaningOfBoth f a b c in subst P (sym e) (singles-both false a b c h)

pub list-both : (a b c : Content) (form : MergeMode) → form ≡ Listed → values_in (c ∷ []) ≡ values_in (a ∷ []) ++ values_in (b ∷ []) → IsMeaningOfBoth form a b c
list-both a b c form e h = let P : MergeMode → Type 0 = λ f. IsMeaningOfBoth f a b c in subst P (sym e) (listed-both a b c h)
