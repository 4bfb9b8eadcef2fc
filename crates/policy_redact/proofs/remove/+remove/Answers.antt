use Rattle.std.proofs.Common.{◌≡◌, ℕ, ◌-◌, ◌<◌, Bool, true, false, List, [], ◌∷◌, ◌++◌, length, length-take}
use Rattle.std.proofs.Common.{length-drop, drop, get_or, set, None, ap, sym, ◌∙◌, subst, arith}
use Rattle.std.specs.Str.{bytes_eq}
use Rattle.std.specs.Bool.{OnTrue, OnFalse}
use Rattle.mrpc_table.specs.Node.{Node, content_at}
use Rattle.mrpc_table.specs.View.{node_of, content_of}
use Rattle.mrpc_table.specs.Weight.{weight, content_weight}
use Rattle.mrpc_table.specs.declared.tree.FieldValue.{FieldValue}
use Rattle.mrpc_table.specs.PathTrees.{IsAscendingTree, IsAscendingContent}
use Rattle.policy_redact.specs.Without.{without}
use Rattle.policy_redact.proofs.Removing.{none-under, stepped, same-inside, lighter-inside, held, begins, rest_of}
use Rattle.policy_redact.proofs.remove.+remove.Goals as goal

pub remove_at-remove_inside-requires : goal.remove_at-remove_inside-requires
remove_at-remove_inside-requires t c =
    let fs = c.tree.inside.fields.items in
    let up = subst IsAscendingTree (sym c.tree.view_is) c.requires in
    let within = subst (λ (l : List (ℕ × FieldValue)). c.in-Some.place < length l) c.as_slice.ensures.value c.in-Some.ensures.within in (
      omega (
        arith,
        length-take (length c.args.way.now - 1) (drop 1 c.args.way.now),
        length-drop 1 c.args.way.now,
        c.in-len1-up.len_at_least,
      ),
      subst (λ (f : ℕ × FieldValue). IsAscendingContent (content_of f.1))
          (sym c.index_mut.ensures.value) (held fs 0 c.in-Some.place c.index_mut.result.now up within),
    )

pub remove_at-returns-in-None-clause-left : goal.remove_at-returns-in-None-clause-left
remove_at-returns-in-None-clause-left t c =
    let n = get_or c.args.way.now 0 0 in
    let none = subst (λ (l : List (ℕ × FieldValue)). content_at (node_of l) n ≡ None) c.as_slice.ensures.value c.in-None.ensures.none in
    let none_in = subst (λ (u : Node). content_at u n ≡ None) c.tree.view_is none in
    sym (ap (λ (path : List ℕ). without (bytes_eq path) c.args.tree.now) (begins c.args.way.now c.args.number c.in-len1-up.len_at_least)
    ∙ none-under c.args.tree.now n (rest_of c.args.way.now ++ c.args.number ∷ []) none_in)

pub remove_at-returns-in-Some-clause-left : goal.remove_at-returns-in-Some-clause-left
remove_at-returns-in-Some-clause-left t c =
    let fs = c.tree.inside.fields.items in
    let f = c.index_mut.result.now in
    let up = subst IsAscendingTree (sym c.tree.view_is) c.requires in
    let within = subst (λ (l : List (ℕ × FieldValue)). c.in-Some.place < length l) c.as_slice.ensures.value c.in-Some.ensures.within in
    let at = subst (λ (l : List (ℕ × FieldValue)). (get_or l c.in-Some.place f).0 ≡ get_or c.args.way.now 0 0) c.as_slice.ensures.value (c.in-Some.ensures.numbered f) in
    stepped fs c.in-Some.place c.args.way.now c.args.number f c.remove_inside.new.content up c.in-len1-up.len_at_least within c.index_mut.ensures.value at c.remove_inside.ensures.left
    ∙ ap (without (bytes_eq (c.args.way.now ++ c.args.number ∷ []))) c.tree.view_is

on_true : (b : Bool) (P Q : Type 0) → (P → Q) → OnTrue b P → OnTrue b Q
on_true true P Q f p = f p
on_true false P Q f p = tt

on_false : (b : Bool) (P Q : Type 0) → (P → Q) → OnFalse b P → OnFalse b Q
on_false true P Q f p = tt
on_false false P Q f p = f p

pub remove_at-returns-in-Some-clause-smaller : goal.remove_at-returns-in-Some-clause-smaller
remove_at-returns-in-Some-clause-smaller t c =
    let fs = c.tree.inside.fields.items in
    let f = c.index_mut.result.now in
    let new = c.remove_inside.new.content in
    let within = subst (λ (l : List (ℕ × FieldValue)). c.in-Some.place < length l) c.as_slice.ensures.value c.in-Some.ensures.within in
    on_true c.remove_inside.result (content_weight (content_of new) < content_weight (content_of f.1)) (weight (node_of (set fs c.in-Some.place (f.0, new))) < weight c.args.tree.now)
    (λ less. subst (λ (u : Node). weight (node_of (set fs c.in-Some.place (f.0, new))) < weight u) c.tree.view_is
    (lighter-inside fs c.in-Some.place f (f.0, new) within
    (subst (λ (g : ℕ × FieldValue). content_weight (content_of new) < content_weight (content_of g.1))
    c.index_mut.ensures.value less)))
    c.remove_inside.ensures.smaller

pub remove_at-returns-in-Some-clause-unchanged : goal.remove_at-returns-in-Some-clause-unchanged
remove_at-returns-in-Some-clause-unchanged t c =
    let fs = c.tree.inside.fields.items in
    let f = c.index_mut.result.now in
    let new = c.remove_inside.new.content in
    let within = subst (λ (l : List (ℕ × FieldValue)). c.in-Some.place < length l) c.as_slice.ensures.value c.in-Some.ensures.within in
    on_false c.remove_inside.result (content_of new ≡ content_of f.1) (node_of (set fs c.in-Some.place (f.0, new)) ≡ c.args.tree.now)
    (λ same. same-inside fs c.in-Some.place f (f.0, new) within
    (ap (λ (g : ℕ × FieldValue). g.0) c.index_mut.ensures.value)
    (same ∙ ap (λ (g : ℕ × FieldValue). content_of g.1) c.index_mut.ensures.value) ∙ c.tree.view_is)
    c.remove_inside.ensures.unchanged
