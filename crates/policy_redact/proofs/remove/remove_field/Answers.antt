use Rattle.std.proofs.Common.{◌≡◌, ℕ, ◌<◌, List, [], ◌∷◌, length, get_or, None, ap, sym, ◌∙◌, subst}
use Rattle.std.specs.Str.{bytes_eq}
use Rattle.mrpc_table.specs.Node.{Node, content_at}
use Rattle.mrpc_table.specs.View.{node_of}
use Rattle.mrpc_table.specs.Weight.{weight}
use Rattle.mrpc_table.specs.declared.tree.FieldValue.{FieldValue}
use Rattle.mrpc_table.specs.PathTrees.{IsAscendingTree}
use Rattle.policy_redact.specs.Without.{without}
use Rattle.policy_redact.proofs.Removing.{none-under, removed, lighter}
use Rattle.policy_redact.proofs.remove.remove_field.Goals as goal

pub returns-in_default-clause-left : goal.returns-in_default-clause-left
returns-in_default-clause-left c =
    let none = subst (λ (fs : List (ℕ × FieldValue)). content_at (node_of fs) c.args.number ≡ None) c.as_slice.ensures.value c.in_default.ensures.none in
    sym (none-under c.args.tree.now c.args.number [] (subst (λ (t : Node). content_at t c.args.number ≡ None) c.tree.view_is none))

pub returns-clause-left : goal.returns-clause-left
returns-clause-left c =
    let fs = c.tree.inside.fields.items in
    let d = c.remove.result in
    let up = subst IsAscendingTree (sym c.tree.view_is) c.requires in
    let within = subst (λ (l : List (ℕ × FieldValue)). c.in-Some.place < length l) c.as_slice.ensures.value c.in-Some.ensures.within in
    let at = subst (λ (l : List (ℕ × FieldValue)). (get_or l c.in-Some.place d).0 ≡ c.args.number) c.as_slice.ensures.value (c.in-Some.ensures.numbered d) in
    ap node_of c.remove.ensures.items ∙ removed fs 0 c.args.number c.in-Some.place d up within at ∙ ap (without (bytes_eq (c.args.number ∷ []))) c.tree.view_is

pub returns-clause-smaller : goal.returns-clause-smaller
returns-clause-smaller c =
    let fs = c.tree.inside.fields.items in
    let within = subst (λ (l : List (ℕ × FieldValue)). c.in-Some.place < length l) c.as_slice.ensures.value c.in-Some.ensures.within in
    let less = subst (λ (l : List (ℕ × FieldValue)). weight (node_of l) < weight (node_of fs)) (sym c.remove.ensures.items) (lighter fs c.in-Some.place within) in
    subst (λ (t : Node). weight (node_of c.remove.new.self.items) < weight t) c.tree.view_is less
