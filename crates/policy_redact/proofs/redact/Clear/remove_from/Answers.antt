use Rattle.std.proofs.Common.{◌&&◌, Bool, List, [], ◌∷◌, ◌++◌, ℕ, ap, sym, ◌∙◌}
use Rattle.std.specs.Str.{bytes_eq}
use Rattle.mrpc_table.specs.Node.{Node}
use Rattle.policy_redact.specs.Without.{without}
use Rattle.policy_redact.specs.Redacting.{is_at}
use Rattle.policy_redact.proofs.Leaving.{without-nothing}
use Rattle.policy_redact.proofs.redact.Clear.remove_from.Goals as goal

pub returns-then-not-applies_to-clause-left : goal.returns-then-not-applies_to-clause-left
returns-then-not-applies_to-clause-left c =
    let other = c.if-not-applies_to.ensures in
    let same = sym (without-nothing c.args.call.now.tree) ∙ ap (λ (b : Bool). without (λ path. b && is_at c.args.self.now path) c.args.call.now.tree) other in
    ap (λ (t : Node). record c.args.call.now { tree = t }) same

pub returns-clause-left : goal.returns-clause-left
returns-clause-left c =
    let of_call = c.if-not-applies_to.ensures in
    let same =
    c.remove_at.ensures.left
    ∙ ap (λ (way : List ℕ). without (bytes_eq (way ++ c.args.self.now.path.number ∷ [])) c.args.call.now.tree) c.as_slice.ensures
    ∙ ap (λ (b : Bool). without (λ path. b && is_at c.args.self.now path) c.args.call.now.tree) of_call in
    ap (λ (t : Node). record c.args.call.now { tree = t }) same
