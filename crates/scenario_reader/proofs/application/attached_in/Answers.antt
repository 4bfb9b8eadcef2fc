use Rattle.std.proofs.Common.{◌≡◌, List, ℕ, map, ap, ◌∙◌, subst}
use Rattle.std.specs.Borrow.{Bor}
use Rattle.std.specs.Prelude.{IfOk, filter_map}
use Rattle.policy_declarations.specs.Declarations.{policy_index}
use Rattle.scenario_reader.proofs.application.attached_in.Goals as goal

pub returns : goal.returns
returns c =
    let words = ap (λ (xs : List (Bor (List ℕ))). map (λ n. n.now) xs) c.as_slice.ensures.value ∙ c.in_ok-names.ensures in
    subst (λ (ns : List (List ℕ)). IfOk c.policy_indices.result (λ places. places ≡ filter_map (policy_index c.args.declared.now) ns)) words c.policy_indices.ensures
