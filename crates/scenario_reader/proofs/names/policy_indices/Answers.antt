use Rattle.std.proofs.Common.{◌++◌, ℕ, Option, sym, ap, ◌∙◌, append-nil}
use Rattle.std.specs.Prelude.{option_to_list}
use Rattle.scenario_reader.proofs.Placing.{places_more}
use Rattle.scenario_reader.proofs.names.policy_indices.Goals as goal
use Rattle.scenario_reader.proofs.names.policy_indices.Goals.{in-Some+in_ok-push, in_default}

pub loop-name-preserved : goal.loop-name-preserved
loop-name-preserved c =
    let places = c.loop-name.places in
    elim c.match-policy.branch [
      | in-Some+in_ok-push w ↦
          places_more c.args.declared.now c.args.names.now c.loop-name.name-index _ c.loop-name-test.true places c.match-policy.places
          c.loop-name.invariant
          (w.places-is ∙ w.in_ok-push.ensures.ok ∙ ap (λ (o : Option ℕ). places ++ option_to_list o) (sym w.in-Some.is ∙ c.policy.ensures))
      | in_default w ↦
          places_more c.args.declared.now c.args.names.now c.loop-name.name-index _ c.loop-name-test.true places c.match-policy.places
          c.loop-name.invariant
          (w.places-is ∙ sym (append-nil places) ∙ ap (λ (o : Option ℕ). places ++ option_to_list o) (sym w.in_default.is ∙ c.policy.ensures))
    ]
