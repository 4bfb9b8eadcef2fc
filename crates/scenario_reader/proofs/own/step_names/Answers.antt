use Rattle.std.proofs.Common.{◌++◌, ℕ, List, ap, ◌∙◌}
use Rattle.std.specs.Borrow.{Bor}
use Rattle.std.specs.Prelude.{filter_map, map}
use Rattle.toml.specs.View.{table_view}
use Rattle.scenario.specs.Lines.{step_policy}
use Rattle.scenario_lines.specs.declared.step.StepText.{StepText}
use Rattle.scenario_reader.proofs.Stepping.{Laws}
use Rattle.scenario_reader.proofs.Using.{names_are}
use Rattle.scenario_reader.proofs.own.step_names.Goals as goal

pub returns : goal.returns
returns c =
    let laws : Laws = record { one = c.meanings_or_reason.ensures.one; not_both = c.meanings_or_reason.ensures.not_both } in
    names_are laws (table_view c.args.entry.now) (map (λ t. t.now) c.as_slice.result.now) (map (λ n. n.now) c.add_names.new.names.items)
    c.in_ok-steps.steps.told.items
    (ap (λ (xs : List (Bor (List ℕ))). map (λ t. t.now) xs) c.as_slice.ensures.value ∙ c.in_ok-lines.ensures)
    c.in_ok-steps.ensures.tell
    (c.in_ok-add_names.ensures
    ∙ ap (λ (xs : List (Bor (List ℕ))). map (λ t. t.now) xs ++ filter_map step_policy c.as_slice-2.result.now) c.new-names.ensures.items
    ∙ ap (λ (xs : List StepText). filter_map step_policy xs) c.as_slice-2.ensures.value)
