-- Links and operators without faults have a meaning.
use Rattle.std.proofs.Common.{◌≡◌, ℕ, List, Contains, Some, refl, inl, inr}
use Rattle.policy_declarations.specs.declared.declaration.NamedPolicy.{NamedPolicy}
use Rattle.run_plan.specs.declared.operator.Operator.{Operator}
use Rattle.run_plan.specs.declared.operator.OperatorStep.{OperatorStep}
use Rattle.run_plan.specs.declared.plan.LinkPlan.{LinkPlan}
use Rattle.toml.specs.Data.{Members}
use Rattle.scenario_lines.specs.Programs.{Each}
use Rattle.scenario_lines.specs.StepLines.{IsStepTextMeaning as LineTells}
use Rattle.scenario_lines.specs.declared.step.StepText.{StepText}
use Rattle.scenario_toml.specs.Values.{number_or_default}
use Rattle.scenario.specs.Applications.{entry_conn, operator_tables, policy_tables}
use Rattle.scenario.specs.Keys.{end_a, end_b}
use Rattle.scenario.specs.Lines.{step_policy}
use Rattle.scenario.specs.Operators.{IsOperatorFault, step_lines_of}
use Rattle.scenario.specs.Operators as against
use Rattle.scenario.specs.Reasons.{reason_of_line}
use Rattle.scenario.specs.Scenarios.{IsLinkMeaning, IsOperatorMeaning, IsStepMeaning, policy_entry_index}
use Rattle.scenario.specs.declared.fault.ScenarioReason.{ScenarioReason}
use Rattle.scenario.specs.declared.fault.ScenarioReason.TheVariants.{Unknown}
use Rattle.scenario_laws.proofs.Lines.{OneJudgement, step_either, step_of}
use Rattle.scenario_laws.proofs.FaultyLists.{AreFree, each_by, free_of, placed}

pub links_say : (entries : List Members) → (links : List LinkPlan) × Each IsLinkMeaning entries links
links_say entries =
    each_by IsLinkMeaning entries (λ ms there. (record { a = number_or_default end_a ms; b = number_or_default end_b ms }, record { a = refl; b = refl }))

module _ (judge : OneJudgement) (all : Members) (declared : List NamedPolicy) where
  module _ (before : List Members) (ms : Members) (free : (q : ScenarioReason) → IsOperatorFault all declared before ms q → ⊥) where
    told_place : (line : List ℕ) → Contains (step_lines_of ms) line → (told : StepText) → LineTells line told → (name : List ℕ)
        → step_policy told ≡ Some name → (place : ℕ) × (policy_entry_index all name ≡ Some place)
    told_place line there told tells name is = placed (policy_tables all) name (λ none. free Unknown
        (against.no_policy name (record { line = line; there = there; told = told; says = tells; policy = is }) none refl))

    step_says : (line : List ℕ) → Contains (step_lines_of ms) line → (s : OperatorStep) × IsStepMeaning all line s
    step_says line there = elim (step_either judge line) [
      | inl says ↦ step_of all line says.0 says.1 (told_place line there says.0 says.1)
      | inr why ↦ absurd (free (reason_of_line why.0) (against.in_line line why.0 there why.1 refl))
    ]

    operator_says : (operator : Operator) × IsOperatorMeaning all ms operator
    operator_says =
        let steps = each_by (IsStepMeaning all) (step_lines_of ms) step_says in
        (record { conn = entry_conn ms; steps = steps.0 }, record { conn = refl; steps = steps.1 })

  pub operators_say : AreFree (IsOperatorFault all declared) (operator_tables all)
      → (operators : List Operator) × Each (IsOperatorMeaning all) (operator_tables all) operators
  operators_say free = each_by (IsOperatorMeaning all) (operator_tables all) (λ ms there.
      let none = free_of (IsOperatorFault all declared) (operator_tables all) free ms there in
      operator_says none.0 ms none.1)
