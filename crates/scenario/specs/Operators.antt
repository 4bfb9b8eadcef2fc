-- The faults of operators of a scenario (this project's own).
use Rattle.std.specs.Prelude.{◌≡◌, ℕ, ◌<◌, true, false, List, length, codes, Contains, Some}
use Rattle.mrpc_table.specs.declared.policy_lines.RuleReason.{RuleReason}
use Rattle.mrpc_table.specs.Lines.{in_64_bits}
use Rattle.engine_core.specs.Chains.{Chain, Refusal}
use Rattle.engine_core.specs.declared.op.Op.{Op}
use Rattle.engine_core.specs.declared.op.Op.TheVariants as op
use Rattle.policy_declarations.specs.declared.declaration.NamedPolicy.{NamedPolicy}
use Rattle.run_plan.specs.Chains.{IsChangedBy, empty_chain}
use Rattle.run_plan.specs.declared.limits.TheConstants.{MAX_STEPS}
use Rattle.toml.specs.Data.{Members}
use Rattle.scenario.specs.Applications.{AreAttached, HasFaultUnderOwn, IsFirstRefusedOp, app_tables, chain_names, entry_conn, entry_conns, policy_tables}
use Rattle.scenario.specs.Keys.{operator_keys, operator_ranges}
use Rattle.scenario.specs.Lines.{HasDecreasingCount, step_policy}
use Rattle.scenario_lines.specs.Programs.{Each}
use Rattle.scenario_lines.specs.StepLines.{IsStepTextFault, IsStepTextMeaning}
use Rattle.scenario_lines.specs.declared.reason.LineReason.{LineReason}
use Rattle.scenario_lines.specs.declared.step.StepText.{StepText}
use Rattle.scenario_lines.specs.declared.step.StepText.TheVariants as text
use Rattle.scenario.specs.Policies.{entry_names}
use Rattle.scenario.specs.Reasons.{reason_of_line, scenario_reason_of_refusal, reason_of_policy_line}
use Rattle.scenario_toml.specs.Values.{TheIntegerRange, has_keys, is_out, texts_at}
use Rattle.scenario.specs.declared.fault.ScenarioReason.{ScenarioReason}
use Rattle.scenario.specs.declared.fault.ScenarioReason.TheVariants.{Key, Number, Known, Unknown}

abbrev pub step_lines_of : Members → List (List ℕ)
step_lines_of ms = texts_at (codes "steps") ms

-- what a step line means, by its form
abbrev pub IsAttach : StepText → ℕ → List ℕ → List ℕ → Type 0
IsAttach (text.Attach count d name policy) at n p = (d ≡ in_64_bits at) × (name.now ≡ n) × (policy.now ≡ p)
IsAttach _ at n p = ⊥

abbrev pub IsDetach : StepText → List ℕ → Type 0
IsDetach (text.Detach count name) n = name.now ≡ n
IsDetach _ n = ⊥

abbrev pub IsUpgrade : StepText → List ℕ → List ℕ → Type 0
IsUpgrade (text.Upgrade count name policy) n p = (name.now ≡ n) × (policy.now ≡ p)
IsUpgrade _ n p = ⊥

-- a step line means this operation on a chain, with a declared policy; its position is any number
pub data IsOpOfLine (declared : List NamedPolicy) (line : List ℕ) (o : Op) : Type 0 where
  attaches : (told : StepText) (at : ℕ) (name : List ℕ) (p : NamedPolicy) → IsStepTextMeaning line told
      → IsAttach told at name p.name → Contains declared p → o ≡ op.Attach at name p.name p.policy → IsOpOfLine declared line o
  detaches : (told : StepText) (name : List ℕ) → IsStepTextMeaning line told → IsDetach told name → o ≡ op.Detach name
      → IsOpOfLine declared line o
  upgrades : (told : StepText) (name : List ℕ) (p : NamedPolicy) → IsStepTextMeaning line told → IsUpgrade told name p.name
      → Contains declared p → o ≡ op.Upgrade name p.name p.policy → IsOpOfLine declared line o

-- a step line names this policy
pub record HasPolicyName (lines : List (List ℕ)) (name : List ℕ) : Type 0 where
  pub line : List ℕ
  pub there : Contains lines line
  pub told : StepText
  pub says : IsStepTextMeaning line told
  pub policy : step_policy told ≡ Some name

-- an operator that follows these has a fault with this reason; the declared policies are the scenario's, read under
-- its table
pub data IsOperatorFault (all : Members) (declared : List NamedPolicy) (before : List Members) (ms : Members)
    (reason : ScenarioReason) : Type 0 where
  wrong_keys : has_keys operator_keys ms ≡ false → reason ≡ Key → IsOperatorFault all declared before ms reason
  out_of_range : (r : TheIntegerRange) → Contains operator_ranges r → is_out ms r ≡ true → reason ≡ Number
      → IsOperatorFault all declared before ms reason
  in_line : (line : List ℕ) (why : LineReason) → Contains (step_lines_of ms) line → IsStepTextFault line why → reason ≡ reason_of_line why
      → IsOperatorFault all declared before ms reason
  too_many : MAX_STEPS < length (step_lines_of ms) → reason ≡ Number → IsOperatorFault all declared before ms reason
  falls : HasDecreasingCount (step_lines_of ms) → reason ≡ Number → IsOperatorFault all declared before ms reason
  is_known : Contains (entry_conns before) (entry_conn ms) → reason ≡ Known → IsOperatorFault all declared before ms reason
  no_app : (Contains (entry_conns (app_tables all)) (entry_conn ms) → ⊥) → reason ≡ Unknown
      → IsOperatorFault all declared before ms reason
  no_policy : (name : List ℕ) → HasPolicyName (step_lines_of ms) name
      → (Contains (entry_names (policy_tables all)) name → ⊥) → reason ≡ Unknown → IsOperatorFault all declared before ms reason
  in_policy : (app : Members) (why : RuleReason) → Contains (app_tables all) app → entry_conn app ≡ entry_conn ms
      → HasFaultUnderOwn all app (HasPolicyName (step_lines_of ms)) why → reason ≡ reason_of_policy_line why
      → IsOperatorFault all declared before ms reason
  -- the first refused operation, on the chain after the application's attachments and the operations before it
  is_refused : (app : Members) (attached ops : List Op) (start : Chain) (refusal : Refusal) → Contains (app_tables all) app
      → entry_conn app ≡ entry_conn ms → AreAttached declared 0 (chain_names app) attached
      → IsChangedBy empty_chain attached start → Each (IsOpOfLine declared) (step_lines_of ms) ops → IsFirstRefusedOp start ops refusal
      → reason ≡ scenario_reason_of_refusal refusal → IsOperatorFault all declared before ms reason
