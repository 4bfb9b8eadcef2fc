-- The code's own: the faults of an operator, part by part.
use Rattle.std.specs.Prelude.{◌≡◌, ℕ, ◌<◌, ◌==◌, Bool, List, length, Contains, Some, None, Result, Ok, Err}
use Rattle.std.specs.List.{list_any}
use Rattle.engine_core.specs.Chains.{Chain, IsChain, Refusal}
use Rattle.engine_core.specs.declared.op.Op.{Op}
use Rattle.policy_declarations.specs.Declarations.{Declared}
use Rattle.policy_declarations.specs.declared.declaration.NamedPolicy.{NamedPolicy}
use Rattle.run_plan.specs.Chains.{IsChangedBy, empty_chain}
use Rattle.run_plan.specs.declared.limits.TheConstants.{MAX_STEPS}
use Rattle.run_plan.specs.declared.operator.Operator.{Operator}
use Rattle.toml.specs.Data.{Members}
use Rattle.scenario.specs.Applications.{AreAttached, IsFirstRefusedOp, chain_names, entry_conn, entry_conns, policy_tables}
use Rattle.scenario.specs.Operators.{HasPolicyName, IsOpOfLine, step_lines_of}
use Rattle.scenario.specs.Policies.{entry_names}
use Rattle.scenario.specs.Reasons.{scenario_reason_of_refusal}
use Rattle.scenario.specs.declared.fault.ScenarioReason.{ScenarioReason}
use Rattle.scenario.specs.declared.fault.ScenarioReason.TheVariants.{Known, Number, Unknown}
use Rattle.scenario_lines.specs.Programs.{Each}
use Rattle.scenario_lines.specs.declared.step.StepText.{StepText}
use Rattle.scenario_entries.specs.ChainEntries.{AreEntriesOf}
use Rattle.scenario_entries.specs.declared.chain.ChainEntry.{ChainEntry}
use Rattle.scenario_entries.specs.Owning.{HasNamedFault}
use Rattle.scenario_reader.specs.StepLinesReading.{HasLinesFault}
use Rattle.scenario_reader.specs.Walking.{IsOpOf, IsStepOf, IsWalked}

abbrev pub is_operated : List Operator → ℕ → Bool
is_operated operators conn = list_any (λ o. o.conn == conn) operators

-- the lines, the connection or the named policies of an operator have a fault with this reason
pub data HasOperatorHeadFault (all : Members) (before : List Members) (ms : Members) (q : ScenarioReason) : Type 0 where
  in_lines : HasLinesFault (step_lines_of ms) q → HasOperatorHeadFault all before ms q
  too_many : MAX_STEPS < length (step_lines_of ms) → q ≡ Number → HasOperatorHeadFault all before ms q
  is_known : Contains (entry_conns before) (entry_conn ms) → q ≡ Known → HasOperatorHeadFault all before ms q
  no_policy : (name : List ℕ) → HasPolicyName (step_lines_of ms) name
      → (Contains (entry_names (policy_tables all)) name → ⊥) → q ≡ Unknown
      → HasOperatorHeadFault all before ms q

-- the policies that it names fail under the schema of an application
abbrev pub HasOperatorOwnFault : Members → Members → Members → ScenarioReason → Type 0
HasOperatorOwnFault all app ms q = HasNamedFault all app (HasPolicyName (step_lines_of ms)) q

-- the chain of an application refuses one of its steps
pub record HasStepFault (all : Members) (declared : List NamedPolicy) (app ms : Members) (q : ScenarioReason)
    : Type 0 where
  pub attached : List Op
  pub ops : List Op
  pub start : Chain
  pub refusal : Refusal
  pub are_attached : AreAttached declared 0 (chain_names app) attached
  pub begun : IsChangedBy empty_chain attached start
  pub steps : Each (IsOpOfLine declared) (step_lines_of ms) ops
  pub refused : IsFirstRefusedOp start ops refusal
  pub is : q ≡ scenario_reason_of_refusal refusal

-- the operator on a connection with these steps, on a chain with these entries; or the reason of the first refusal
abbrev pub IsOperatorOf : Declared → List ChainEntry → ℕ → List StepText → Result Operator ScenarioReason → Type 0
IsOperatorOf d entries conn told (Ok o) =
    (o.conn ≡ conn) × Each (IsStepOf d) told o.steps
    × ((start : Chain) (ops : List Op) → IsChain start → AreEntriesOf entries start → Each (IsOpOf d) told ops
    → IsWalked start ops None)
IsOperatorOf d entries conn told (Err q) =
    (start : Chain) (ops : List Op) → IsChain start → AreEntriesOf entries start → Each (IsOpOf d) told ops
    → IsWalked start ops (Some q)
