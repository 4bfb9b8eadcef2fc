-- The code's own: steps of operators as a chain applies them and as a plan has them.
use Rattle.std.specs.Prelude.{◌≡◌, ℕ, ◌+◌, ◌<◌, ◌^◌, List, [], ◌∷◌, Option, Some, None, option_and_then, slice_get}
use Rattle.mrpc_table.specs.Lines.{in_64_bits}
use Rattle.engine_core.specs.Chains.{Chain, IsChain, Refusal}
use Rattle.engine_core.specs.declared.op.Op.{Op}
use Rattle.engine_core.specs.declared.op.Op.TheVariants as op
use Rattle.policy_declarations.specs.Declarations.{Declared, policy_index}
use Rattle.policy_declarations.specs.declared.declaration.NamedPolicy.{NamedPolicy}
use Rattle.run_plan.specs.Chains.{IsChangedBy}
use Rattle.run_plan.specs.declared.operator.OperatorStep.{OperatorStep}
use Rattle.run_plan.specs.declared.operator.StepLine.{StepLine}
use Rattle.run_plan.specs.declared.operator.StepLine.TheVariants as line
use Rattle.scenario.specs.Applications.{IsFirstRefusedOp}
use Rattle.scenario.specs.Lines.{count_in}
use Rattle.scenario.specs.Reasons.{scenario_reason_of_refusal}
use Rattle.scenario.specs.declared.fault.ScenarioReason.{ScenarioReason}
use Rattle.scenario_entries.specs.ChainEntries.{AreEntriesOf}
use Rattle.scenario_entries.specs.declared.chain.ChainEntry.{ChainEntry}
use Rattle.scenario_lines.specs.declared.step.StepText.{StepText}
use Rattle.scenario_lines.specs.declared.step.StepText.TheVariants as text

-- the first declared policy with a name
abbrev pub named_in : Declared → List ℕ → Option NamedPolicy
named_in d name = option_and_then (slice_get d.policies) (policy_index d name)

-- the operation of a step on a chain, with the policy that it names
pub record IsAttachmentOf (d : Declared) (position : ℕ) (name policy : List ℕ) (o : Op) : Type 0 where
  pub p : NamedPolicy
  pub found : named_in d policy ≡ Some p
  pub is : o ≡ op.Attach position name p.name p.policy

pub record IsUpgradeOf (d : Declared) (name policy : List ℕ) (o : Op) : Type 0 where
  pub p : NamedPolicy
  pub found : named_in d policy ≡ Some p
  pub is : o ≡ op.Upgrade name p.name p.policy

abbrev pub IsOpOf : Declared → StepText → Op → Type 0
IsOpOf d (text.Attach count at name policy) o = (n : ℕ) × (at ≡ in_64_bits n) × IsAttachmentOf d n name.now policy.now o
IsOpOf d (text.Detach count name) o = o ≡ op.Detach name.now
IsOpOf d (text.Upgrade count name policy) o = IsUpgradeOf d name.now policy.now o

-- attachments from a position on, each of the declared policy with its name
abbrev pub AreOpsOf : Declared → ℕ → List (List ℕ) → List Op → Type 0
AreOpsOf d at [] [] = Unit {0}
AreOpsOf d at (name ∷ names) (o ∷ ops) = IsAttachmentOf d at name name o × AreOpsOf d (at + 1) names ops
AreOpsOf d at _ _ = ⊥

-- the chain refuses one of the steps, and this is the reason of the first refusal
abbrev pub IsRefusedFor : Chain → List Op → ScenarioReason → Type 0
IsRefusedFor start ops q = (refusal : Refusal) × IsFirstRefusedOp start ops refusal
    × (q ≡ scenario_reason_of_refusal refusal)

abbrev pub IsWalked : Chain → List Op → Option ScenarioReason → Type 0
IsWalked start ops None = (after : Chain) × IsChangedBy start ops after
IsWalked start ops (Some q) = IsRefusedFor start ops q

-- the chain applied the steps, and has these entries now
pub record IsWalkedTo (start : Chain) (ops : List Op) (entries : List ChainEntry) : Type 0 where
  pub after : Chain
  pub change : IsChangedBy start ops after
  pub kept : AreEntriesOf entries after
  pub sound : IsChain after

-- a step as a plan has it, if its policy is declared and a chain has its position
abbrev pub IsLineOf : Declared → StepText → StepLine → Type 0
IsLineOf d (text.Attach count at name policy) (line.Attach position n place) =
    (n ≡ name.now) × ((k : ℕ) → at ≡ in_64_bits k → k < 2 ^ 32 → position ≡ k)
    × ((k : ℕ) → policy_index d policy.now ≡ Some k → place ≡ k)
IsLineOf d (text.Detach count name) (line.Detach n) = n ≡ name.now
IsLineOf d (text.Upgrade count name policy) (line.Upgrade n place) =
    (n ≡ name.now) × ((k : ℕ) → policy_index d policy.now ≡ Some k → place ≡ k)
IsLineOf d _ _ = ⊥

pub record IsStepOf (d : Declared) (told : StepText) (s : OperatorStep) : Type 0 where
  pub count : s.count ≡ count_in told
  pub line : IsLineOf d told s.line
