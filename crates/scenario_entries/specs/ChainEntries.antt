-- The entries of a chain, as the code keeps them (this project's own).
use Rattle.std.specs.Prelude.{◌≡◌, ℕ, List, map, Option, Some, None}
use Rattle.engine_core.specs.Chains.{Chain, HasChanged, Refusal, IsRejection}
use Rattle.engine_core.specs.declared.op.Op.{Op}
use Rattle.engine_core.specs.declared.policy.Policy.{Policy}
use Rattle.scenario.specs.Reasons.{scenario_reason_of_refusal}
use Rattle.scenario_entries.specs.declared.chain.ChainEntry.{ChainEntry}
use Rattle.scenario.specs.declared.fault.ScenarioReason.{ScenarioReason}

-- names and policies, in order
abbrev pub outline_policies : List ChainEntry → List (List ℕ × Policy)
outline_policies entries = map (λ e. (e.name.now, e.policy.now)) entries

abbrev pub chain_policies : Chain → List (List ℕ × Policy)
chain_policies chain = map (λ e. (e.name, e.policy)) chain.entries

abbrev pub AreEntriesOf : List ChainEntry → Chain → Type 0
AreEntriesOf entries chain = outline_policies entries ≡ chain_policies chain

-- the chain applied the operation and has these entries now, or refuses it for this reason
abbrev pub IsChangeOrRefusal : Chain → Op → List ChainEntry → Option ScenarioReason → Type 0
IsChangeOrRefusal chain op entries None = (after : Chain) × HasChanged chain op after × AreEntriesOf entries after
IsChangeOrRefusal chain op entries (Some q) = (refusal : Refusal) × IsRejection chain op refusal × (q ≡ scenario_reason_of_refusal refusal)
