-- The code's own: what the applications of a scenario depend on, and how a part of an entry is read.
use Rattle.std.specs.Prelude.{◌≡◌, Result, Ok, Err}
use Rattle.mrpc_table.specs.Valid.{AreDistinct}
use Rattle.mrpc_table.specs.declared.table.Table.{Table}
use Rattle.toml.specs.Data.{Members}
use Rattle.scenario.specs.Applications.{HasTable, all_entry_ends, link_tables, operator_tables, policy_tables, tenant_tables}
use Rattle.scenario.specs.Keys.{loads}
use Rattle.scenario.specs.Policies.{IsPolicyFault, IsPolicyMeaning, entry_names}
use Rattle.scenario.specs.Reasons.{IsFirstScenarioReason}
use Rattle.scenario.specs.Scenarios.{schema_of}
use Rattle.scenario.specs.declared.fault.ScenarioReason.{ScenarioReason}
use Rattle.scenario_lines.specs.Programs.{Each}
use Rattle.scenario_toml.specs.Values.{number_or_default}
use Rattle.scenario_entries.specs.Entries.{AreFaultFree, views}
use Rattle.scenario_reader.specs.declared.app_context.AppContext.{AppContext}

pub record IsAppContext (all : Members) (T : Table) (above : AppContext) : Type 0 where
  pub table : HasTable (schema_of all) T
  pub free : AreFaultFree (IsPolicyFault T (tenant_tables all)) (policy_tables all)
  pub policies : Each (IsPolicyMeaning T (tenant_tables all)) (policy_tables all) above.declared.now.policies
  pub distinct : AreDistinct (entry_names (policy_tables all))
  pub entries : views above.policies.now ≡ policy_tables all
  pub operators : views above.operators.now ≡ operator_tables all
  pub ends : above.ends.now ≡ all_entry_ends (link_tables all)
  pub loads : above.loads ≡ number_or_default loads all

-- a part has no fault, and means this; or this is the first reason of its faults
abbrev pub IsPart : {X : Type 0} → (ScenarioReason → Type 0) → (X → Type 0) → Result X ScenarioReason → Type 0
IsPart Fails Says (Ok x) = ((q : ScenarioReason) → Fails q → ⊥) × Says x
IsPart Fails Says (Err q) = IsFirstScenarioReason Fails q
