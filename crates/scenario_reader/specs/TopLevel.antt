-- The code's own: faults of the text and of the top table.
use Rattle.std.specs.Prelude.{◌≡◌, ℕ, ◌<◌, List, codes}
use Rattle.mrpc_table.specs.declared.table.Table.{Table}
use Rattle.toml.specs.Data.{Members}
use Rattle.scenario.specs.Applications.{app_tables, link_tables, operator_tables, policy_tables, tenant_tables}
use Rattle.scenario.specs.Policies.{IsPolicyFault, IsPolicyMeaning, IsTenantMeaning}
use Rattle.scenario.specs.Reasons.{IsFirstScenarioReason, list_of_entry}
use Rattle.scenario.specs.Scenarios.{IsAppMeaning, IsFaultOfEntry, IsFirstFaultyEntry, IsTableText, IsLinkMeaning, IsOperatorMeaning, IsTopKeyFault}
use Rattle.scenario.specs.declared.fault.FaultyEntry.{FaultyEntry}
use Rattle.scenario.specs.declared.fault.FaultyEntry.TheVariants as entry
use Rattle.scenario.specs.declared.fault.ScenarioFault.{ScenarioFault}
use Rattle.scenario.specs.declared.fault.ScenarioFault.TheVariants as fault
use Rattle.scenario.specs.declared.fault.ScenarioReason.{ScenarioReason}
use Rattle.scenario.specs.declared.fault.ScenarioReason.TheVariants.{Toml}
use Rattle.scenario_lines.specs.Programs.{Each}
use Rattle.scenario_toml.specs.Values.{text_or_empty}
use Rattle.scenario_entries.specs.Entries.{AreFaultFree, views}
use Rattle.scenario_reader.specs.declared.reader.LowerLists.{LowerLists}
use Rattle.scenario_reader.specs.declared.reader.DeclaredEntries.{DeclaredEntries}
use Rattle.scenario_reader.specs.declared.reader.ScenarioParts.{ScenarioParts}

-- the text isn't TOML
abbrev pub IsNoTable : List ℕ → ScenarioFault → Type 0
IsNoTable text (fault.At at reason) = ((all : Members) → IsTableText text all → ⊥) × (at ≡ entry.Top) × (reason ≡ Toml)
IsNoTable text fault.Memory = Unit {0}

-- the first reason of faults in the keys of the top table
abbrev pub IsTopFault : Members → ScenarioFault → Type 0
IsTopFault all (fault.At at reason) = (at ≡ entry.Top) × IsFirstScenarioReason (IsTopKeyFault all) reason
IsTopFault all fault.Memory = Unit {0}

-- no entry of the lists before this one has a fault
abbrev pub IsFaultFreeBefore : Members → ℕ → Type 0
IsFaultFreeBefore all k = (at : FaultyEntry) (q : ScenarioReason) → list_of_entry at < k → IsFaultOfEntry all at q → ⊥

-- a fault is the first one
abbrev pub IsFirstFaultOfScenario : Members → ScenarioFault → Type 0
IsFirstFaultOfScenario all (fault.At at reason) = IsFirstFaultyEntry all at reason
IsFirstFaultOfScenario all fault.Memory = Unit {0}

-- what the lists after the declarations mean, given that no entry has a fault
pub record IsMeaningOfLowerLists (all : Members) (b : LowerLists) : Type 0 where
  pub free : IsFaultFreeBefore all 6
  pub applications : Each (IsAppMeaning all) (app_tables all) b.applications
  pub links : Each IsLinkMeaning (link_tables all) b.links
  pub operators : Each (IsOperatorMeaning all) (operator_tables all) b.operators

-- what the lists of tenants and policies mean under a table, given that none of their entries has a fault
pub record IsMeaningOfDeclared (all : Members) (T : Table) (d : DeclaredEntries) : Type 0 where
  pub free : IsFaultFreeBefore all 3
  pub of_policies : AreFaultFree (IsPolicyFault T (tenant_tables all)) (policy_tables all)
  pub tenants : Each IsTenantMeaning (tenant_tables all) d.declarations.tenants
  pub policies : Each (IsPolicyMeaning T (tenant_tables all)) (policy_tables all) d.declarations.policies
  pub entries : views d.policies.items ≡ policy_tables all

-- what a scenario means under its table, given that no entry has a fault
pub record IsMeaningOfParts (all : Members) (T : Table) (parts : ScenarioParts) : Type 0 where
  pub service : parts.service ≡ text_or_empty (codes "service") all
  pub tenants : Each IsTenantMeaning (tenant_tables all) parts.declared.tenants
  pub policies : Each (IsPolicyMeaning T (tenant_tables all)) (policy_tables all) parts.declared.policies
  pub below : IsMeaningOfLowerLists all parts.below
