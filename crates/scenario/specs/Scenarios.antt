-- What a scenario means as a plan, entry by entry, and its faults (this project's own).
use Rattle.std.specs.Prelude.{◌≡◌, ◌⊎◌, ◌↔◌, IsUtf8, ℕ, ◌+◌, ◌<◌, true, false, List, ◌∷◌, ◌++◌, map, length, codes, All, Contains, Option, Some, None, option_to_list, position, slice_get}
use Rattle.std.specs.Str.{bytes_eq}
use Rattle.mrpc_table.specs.Names.{IsFullName}
use Rattle.mrpc_table.specs.Valid.{IsAscendingBy}
use Rattle.mrpc_table.specs.declared.table.Table.{Table}
use Rattle.policy_declarations.specs.declared.declaration.NamedPolicy.{NamedPolicy}
use Rattle.run_plan.specs.declared.application.Application.{Application}
use Rattle.run_plan.specs.declared.application.OwnPolicy.{OwnPolicy}
use Rattle.run_plan.specs.declared.application.OwnSchema.{OwnSchema}
use Rattle.run_plan.specs.declared.application.Role.{Role}
use Rattle.run_plan.specs.declared.application.Role.TheVariants as plan_role
use Rattle.run_plan.specs.declared.operator.Operator.{Operator}
use Rattle.run_plan.specs.declared.operator.OperatorStep.{OperatorStep}
use Rattle.run_plan.specs.declared.operator.StepLine.{StepLine}
use Rattle.run_plan.specs.declared.operator.StepLine.TheVariants as step
use Rattle.run_plan.specs.declared.plan.LinkPlan.{LinkPlan}
use Rattle.run_plan.specs.declared.plan.Plan.{Plan}
use Rattle.toml.specs.Data.{Members}
use Rattle.toml.specs.Parse.{parse_document}
use Rattle.scenario.specs.Applications.{IsAppFault, HasTable, IsLinkFault, app_tables, chain_names, entry_conn, link_tables, policies_named_in, operator_tables, policy_tables, program_lines_of, tenant_tables}
use Rattle.scenario.specs.Keys.{end_a, end_b, heap, loads, receive, ring, entry_role, top_keys, top_ranges, weight, workers}
use Rattle.scenario.specs.Lines.{count_in}
use Rattle.scenario.specs.Operators.{IsAttach, IsDetach, IsUpgrade, HasPolicyName, IsOperatorFault, step_lines_of}
use Rattle.scenario_lines.specs.Lines.{IsProgramLineMeaning}
use Rattle.scenario_lines.specs.Programs.{Each}
use Rattle.scenario_lines.specs.StepLines.{IsStepTextMeaning as LineTells}
use Rattle.scenario_lines.specs.declared.form.ProgramRole.TheVariants as program_of_role
use Rattle.scenario_lines.specs.declared.step.StepText.{StepText}
use Rattle.scenario.specs.Policies.{IsPolicyOfKind, IsPolicyFault, IsPolicyMeaning, IsTenantFault, IsTenantMeaning, entry_name}
use Rattle.scenario.specs.Reasons.{list_of_entry, number_of_entry, scenario_reason_rank}
use Rattle.scenario_toml.specs.Values.{TheIntegerRange, flag_at, has_keys, is_out, number_or_default, text_at, text_or_empty}
use Rattle.scenario.specs.declared.fault.FaultyEntry.{FaultyEntry}
use Rattle.scenario.specs.declared.fault.FaultyEntry.TheVariants as entry
use Rattle.scenario.specs.declared.fault.ScenarioFault.{ScenarioFault}
use Rattle.scenario.specs.declared.fault.ScenarioFault.TheVariants as fault
use Rattle.scenario.specs.declared.fault.ScenarioReason.{ScenarioReason}
use Rattle.scenario.specs.declared.fault.ScenarioReason.TheVariants.{Toml, Key, Number, Name, Schema}
use Rattle.scenario.specs.declared.entry_words.RoleWord.TheVariants as role

-- ---- the faults of a scenario

abbrev pub schema_of : Members → List ℕ
schema_of all = text_or_empty (codes "schema") all

-- the keys of the top table have a fault with this reason
pub data IsTopKeyFault (all : Members) (reason : ScenarioReason) : Type 0 where
  wrong_keys : has_keys top_keys all ≡ false → reason ≡ Key → IsTopKeyFault all reason
  out_of_range : (r : TheIntegerRange) → Contains top_ranges r → is_out all r ≡ true → reason ≡ Number → IsTopKeyFault all reason
  no_name : (IsFullName (text_or_empty (codes "service") all) → ⊥) → reason ≡ Name → IsTopKeyFault all reason
  no_table : ((T : Table) → HasTable (schema_of all) T → ⊥) → reason ≡ Schema → IsTopKeyFault all reason

-- the policies of a scenario, read under its table
pub record AreDeclared (all : Members) (declared : List NamedPolicy) : Type 0 where
  pub table : Table
  pub of_schema : HasTable (schema_of all) table
  pub policies : Each (IsPolicyMeaning table (tenant_tables all)) (policy_tables all) declared

-- an entry follows these in its list, and this is its number, from 1
pub record IsEntryAt (entries before : List Members) (ms : Members) (number : ℕ) : Type 0 where
  pub back : List Members
  pub whole : entries ≡ before ++ ms ∷ back
  pub is_number : number ≡ length before + 1

-- an entry of a scenario has a fault with this reason
pub data IsFaultOfEntry (all : Members) (at : FaultyEntry) (reason : ScenarioReason) : Type 0 where
  top : at ≡ entry.Top → IsTopKeyFault all reason → IsFaultOfEntry all at reason
  tenant : (before : List Members) (ms : Members) (n : ℕ) → at ≡ entry.Tenant n → IsEntryAt (tenant_tables all) before ms n
      → IsTenantFault before ms reason → IsFaultOfEntry all at reason
  policy : (before : List Members) (ms : Members) (n : ℕ) (T : Table) → at ≡ entry.Policy n
      → IsEntryAt (policy_tables all) before ms n → HasTable (schema_of all) T → IsPolicyFault T (tenant_tables all) before ms reason
      → IsFaultOfEntry all at reason
  app : (before : List Members) (ms : Members) (n : ℕ) (declared : List NamedPolicy) → at ≡ entry.App n
      → IsEntryAt (app_tables all) before ms n → AreDeclared all declared → IsAppFault all declared before ms reason
      → IsFaultOfEntry all at reason
  link : (before : List Members) (ms : Members) (n : ℕ) → at ≡ entry.Link n → IsEntryAt (link_tables all) before ms n
      → IsLinkFault all before ms reason → IsFaultOfEntry all at reason
  operator : (before : List Members) (ms : Members) (n : ℕ) (declared : List NamedPolicy) → at ≡ entry.Operator n
      → IsEntryAt (operator_tables all) before ms n → AreDeclared all declared → IsOperatorFault all declared before ms reason
      → IsFaultOfEntry all at reason

-- entries are ordered by their lists and then by their numbers
abbrev pub IsEntryBefore : FaultyEntry → FaultyEntry → Type 0
IsEntryBefore a b =
    (list_of_entry a < list_of_entry b)
    ⊎ ((list_of_entry a ≡ list_of_entry b) × (number_of_entry a < number_of_entry b))

-- the first faulty entry, with its first reason
pub record IsFirstFaultyEntry (all : Members) (at : FaultyEntry) (reason : ScenarioReason) : Type 0 where
  pub stands : IsFaultOfEntry all at reason
  pub first_entry : (other : FaultyEntry) (q : ScenarioReason) → IsEntryBefore other at → IsFaultOfEntry all other q → ⊥
  pub first_reason : (q : ScenarioReason) → scenario_reason_rank q < scenario_reason_rank reason → IsFaultOfEntry all at q → ⊥

-- ---- its meaning

-- the index of the policy with a name
abbrev pub policy_entry_index : Members → List ℕ → Option ℕ
policy_entry_index all name = position (λ ms. bytes_eq (entry_name ms) name) (policy_tables all)

abbrev pub IsRoleMeaning : Members → Role → Type 0
IsRoleMeaning ms (plan_role.Client program) =
    (entry_role ms ≡ Some role.Client) × Each (IsProgramLineMeaning program_of_role.Client (number_or_default heap ms)) (program_lines_of ms) program
IsRoleMeaning ms (plan_role.Server program) =
    (entry_role ms ≡ Some role.Server) × Each (IsProgramLineMeaning program_of_role.Server (number_or_default heap ms)) (program_lines_of ms) program
IsRoleMeaning ms plan_role.Echo = entry_role ms ≡ Some role.Echo

-- a policy that an application or an operator of its connection names, by its index
pub data IsUsed (all ms : Members) (place : ℕ) : Type 0 where
  by_app : (name : List ℕ) → Contains (policies_named_in ms) name → policy_entry_index all name ≡ Some place → IsUsed all ms place
  by_step : (name : List ℕ) (operator : Members) → Contains (operator_tables all) operator → entry_conn operator ≡ entry_conn ms
      → HasPolicyName (step_lines_of operator) name → policy_entry_index all name ≡ Some place → IsUsed all ms place

-- a policy that is used is read again under an application's own table
pub record IsOwnPolicyMeaning (all : Members) (own : Table) (p : OwnPolicy) : Type 0 where
  pub entry : Members
  pub there : slice_get (policy_tables all) p.place ≡ Some entry
  pub policy : IsPolicyOfKind own (tenant_tables all) entry p.policy

pub record IsOwnSchemaMeaning (all ms : Members) (text : List ℕ) (own : OwnSchema) : Type 0 where
  pub table : HasTable text own.table
  pub used : (place : ℕ) → Contains (map (λ p. p.place) own.policies) place ↔ IsUsed all ms place
  pub ascend : IsAscendingBy (λ p q. p.place < q.place) own.policies
  pub policies : All (IsOwnPolicyMeaning all own.table) own.policies

abbrev pub IsOwnMeaning : Members → Members → Option (List ℕ) → Option OwnSchema → Type 0
IsOwnMeaning all ms None None = Unit {0}
IsOwnMeaning all ms (Some text) (Some own) = IsOwnSchemaMeaning all ms text own
IsOwnMeaning all ms _ _ = ⊥

pub record IsAppMeaning (all ms : Members) (app : Application) : Type 0 where
  pub conn : app.conn ≡ entry_conn ms
  pub role : IsRoleMeaning ms app.role
  pub heap : app.heap ≡ number_or_default heap ms
  pub receive : app.receive ≡ number_or_default receive ms
  pub ring : app.ring ≡ number_or_default ring ms
  pub weight : app.weight ≡ number_or_default weight ms
  pub chain : map Some app.chain ≡ map (policy_entry_index all) (chain_names ms)
  pub inbound : map Some (option_to_list app.inbound)
      ≡ map (policy_entry_index all) (option_to_list (text_at (codes "inbound") ms))
  pub own : IsOwnMeaning all ms (text_at (codes "schema") ms) app.own

pub record IsLinkMeaning (ms : Members) (link : LinkPlan) : Type 0 where
  pub a : link.a ≡ number_or_default end_a ms
  pub b : link.b ≡ number_or_default end_b ms

-- what a step line means, with the index of its policy
abbrev pub IsStepLineMeaning : Members → StepText → StepLine → Type 0
IsStepLineMeaning all told (step.Attach at name place) =
    (policy : List ℕ) × IsAttach told at name policy × (policy_entry_index all policy ≡ Some place)
IsStepLineMeaning all told (step.Detach name) = IsDetach told name
IsStepLineMeaning all told (step.Upgrade name place) =
    (policy : List ℕ) × IsUpgrade told name policy × (policy_entry_index all policy ≡ Some place)

abbrev pub IsStepMeaning : Members → List ℕ → OperatorStep → Type 0
IsStepMeaning all line s = (told : StepText) × LineTells line told × (s.count ≡ count_in told) × IsStepLineMeaning all told s.line

pub record IsOperatorMeaning (all ms : Members) (operator : Operator) : Type 0 where
  pub conn : operator.conn ≡ entry_conn ms
  pub steps : Each (IsStepMeaning all) (step_lines_of ms) operator.steps

-- the scenario has no fault, and means this plan
pub record IsPlanOfScenario (all : Members) (plan : Plan) : Type 0 where
  pub free : (at : FaultyEntry) (reason : ScenarioReason) → IsFaultOfEntry all at reason → ⊥
  pub service : plan.service ≡ text_or_empty (codes "service") all
  pub loads : plan.loads ≡ number_or_default loads all
  pub workers : plan.workers ≡ number_or_default workers all
  pub weighted : plan.weighted ≡ flag_at (codes "weighted") all
  pub table : HasTable (schema_of all) plan.table
  pub tenants : Each IsTenantMeaning (tenant_tables all) plan.declared.tenants
  pub policies : Each (IsPolicyMeaning plan.table (tenant_tables all)) (policy_tables all) plan.declared.policies
  pub applications : Each (IsAppMeaning all) (app_tables all) plan.applications
  pub links : Each IsLinkMeaning (link_tables all) plan.links
  pub operators : Each (IsOperatorMeaning all) (operator_tables all) plan.operators

-- ---- texts

-- a text is a TOML document, and this is its table
abbrev pub IsTableText : List ℕ → Members → Type 0
IsTableText text all = IsUtf8 text × (parse_document text ≡ Some all)

-- a text means a plan
pub record IsTextOf (text : List ℕ) (plan : Plan) : Type 0 where
  pub all : Members
  pub parsed : IsTableText text all
  pub says : IsPlanOfScenario all plan

-- a text has this first fault
pub data HasFault (text : List ℕ) (at : FaultyEntry) (reason : ScenarioReason) : Type 0 where
  no_toml : ((all : Members) → IsTableText text all → ⊥) → at ≡ entry.Top → reason ≡ Toml → HasFault text at reason
  in_entry : (all : Members) → IsTableText text all → IsFirstFaultyEntry all at reason → HasFault text at reason

-- what a fault states of a text; running out of memory states nothing
abbrev pub IsFaultOf : List ℕ → ScenarioFault → Type 0
IsFaultOf text (fault.At at reason) = HasFault text at reason
IsFaultOf text fault.Memory = Unit {0}
