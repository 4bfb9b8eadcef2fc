-- The code's own: the results of reading an application, part by part.
use Rattle.std.specs.Prelude.{◌≡◌, ◌⊎◌, ℕ, ◌<◌, ◌==◌, Bool, true, false, not, List, [], ◌∷◌, ◌++◌, map, sum, filter_map, codes, Contains, Option, Some, None, option_and_then, slice_get, Result, Ok, Err}
use Rattle.std.specs.List.{list_any}
use Rattle.engine_core.specs.Chains.{Refusal}
use Rattle.engine_core.specs.declared.op.Op.{Op}
use Rattle.engine_core.specs.declared.policy.Policy.{Policy}
use Rattle.engine_core.specs.declared.policy.Policy.TheVariants as policy
use Rattle.policy_declarations.specs.Declarations.{Declared, policy_index}
use Rattle.policy_declarations.specs.declared.declaration.NamedPolicy.{NamedPolicy}
use Rattle.run_plan.specs.Chains.{empty_chain}
use Rattle.run_plan.specs.declared.application.Application.{Application}
use Rattle.run_plan.specs.declared.application.OwnSchema.{OwnSchema}
use Rattle.run_plan.specs.declared.application.Role.{Role}
use Rattle.run_plan.specs.declared.application.Role.TheVariants as plan_role
use Rattle.run_plan.specs.declared.limits.TheConstants.{MAX_WORK}
use Rattle.toml.specs.Data.{Members}
use Rattle.scenario.specs.Applications.{AreAttached, IsFirstRefusedOp, all_entry_ends, chain_names, entry_conn, entry_conns, link_tables, policies_named_in, policy_tables, program_lines_of, entry_submissions, work_of_entries}
use Rattle.scenario.specs.Keys.{heap, entry_kind, receive, ring, entry_role, weight}
use Rattle.scenario.specs.Lines.{program_role}
use Rattle.scenario.specs.Policies.{entry_name}
use Rattle.scenario.specs.Reasons.{reason_of_line, scenario_reason_of_refusal}
use Rattle.scenario.specs.declared.fault.ScenarioReason.{ScenarioReason}
use Rattle.scenario.specs.declared.fault.ScenarioReason.TheVariants.{Known, OtherKind, Pair, Work}
use Rattle.scenario.specs.declared.entry_words.PolicyKind.TheVariants as kind
use Rattle.scenario.specs.declared.entry_words.RoleWord.{RoleWord}
use Rattle.scenario.specs.declared.entry_words.RoleWord.TheVariants as role
use Rattle.scenario_lines.specs.Lines.{IsProgramLineMeaning}
use Rattle.scenario_lines.specs.Programs.{Each, IsProgramFault}
use Rattle.scenario_lines.specs.declared.form.ProgramRole.{ProgramRole}
use Rattle.scenario_lines.specs.declared.form.ProgramRole.TheVariants as program_of_role
use Rattle.scenario_lines.specs.declared.reason.LineReason.{LineReason}
use Rattle.scenario_toml.specs.Values.{number_or_default, text_at}
use Rattle.scenario_entries.specs.AppConnections.{IsAppConnectionOf}
use Rattle.scenario_entries.specs.declared.chain.ChainEntry.{ChainEntry}
use Rattle.scenario_entries.specs.Owning.{IsNamesFault}
use Rattle.scenario_reader.specs.AppContext.{IsPart}
use Rattle.scenario_reader.specs.Owning.{IsOwnOf, HasAppOwnFault}
use Rattle.scenario_reader.specs.Walking.{IsWalkedTo}
use Rattle.scenario_reader.specs.declared.app_context.Apps.{Apps}
use Rattle.scenario_reader.specs.declared.app_context.JoinedApplication.{JoinedApplication}
use Rattle.scenario_reader.specs.declared.application.EarlyPart.{EarlyPart}
use Rattle.scenario_reader.specs.declared.application.LatePart.{LatePart}

-- the reason of a part with a fault
abbrev pub reason_in : {X : Type 0} → Result X ScenarioReason → Option ScenarioReason
reason_in (Ok x) = None
reason_in (Err q) = Some q

-- ---- programs

-- the program of a role has a fault with this reason
pub record HasProgramFault (r : RoleWord) (heap : ℕ) (texts : List (List ℕ)) (q : ScenarioReason) : Type 0 where
  pub of : ProgramRole
  pub is_of : program_role r ≡ Some of
  pub why : LineReason
  pub against : IsProgramFault of heap texts why
  pub is : q ≡ reason_of_line why

abbrev pub IsMeaningOfRole : RoleWord → ℕ → List (List ℕ) → Role → Type 0
IsMeaningOfRole r words texts (plan_role.Client program) = (r ≡ role.Client)
    × Each (IsProgramLineMeaning program_of_role.Client words) texts program
IsMeaningOfRole r words texts (plan_role.Server program) = (r ≡ role.Server)
    × Each (IsProgramLineMeaning program_of_role.Server words) texts program
IsMeaningOfRole r words texts plan_role.Echo = r ≡ role.Echo

abbrev pub IsRoleRead : RoleWord → ℕ → List (List ℕ) → Result Role ScenarioReason → Type 0
IsRoleRead r words texts = IsPart (HasProgramFault r words texts) (IsMeaningOfRole r words texts)

-- ---- names and the connection

-- the names of an application, or its connection, have a fault with this reason
abbrev pub HasAppHeadFault : List Members → List Members → ℕ → List (List ℕ) → ScenarioReason → Type 0
HasAppHeadFault policies before conn names q =
    IsNamesFault policies names q ⊎ (Contains (entry_conns before) conn × (q ≡ Known))

abbrev pub HasRoleFault : Members → ScenarioReason → Type 0
HasRoleFault ms q = (r : RoleWord) × (entry_role ms ≡ Some r)
    × HasProgramFault r (number_or_default heap ms) (program_lines_of ms) q

abbrev pub HasEarlyFault : Members → List Members → Members → ScenarioReason → Type 0
HasEarlyFault all before ms q =
    (HasAppHeadFault (policy_tables all) before (entry_conn ms) (policies_named_in ms) q ⊎ HasRoleFault ms q)
    ⊎ HasAppOwnFault all ms q

-- none of these faults is there
abbrev pub HasNoEarlyFault : Members → List Members → Members → Type 0
HasNoEarlyFault all before ms = (q : ScenarioReason) → HasEarlyFault all before ms q → ⊥

pub record IsEarlyMeaning (all ms : Members) (e : EarlyPart) : Type 0 where
  pub role : (r : RoleWord) → entry_role ms ≡ Some r
      → IsMeaningOfRole r (number_or_default heap ms) (program_lines_of ms) e.role
  pub own : IsOwnOf all ms e.own

abbrev pub IsEarlyRead : Members → List Members → Members → Result EarlyPart ScenarioReason → Type 0
IsEarlyRead all before ms = IsPart (HasEarlyFault all before ms) (IsEarlyMeaning all ms)

-- ---- the chain, the policy that judges deliveries, links and work

abbrev pub is_access : Policy → Bool
is_access (policy.Access p) = true
is_access _ = false

abbrev pub judges_no_access : Option NamedPolicy → Bool
judges_no_access None = false
judges_no_access (Some p) = not (is_access p.policy)

abbrev pub is_not_inbound_policy : Declared → Option ℕ → Bool
is_not_inbound_policy d inbound = judges_no_access (option_and_then (slice_get d.policies) inbound)

abbrev pub is_on_end : List ℕ → ℕ → Bool
is_on_end ends conn = list_any (λ end. end == conn) ends

pub data HasLateFault (all : Members) (declared : List NamedPolicy) (before : List Members) (ms : Members)
    (q : ScenarioReason) : Type 0 where
  refused : (ops : List Op) (refusal : Refusal) → AreAttached declared 0 (chain_names ms) ops
      → IsFirstRefusedOp empty_chain ops refusal
      → q ≡ scenario_reason_of_refusal refusal → HasLateFault all declared before ms q
  other : (p : Members) → Contains (policy_tables all) p → text_at (codes "inbound") ms ≡ Some (entry_name p)
      → (entry_kind p ≡ Some kind.Access → ⊥) → q ≡ OtherKind → HasLateFault all declared before ms q
  alone : (Contains (all_entry_ends (link_tables all)) (entry_conn ms) → ⊥) → q ≡ Pair
      → HasLateFault all declared before ms q
  too_much : MAX_WORK < work_of_entries all (before ++ ms ∷ []) → q ≡ Work → HasLateFault all declared before ms q

-- the chain after the attachments of an application has these entries
pub record IsInitialChain (declared : List NamedPolicy) (ms : Members) (entries : List ChainEntry) : Type 0 where
  pub attached : List Op
  pub are : AreAttached declared 0 (chain_names ms) attached
  pub walked : (ops : List Op) → AreAttached declared 0 (chain_names ms) ops → IsWalkedTo empty_chain ops entries

pub record IsLateMeaning (declared : List NamedPolicy) (before : List Members) (ms : Members) (late : LatePart)
    : Type 0 where
  pub begun : IsInitialChain declared ms late.chain.entries.items
  pub submitted : late.submitted ≡ sum (map entry_submissions (before ++ ms ∷ []))

abbrev pub IsLateRead : Members → List NamedPolicy → List Members → Members → Result LatePart ScenarioReason → Type 0
IsLateRead all declared before ms = IsPart (HasLateFault all declared before ms) (IsLateMeaning declared before ms)

-- ---- applications

pub record IsDraft (d : Declared) (ms : Members) (said : Role) (schema : Option OwnSchema) (app : Application)
    : Type 0 where
  pub conn : app.conn ≡ entry_conn ms
  pub role : app.role ≡ said
  pub heap : app.heap ≡ number_or_default heap ms
  pub receive : app.receive ≡ number_or_default receive ms
  pub ring : app.ring ≡ number_or_default ring ms
  pub weight : app.weight ≡ number_or_default weight ms
  pub chain : app.chain ≡ filter_map (policy_index d) (chain_names ms)
  pub inbound : app.inbound ≡ option_and_then (policy_index d) (text_at (codes "inbound") ms)
  pub own : app.own ≡ schema

-- an application was read; its own policies are those in use, if none of them fails
pub record IsApp (all : Members) (d : Declared) (ms : Members) (app : Application) : Type 0 where
  pub said : Role
  pub own : Option OwnSchema
  pub draft : IsDraft d ms said own app
  pub role : (r : RoleWord) → entry_role ms ≡ Some r
      → IsMeaningOfRole r (number_or_default heap ms) (program_lines_of ms) said
  pub is_own : IsOwnOf all ms own

pub record IsJoined (all : Members) (d : Declared) (before : List Members) (ms : Members) (j : JoinedApplication)
    : Type 0 where
  pub port : IsAppConnectionOf ms j.port
  pub app : IsApp all d ms j.app
  pub chain : IsInitialChain d.policies ms j.chain.entries.items
  pub submitted : j.submitted ≡ sum (map entry_submissions (before ++ ms ∷ []))

pub record AreJoined (all : Members) (d : Declared) (entries : List Members) (apps : Apps) : Type 0 where
  pub ports : Each IsAppConnectionOf entries apps.ports.items
  pub applications : Each (IsApp all d) entries apps.applications
  pub chains : Each (λ ms chain. IsInitialChain d.policies ms chain.entries.items) entries apps.chains.items
