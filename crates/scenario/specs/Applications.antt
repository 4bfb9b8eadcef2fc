-- The faults of applications and links of a scenario (this project's own).
use Rattle.std.specs.Prelude.{◌≡◌, ℕ, ◌+◌, ◌*◌, ◌<◌, true, false, List, [], ◌∷◌, ◌++◌, map, flat_map, sum, codes, Contains, Option, Some, option_and_then, option_to_list, None}
use Rattle.mrpc_table.specs.Names.{IsName}
use Rattle.mrpc_table.specs.declared.policy_lines.RuleReason.{RuleReason}
use Rattle.mrpc_table.specs.declared.table.Table.{Table}
use Rattle.proto_ast.specs.declared.file.File.{File}
use Rattle.proto_schema.specs.Faults.{IsProtoTextOf}
use Rattle.schema_resolve.specs.Resolving.{Resolves}
use Rattle.engine_core.specs.Chains.{Chain, Refusal, IsRejection}
use Rattle.engine_core.specs.declared.op.Op.{Op}
use Rattle.engine_core.specs.declared.op.Op.TheVariants as op
use Rattle.policy_declarations.specs.declared.declaration.NamedPolicy.{NamedPolicy}
use Rattle.run_plan.specs.Chains.{IsChangedBy, empty_chain}
use Rattle.run_plan.specs.declared.limits.TheConstants.{MAX_WORK}
use Rattle.toml.specs.Data.{Members}
use Rattle.scenario.specs.Keys.{app_ranges, conn, end_a, end_b, has_app_keys, heap, entry_kind, link_keys, link_ranges, loads, entry_role}
use Rattle.scenario.specs.Lines.{program_role, submit_line_count}
use Rattle.scenario_lines.specs.Programs.{IsProgramFault}
use Rattle.scenario_lines.specs.declared.form.ProgramRole.{ProgramRole}
use Rattle.scenario_lines.specs.declared.reason.LineReason.{LineReason}
use Rattle.scenario.specs.Policies.{HasFaultyLine, entry_name, entry_names}
use Rattle.scenario.specs.Reasons.{reason_of_line, scenario_reason_of_refusal, reason_of_policy_line}
use Rattle.scenario_toml.specs.Values.{TheIntegerRange, has_keys, is_out, number_or_default, tables_at, text_at, texts_at}
use Rattle.scenario.specs.declared.fault.ScenarioReason.{ScenarioReason}
use Rattle.scenario.specs.declared.fault.ScenarioReason.TheVariants.{Key, Number, Name, Known, Unknown, Schema, OtherKind, Pair, Work}
use Rattle.scenario.specs.declared.entry_words.PolicyKind.TheVariants as kind
use Rattle.scenario.specs.declared.entry_words.RoleWord.{RoleWord}
use Rattle.scenario.specs.declared.entry_words.RoleWord.TheVariants as role

-- the schema is a proto text without a fault, and this is its table
pub record HasTable (text : List ℕ) (T : Table) : Type 0 where
  pub file : File
  pub reads : IsProtoTextOf text file
  pub resolves : Resolves file T

-- the table that a text defines; none if it defines none
abbrev pub IsTableIn : List ℕ → Option Table → Type 0
IsTableIn text (Some T) = HasTable text T
IsTableIn text None = (T : Table) → HasTable text T → ⊥

-- ---- the lists of a scenario

abbrev pub tenant_tables : Members → List Members
tenant_tables all = tables_at (codes "tenant") all

abbrev pub policy_tables : Members → List Members
policy_tables all = tables_at (codes "policy") all

abbrev pub app_tables : Members → List Members
app_tables all = tables_at (codes "app") all

abbrev pub link_tables : Members → List Members
link_tables all = tables_at (codes "link") all

abbrev pub operator_tables : Members → List Members
operator_tables all = tables_at (codes "operator") all

-- ---- what applications use

abbrev pub entry_conn : Members → ℕ
entry_conn ms = number_or_default conn ms

abbrev pub entry_conns : List Members → List ℕ
entry_conns entries = map entry_conn entries

abbrev pub chain_names : Members → List (List ℕ)
chain_names ms = texts_at (codes "chain") ms

abbrev pub program_lines_of : Members → List (List ℕ)
program_lines_of ms = texts_at (codes "program") ms

-- the policies that an application names
abbrev pub policies_named_in : Members → List (List ℕ)
policies_named_in ms = chain_names ms ++ option_to_list (text_at (codes "inbound") ms)

abbrev pub entry_ends : Members → List ℕ
entry_ends link = number_or_default end_a link ∷ number_or_default end_b link ∷ []

abbrev pub all_entry_ends : List Members → List ℕ
all_entry_ends entries = flat_map entry_ends entries

-- ---- chains

-- attachments from a position on, each of a declared policy under its own name
abbrev pub AreAttached : List NamedPolicy → ℕ → List (List ℕ) → List Op → Type 0
AreAttached declared at [] [] = Unit {0}
AreAttached declared at (name ∷ names) (o ∷ ops) =
    ((p : NamedPolicy) × Contains declared p × (p.name ≡ name) × (o ≡ op.Attach at name name p.policy))
    × AreAttached declared (at + 1) names ops
AreAttached declared at _ _ = ⊥

-- the chain refuses one of the operations, and none before it
pub record IsFirstRefusedOp (start : Chain) (ops : List Op) (refusal : Refusal) : Type 0 where
  pub front : List Op
  pub step : Op
  pub back : List Op
  pub whole : ops ≡ front ++ step ∷ back
  pub before : Chain
  pub change : IsChangedBy start front before
  pub refuses : IsRejection before step refusal

-- ---- work

abbrev pub role_submits : Option RoleWord → List (List ℕ) → ℕ
role_submits (Some role.Client) lines = submit_line_count lines
role_submits _ lines = 0

abbrev pub entry_submissions : Members → ℕ
entry_submissions ms = role_submits (entry_role ms) (program_lines_of ms)

-- the loads of all calls: each call of a client counts twice, for its reply, with the maximum loads of one call
abbrev pub work_of_entries : Members → List Members → ℕ
work_of_entries all entries = 2 * sum (map entry_submissions entries) * number_or_default loads all

-- ---- applications

-- the lines of a named policy fail under an application's own schema, for this reason
pub record HasFaultUnderOwn (all app : Members) (IsNamed : List ℕ → Type 0) (why : RuleReason) : Type 0 where
  pub text : List ℕ
  pub own : text_at (codes "schema") app ≡ Some text
  pub table : Table
  pub of_text : HasTable text table
  pub policy : Members
  pub there : Contains (policy_tables all) policy
  pub named : IsNamed (entry_name policy)
  pub fails : HasFaultyLine (entry_kind policy) table policy why

-- an application that follows these has a fault with this reason; the declared policies are the scenario's, read
-- under its table
pub data IsAppFault (all : Members) (declared : List NamedPolicy) (before : List Members) (ms : Members)
    (reason : ScenarioReason) : Type 0 where
  wrong_keys : has_app_keys (entry_role ms) ms ≡ false → reason ≡ Key → IsAppFault all declared before ms reason
  out_of_range : (r : TheIntegerRange) → Contains app_ranges r → is_out ms r ≡ true → reason ≡ Number
      → IsAppFault all declared before ms reason
  in_program : (r : ProgramRole) (why : LineReason) → option_and_then program_role (entry_role ms) ≡ Some r
      → IsProgramFault r (number_or_default heap ms) (program_lines_of ms) why → reason ≡ reason_of_line why → IsAppFault all declared before ms reason
  no_name : (name : List ℕ) → Contains (policies_named_in ms) name → (IsName name → ⊥) → reason ≡ Name
      → IsAppFault all declared before ms reason
  is_known : Contains (entry_conns before) (entry_conn ms) → reason ≡ Known → IsAppFault all declared before ms reason
  no_policy : (name : List ℕ) → Contains (policies_named_in ms) name → (Contains (entry_names (policy_tables all)) name → ⊥)
      → reason ≡ Unknown → IsAppFault all declared before ms reason
  no_table : (text : List ℕ) → text_at (codes "schema") ms ≡ Some text → ((T : Table) → HasTable text T → ⊥)
      → reason ≡ Schema → IsAppFault all declared before ms reason
  in_policy : (why : RuleReason) → HasFaultUnderOwn all ms (Contains (policies_named_in ms)) why → reason ≡ reason_of_policy_line why
      → IsAppFault all declared before ms reason
  is_refused : (ops : List Op) (refusal : Refusal) → AreAttached declared 0 (chain_names ms) ops
      → IsFirstRefusedOp empty_chain ops refusal → reason ≡ scenario_reason_of_refusal refusal → IsAppFault all declared before ms reason
  -- only access policies judge deliveries
  is_other : (policy : Members) → Contains (policy_tables all) policy → text_at (codes "inbound") ms ≡ Some (entry_name policy)
      → (entry_kind policy ≡ Some kind.Access → ⊥) → reason ≡ OtherKind → IsAppFault all declared before ms reason
  -- the connection is in no link
  is_alone : (Contains (all_entry_ends (link_tables all)) (entry_conn ms) → ⊥) → reason ≡ Pair → IsAppFault all declared before ms reason
  too_much : MAX_WORK < work_of_entries all (before ++ ms ∷ []) → reason ≡ Work → IsAppFault all declared before ms reason

-- ---- links

-- the application on the connection is a client
pub record IsClientOn (entries : List Members) (number : ℕ) : Type 0 where
  pub app : Members
  pub there : Contains entries app
  pub on : entry_conn app ≡ number
  pub client : entry_role app ≡ Some role.Client

-- a link that follows these has a fault with this reason
pub data IsLinkFault (all : Members) (before : List Members) (ms : Members) (reason : ScenarioReason) : Type 0 where
  wrong_keys : has_keys link_keys ms ≡ false → reason ≡ Key → IsLinkFault all before ms reason
  out_of_range : (r : TheIntegerRange) → Contains link_ranges r → is_out ms r ≡ true → reason ≡ Number
      → IsLinkFault all before ms reason
  no_app : (number : ℕ) → Contains (entry_ends ms) number → (Contains (entry_conns (app_tables all)) number → ⊥) → reason ≡ Unknown
      → IsLinkFault all before ms reason
  to_itself : number_or_default end_a ms ≡ number_or_default end_b ms → reason ≡ Pair → IsLinkFault all before ms reason
  -- an end is in an earlier link
  is_linked : (number : ℕ) → Contains (entry_ends ms) number → Contains (all_entry_ends before) number → reason ≡ Pair
      → IsLinkFault all before ms reason
  no_client : ((number : ℕ) → Contains (entry_ends ms) number → IsClientOn (app_tables all) number → ⊥) → reason ≡ Pair
      → IsLinkFault all before ms reason
