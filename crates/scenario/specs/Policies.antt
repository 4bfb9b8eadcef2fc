-- What tenants and policies of a scenario mean, and their faults (this project's own).
use Rattle.std.specs.Prelude.{◌≡◌, ℕ, ◌≤◌, Bool, true, false, List, map, length, codes, Contains, Option, Some, position, slice_get}
use Rattle.std.specs.Str.{bytes_eq}
use Rattle.mrpc_table.specs.Names.{IsName}
use Rattle.mrpc_table.specs.declared.policy_lines.RuleReason.{RuleReason}
use Rattle.mrpc_table.specs.declared.table.Table.{Table}
use Rattle.policy_access.specs.Faults as access_faults
use Rattle.policy_access.specs.Texts as access_texts
use Rattle.policy_redact.specs.Faults as redact_faults
use Rattle.policy_redact.specs.Texts as redact_texts
use Rattle.engine_core.specs.declared.policy.Policy.{Policy}
use Rattle.engine_core.specs.declared.policy.Policy.TheVariants as policy
use Rattle.policy_declarations.specs.declared.declaration.NamedPolicy.{NamedPolicy}
use Rattle.policy_declarations.specs.declared.declaration.Tenant.{Tenant}
use Rattle.policy_declarations.specs.declared.limits.TheConstants.{MAX_TENANTS}
use Rattle.toml.specs.Data.{Members}
use Rattle.scenario.specs.Keys.{tenant_keys, per, entry_kind, has_policy_keys, policy_ranges, amount, burst, cap}
use Rattle.scenario.specs.Reasons.{reason_of_policy_line}
use Rattle.scenario_toml.specs.Values.{TheIntegerRange, has_keys, is_out, number_or_default, text_or_empty, texts_at}
use Rattle.scenario.specs.declared.fault.ScenarioReason.{ScenarioReason}
use Rattle.scenario.specs.declared.fault.ScenarioReason.TheVariants.{Key, Number, Name, Known, Unknown}
use Rattle.scenario.specs.declared.entry_words.PolicyKind.{PolicyKind}
use Rattle.scenario.specs.declared.entry_words.PolicyKind.TheVariants as kind

abbrev pub entry_name : Members → List ℕ
entry_name ms = text_or_empty (codes "name") ms

abbrev pub entry_names : List Members → List (List ℕ)
entry_names entries = map entry_name entries

-- ---- tenants

-- a tenant that follows these has a fault with this reason
pub data IsTenantFault (before : List Members) (ms : Members) (reason : ScenarioReason) : Type 0 where
  wrong_keys : has_keys tenant_keys ms ≡ false → reason ≡ Key → IsTenantFault before ms reason
  out_of_range : is_out ms per ≡ true → reason ≡ Number → IsTenantFault before ms reason
  too_many : MAX_TENANTS ≤ length before → reason ≡ Number → IsTenantFault before ms reason
  no_name : (IsName (entry_name ms) → ⊥) → reason ≡ Name → IsTenantFault before ms reason
  is_known : Contains (entry_names before) (entry_name ms) → reason ≡ Known → IsTenantFault before ms reason

pub record IsTenantMeaning (ms : Members) (t : Tenant) : Type 0 where
  pub name : t.name ≡ entry_name ms
  pub per : t.per ≡ number_or_default per ms

-- ---- policies

-- the first faulty line of a policy has this reason, under a table
abbrev pub HasFaultyLine : Option PolicyKind → Table → Members → RuleReason → Type 0
HasFaultyLine (Some kind.Access) T ms why = (line : ℕ) × access_faults.IsFirstFault T (texts_at (codes "rules") ms) line why
HasFaultyLine (Some kind.Redact) T ms why = (line : ℕ) × redact_faults.IsFirstFault T (texts_at (codes "clears") ms) line why
HasFaultyLine _ T ms why = ⊥

-- a policy that follows these has a fault with this reason, under the scenario's table
pub data IsPolicyFault (T : Table) (tenants before : List Members) (ms : Members)
    (reason : ScenarioReason) : Type 0 where
  wrong_keys : has_policy_keys (entry_kind ms) ms ≡ false → reason ≡ Key → IsPolicyFault T tenants before ms reason
  out_of_range : (r : TheIntegerRange) → Contains (policy_ranges (entry_kind ms)) r → is_out ms r ≡ true → reason ≡ Number
      → IsPolicyFault T tenants before ms reason
  no_name : (IsName (entry_name ms) → ⊥) → reason ≡ Name → IsPolicyFault T tenants before ms reason
  no_tenant_name : entry_kind ms ≡ Some kind.Quota → (IsName (text_or_empty (codes "tenant") ms) → ⊥) → reason ≡ Name
      → IsPolicyFault T tenants before ms reason
  is_known : Contains (entry_names before) (entry_name ms) → reason ≡ Known → IsPolicyFault T tenants before ms reason
  -- the tenant of a quota isn't declared
  no_tenant : entry_kind ms ≡ Some kind.Quota → (Contains (entry_names tenants) (text_or_empty (codes "tenant") ms) → ⊥)
      → reason ≡ Unknown → IsPolicyFault T tenants before ms reason
  in_lines : (why : RuleReason) → HasFaultyLine (entry_kind ms) T ms why → reason ≡ reason_of_policy_line why
      → IsPolicyFault T tenants before ms reason

abbrev pub holds : Members → Bool
holds ms = bytes_eq (text_or_empty (codes "mode") ms) (codes "hold")

-- the policy of an entry, read under a table
abbrev pub IsPolicyOfKind : Table → List Members → Members → Policy → Type 0
IsPolicyOfKind T tenants ms (policy.Access p) =
    (entry_kind ms ≡ Some kind.Access) × access_texts.IsTextOf T (texts_at (codes "rules") ms) p
IsPolicyOfKind T tenants ms (policy.Rate r) =
    (entry_kind ms ≡ Some kind.Rate) × (r ≡ record {
      amount = number_or_default amount ms;
      per = number_or_default per ms;
      burst = number_or_default burst ms;
      hold = holds ms;
    })
IsPolicyOfKind T tenants ms (policy.Quota tenant window most) =
    (entry_kind ms ≡ Some kind.Quota)
    × (position (λ t. bytes_eq (entry_name t) (text_or_empty (codes "tenant") ms)) tenants ≡ Some tenant)
    × ((t : Members) × (slice_get tenants tenant ≡ Some t) × (window ≡ number_or_default per t)) × (most ≡ number_or_default cap ms)
IsPolicyOfKind T tenants ms policy.Count = entry_kind ms ≡ Some kind.Count
IsPolicyOfKind T tenants ms (policy.Redact p) =
    (entry_kind ms ≡ Some kind.Redact) × redact_texts.IsTextOf T (texts_at (codes "clears") ms) p

pub record IsPolicyMeaning (T : Table) (tenants : List Members) (ms : Members) (p : NamedPolicy) : Type 0 where
  pub name : p.name ≡ entry_name ms
  pub policy : IsPolicyOfKind T tenants ms p.policy
