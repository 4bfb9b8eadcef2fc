-- The code's own: the first reasons of faults in entries, by the tests of the code.
use Rattle.std.specs.Prelude.{◌≡◌, ℕ, nat_le, ◌&&◌, ◌||◌, not, Bool, List, codes, length, is_some, Option, Some, None, Result, Ok, Err}
use Rattle.std.specs.List.{list_all}
use Rattle.mrpc_table.specs.Names.{is_name_form, is_short}
use Rattle.mrpc_table.specs.declared.policy_lines.RuleReason.{RuleReason}
use Rattle.mrpc_table.specs.declared.table.Table.{Table}
use Rattle.policy_access.specs.Texts as access_texts
use Rattle.policy_redact.specs.Texts as redact_texts
use Rattle.engine_core.specs.declared.policy.Policy.{Policy}
use Rattle.engine_core.specs.declared.policy.Policy.TheVariants as policy
use Rattle.policy_declarations.specs.Declarations.{Declared, policy_index, tenant_index}
use Rattle.policy_declarations.specs.declared.limits.TheConstants.{MAX_TENANTS}
use Rattle.toml.specs.Data.{Members}
use Rattle.scenario_toml.specs.Values.{has_keys, is_out, is_within_at, texts_at, text_or_empty}
use Rattle.scenario.specs.Keys.{per, policy_ranges, tenant_keys}
use Rattle.scenario.specs.Policies.{HasFaultyLine, entry_name}
use Rattle.scenario.specs.Reasons.{lower_ranked, reason_if}
use Rattle.scenario.specs.declared.fault.ScenarioReason.{ScenarioReason}
use Rattle.scenario.specs.declared.fault.ScenarioReason.TheVariants.{Key, Number, Name, Known, Unknown}
use Rattle.scenario.specs.declared.entry_words.PolicyKind.{PolicyKind}
use Rattle.scenario.specs.declared.entry_words.PolicyKind.TheVariants as kind

abbrev pub is_not_name : List ℕ → Bool
is_not_name word = not (is_name_form word && is_short word)

-- ---- tenants

abbrev pub first_tenant_reason : Declared → Members → Option ScenarioReason
first_tenant_reason d ms =
    lower_ranked
    (lower_ranked
    (lower_ranked (reason_if (not (has_keys tenant_keys ms)) Key) (reason_if (is_out ms per || nat_le MAX_TENANTS (length d.tenants)) Number))
    (reason_if (is_not_name (entry_name ms)) Name))
    (reason_if (is_some (tenant_index d (entry_name ms))) Known)

-- ---- policies

-- the tenant of a quota
abbrev pub quota_tenant : Members → List ℕ
quota_tenant ms = text_or_empty (codes "tenant") ms

abbrev pub first_quota_reason : PolicyKind → Declared → Members → Option ScenarioReason
first_quota_reason kind.Quota d ms =
    lower_ranked (reason_if (is_not_name (quota_tenant ms)) Name) (reason_if (not (is_some (tenant_index d (quota_tenant ms)))) Unknown)
first_quota_reason _ d ms = None

-- the first reason, apart from its keys and its lines
abbrev pub first_head_reason : Declared → PolicyKind → Members → Option ScenarioReason
first_head_reason d k ms =
    lower_ranked
    (lower_ranked
    (lower_ranked (reason_if (not (list_all (is_within_at ms) (policy_ranges (Some k)))) Number) (reason_if (is_not_name (entry_name ms)) Name))
    (reason_if (is_some (policy_index d (entry_name ms))) Known))
    (first_quota_reason k d ms)

-- what the lines of a policy mean under a table; policies of other kinds have none
abbrev pub IsLinesMeaning : PolicyKind → Table → Members → Option Policy → Type 0
IsLinesMeaning kind.Access T ms (Some (policy.Access p)) = access_texts.IsTextOf T (texts_at (codes "rules") ms) p
IsLinesMeaning kind.Redact T ms (Some (policy.Redact p)) = redact_texts.IsTextOf T (texts_at (codes "clears") ms) p
IsLinesMeaning kind.Rate T ms None = Unit {0}
IsLinesMeaning kind.Quota T ms None = Unit {0}
IsLinesMeaning kind.Count T ms None = Unit {0}
IsLinesMeaning _ T ms _ = ⊥

-- the result of reading the lines of a policy whose kind has lines
abbrev pub IsRuledResult : PolicyKind → Table → Members → Result Policy RuleReason → Type 0
IsRuledResult k T ms (Ok p) = IsLinesMeaning k T ms (Some p) × ((why : RuleReason) → HasFaultyLine (Some k) T ms why → ⊥)
IsRuledResult k T ms (Err why) =
    HasFaultyLine (Some k) T ms why × ((other : RuleReason) → HasFaultyLine (Some k) T ms other → other ≡ why)

-- the result of reading a policy's lines, or the reason of the first faulty one
abbrev pub IsLinesRead : PolicyKind → Table → Members → Result (Option Policy) RuleReason → Type 0
IsLinesRead k T ms (Ok lined) = IsLinesMeaning k T ms lined × ((why : RuleReason) → HasFaultyLine (Some k) T ms why → ⊥)
IsLinesRead k T ms (Err why) =
    HasFaultyLine (Some k) T ms why × ((other : RuleReason) → HasFaultyLine (Some k) T ms other → other ≡ why)
