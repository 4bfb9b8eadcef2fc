-- The verdict of an access policy on a call (this project's own rule language).
use Rattle.std.specs.Prelude.{ℕ, ◌==◌, Bool, true, ◌&&◌, List, length, option_map, position, slice_get, unwrap_or, codes}
use Rattle.std.specs.Option.{option_map_or}
use Rattle.mrpc_table.specs.Calls.{is_of_call_kind}
use Rattle.policy_access.specs.Conditions.{meets}
use Rattle.mrpc_table.specs.declared.call.Call.{Call}
use Rattle.policy_access.specs.declared.verdict.Verdict.{Verdict}
use Rattle.policy_access.specs.declared.rule.Rule.{Rule}
use Rattle.policy_access.specs.declared.rule.CallSelector.{CallSelector}
use Rattle.policy_access.specs.declared.rule.CallSelector.TheVariants.{Every, Calls as OfCalls}
use Rattle.policy_access.specs.declared.rule.Calls.{Calls}

-- an access policy: its rules in order, and whether it allows a call that no rule matches
pub record AccessPolicy : Type 0 where
  pub rules : List Rule
  pub allow : Bool

-- the call has the method and the kind (request or reply), and its tree meets the test, if there is one
abbrev pub is_one_of : Calls → Call → Bool
is_one_of calls call =
    ((call.method == calls.method) && is_of_call_kind calls.sort call.number)
    && option_map_or (meets call.tree) calls.test true

-- the rule selects the call
abbrev pub selects : CallSelector → Call → Bool
selects Every call = true
selects (OfCalls calls) call = is_one_of calls call

abbrev pub matches : Rule → Call → Bool
matches rule call = selects rule.about call

-- the index of the first rule that matches; the number of rules if none does
abbrev pub deciding_rule : AccessPolicy → Call → ℕ
deciding_rule policy call = unwrap_or (position (λ rule. matches rule call) policy.rules) (length policy.rules)

-- the verdict of the first rule that matches, otherwise of the default
abbrev pub verdict : AccessPolicy → Call → Verdict
verdict policy call =
    let rule = deciding_rule policy call in
    record { allow = unwrap_or (option_map (λ r. r.allow) (slice_get policy.rules rule)) policy.allow; rule = rule }

-- the name of the rule at an index; after the last rule, that of the default
abbrev pub rule_name : AccessPolicy → ℕ → List ℕ
rule_name policy rule = unwrap_or (option_map (λ r. r.name) (slice_get policy.rules rule)) (codes "default")
