-- The code's own: the content of a line after rules with some names, or the first reason against it.
use Rattle.std.specs.Prelude.{ℕ, nat_le, Bool, true, false, List, length, Option, Some, None, Result, Ok, Err}
use Rattle.std.specs.Result.{result_map_both}
use Rattle.mrpc_table.specs.declared.table.Table.{Table}
use Rattle.policy_access.specs.Faults.{is_rule_name, is_among}
use Rattle.policy_access.specs.Rules.{selector_in}
use Rattle.policy_access.specs.Texts.{with_selector}
use Rattle.policy_access.specs.declared.limits.TheConstants.{MAX_RULES}
use Rattle.policy_access.specs.declared.line.PolicyLine.{PolicyLine}
use Rattle.policy_access.specs.declared.line.PolicyLine.TheVariants as lines
use Rattle.policy_access.specs.declared.line.RuleLine.{RuleLine}
use Rattle.policy_access.specs.declared.rule.CallSelector.{CallSelector}
use Rattle.policy_access.specs.declared.rule.Rule.{Rule as TheRule}
use Rattle.policy_access.specs.declared.fault.SelectorReason.{SelectorReason}
use Rattle.policy_access.specs.declared.fault.SelectorReason.TheVariants as part
use Rattle.mrpc_table.specs.declared.policy_lines.RuleReason.{RuleReason}
use Rattle.mrpc_table.specs.declared.policy_lines.RuleReason.TheVariants as reason
use Rattle.policy_access.specs.declared.read.LineContent.{LineContent}
use Rattle.policy_access.specs.declared.read.LineContent.TheVariants.{Rule, Default}

-- by whether the maximum number of rules is reached, by the call selector, by whether the name is valid, and by
-- whether an earlier rule has it
abbrev pub judged_rule : Bool → Result CallSelector SelectorReason → Bool → Bool → RuleLine → Result TheRule RuleReason
judged_rule true about named known r = Err reason.Word
judged_rule false (Err part.Word) named known r = Err reason.Word
judged_rule false (Err part.Number) named known r = Err reason.Number
judged_rule false (Err part.Path) false known r = Err reason.Name
judged_rule false (Err part.Path) true true r = Err reason.Known
judged_rule false (Err part.Path) true false r = Err reason.Path
judged_rule false (Ok about) false known r = Err reason.Name
judged_rule false (Ok about) true true r = Err reason.Known
judged_rule false (Ok about) true false r = Ok (with_selector r about)

abbrev pub judged_line : Table → List (List ℕ) → Option PolicyLine → Result LineContent RuleReason
judged_line T names None = Err reason.Word
judged_line T names (Some (lines.Default allow)) = Ok (Default allow)
judged_line T names (Some (lines.Rule r)) =
    result_map_both Rule (λ q. q)
    (judged_rule (nat_le MAX_RULES (length names)) (selector_in T r.about) (is_rule_name r.name) (is_among r.name names) r)

-- the reason against a line after the default
abbrev pub reason_after_default : Result LineContent RuleReason → RuleReason
reason_after_default (Err q) = q
reason_after_default (Ok s) = reason.Default
