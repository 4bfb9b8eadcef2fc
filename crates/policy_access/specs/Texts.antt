-- Which lines are the text of an access policy (this project's own format).
use Rattle.std.specs.Prelude.{◌≡◌, ℕ, ◌≤◌, List, [], ◌∷◌, ◌++◌, length, map, All, IsTrue, Option, Some, None, option_map, option_and_then}
use Rattle.std.specs.Result.{result_ok}
use Rattle.mrpc_table.specs.PolicyLines.{AreParsed}
use Rattle.mrpc_table.specs.Valid.{AreDistinct}
use Rattle.mrpc_table.specs.declared.table.Table.{Table}
use Rattle.policy_access.specs.Faults.{is_rule_name}
use Rattle.policy_access.specs.Lines.{access_line_of}
use Rattle.policy_access.specs.Rules.{selector_in}
use Rattle.policy_access.specs.Verdict.{AccessPolicy}
use Rattle.policy_access.specs.declared.limits.TheConstants.{MAX_RULES}
use Rattle.policy_access.specs.declared.line.PolicyLine.{PolicyLine}
use Rattle.policy_access.specs.declared.line.PolicyLine.TheVariants.{Rule as RuleOf, Default}
use Rattle.policy_access.specs.declared.line.RuleLine.{RuleLine}
use Rattle.policy_access.specs.declared.rule.CallSelector.{CallSelector}
use Rattle.policy_access.specs.declared.rule.Rule.{Rule}

-- a rule with its name, whether it allows, and the calls that it selects in the table
abbrev pub with_selector : RuleLine → CallSelector → Rule
with_selector r about = record { name = r.name; allow = r.allow; about = about }

abbrev pub rule_in_table : Table → PolicyLine → Option Rule
rule_in_table T (RuleOf r) = option_map (with_selector r) (result_ok (selector_in T r.about))
rule_in_table T (Default allow) = None

-- the rule of a line
abbrev pub rule_of_line : Table → List ℕ → Option Rule
rule_of_line T line = option_and_then (rule_in_table T) (access_line_of line)

-- Lines are the text of a policy: one line for each rule, then the default's line. There are at most `MAX_RULES`
-- rules, with distinct names.
pub record IsTextOf (T : Table) (lines : List (List ℕ)) (policy : AccessPolicy) : Type 0 where
  pub rule_lines : List (List ℕ)
  pub default_line : List ℕ
  pub whole : lines ≡ rule_lines ++ default_line ∷ []
  pub rules : AreParsed (rule_of_line T) rule_lines policy.rules
  pub default : access_line_of default_line ≡ Some (Default policy.allow)
  pub few : length policy.rules ≤ MAX_RULES
  pub named : All (λ r. IsTrue (is_rule_name r.name)) policy.rules
  pub distinct : AreDistinct (map (λ r. r.name) policy.rules)
