-- The code's own: lines during reading.
use Rattle.std.specs.Prelude.{◌≡◌, ℕ, ◌<◌, ◌≤◌, Bool, List, length, map, take, All, IsTrue, Some, Ok, slice_get}
use Rattle.mrpc_table.specs.PolicyLines.{AreParsed}
use Rattle.mrpc_table.specs.Valid.{AreDistinct}
use Rattle.mrpc_table.specs.declared.table.Table.{Table}
use Rattle.policy_access.specs.Faults.{is_rule_name, IsAgainstAt}
use Rattle.policy_access.specs.Lines.{access_line_of}
use Rattle.policy_access.specs.LineContent.{judged_line}
use Rattle.policy_access.specs.Texts.{rule_of_line}
use Rattle.policy_access.specs.declared.limits.TheConstants.{MAX_RULES}
use Rattle.policy_access.specs.declared.read.LineContent.TheVariants.{Default}
use Rattle.policy_access.specs.declared.rule.Rule.{Rule}
use Rattle.mrpc_table.specs.declared.policy_lines.RuleReason.{RuleReason}

abbrev pub names_of_rules : List Rule → List (List ℕ)
names_of_rules rules = map (λ (r : Rule). r.name) rules

-- The lines before an index are these rules, and none is at fault. This is the invariant of reading an access policy.
pub record AreRead (T : Table) (lines : List (List ℕ)) (i : ℕ) (rules : List Rule) : Type 0 where
  pub within : i ≤ length lines
  pub count : length rules ≡ i
  pub few : i ≤ MAX_RULES
  pub said : AreParsed (rule_of_line T) (take i lines) rules
  pub named : All (λ r. IsTrue (is_rule_name r.name)) rules
  pub distinct : AreDistinct (names_of_rules rules)
  pub clean : (j : ℕ) (q : RuleReason) → j < i → IsAgainstAt T lines j q → ⊥

-- the line at an index, after these rules, is the default's
abbrev pub IsDefaultAt : Table → List (List ℕ) → ℕ → List Rule → Bool → Type 0
IsDefaultAt T lines i rules allow =
    (line : List ℕ) × (slice_get lines i ≡ Some line)
    × (judged_line T (names_of_rules rules) (access_line_of line) ≡ Ok (Default allow))
