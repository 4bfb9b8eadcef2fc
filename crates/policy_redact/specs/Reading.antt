-- The code's own: lines during reading.
use Rattle.std.specs.Prelude.{ℕ, ◌<◌, ◌≤◌, List, length, take}
use Rattle.mrpc_table.specs.PolicyLines.{AreParsed}
use Rattle.mrpc_table.specs.declared.table.Table.{Table}
use Rattle.mrpc_table.specs.declared.policy_lines.RuleReason.{RuleReason}
use Rattle.policy_redact.specs.Faults.{IsAgainstAt}
use Rattle.policy_redact.specs.Texts.{clear_of_line}
use Rattle.policy_redact.specs.declared.limits.TheConstants.{MAX_CLEARS}
use Rattle.policy_redact.specs.declared.redact.Clear.{Clear}

-- The lines before an index are these clears, and none is at fault. This is the invariant of reading a redacting
-- policy.
pub record AreRead (T : Table) (lines : List (List ℕ)) (i : ℕ) (clears : List Clear) : Type 0 where
  pub some : 0 < length lines
  pub within : i ≤ length lines
  pub few : i ≤ MAX_CLEARS
  pub said : AreParsed (clear_of_line T) (take i lines) clears
  pub clean : (j : ℕ) (q : RuleReason) → j < i → IsAgainstAt T lines j q → ⊥
