-- The faults of the lines of a redacting policy: which line is the first at fault, and the reason (this project's own
-- format).
use Rattle.std.specs.Prelude.{◌≡◌, ℕ, ◌<◌, ◌≤◌, List, [], length, Some, None, slice_get}
use Rattle.mrpc_table.specs.declared.table.Table.{Table}
use Rattle.mrpc_table.specs.PathFields.{path_in}
use Rattle.mrpc_table.specs.Calls.{message_of}
use Rattle.mrpc_table.specs.FirstFault as first
use Rattle.mrpc_table.specs.PolicyLines as policy
use Rattle.mrpc_table.specs.PolicyLines.{index_of, rule_reason_rank}
use Rattle.mrpc_table.specs.declared.policy_lines.RuleReason.{RuleReason}
use Rattle.mrpc_table.specs.declared.policy_lines.RuleReason.TheVariants as reason
use Rattle.mrpc_table.specs.declared.policy_lines.RuleFault.{RuleFault}
use Rattle.policy_redact.specs.Lines.{clear_line_of}
use Rattle.policy_redact.specs.declared.limits.TheConstants.{MAX_CLEARS}
use Rattle.policy_redact.specs.declared.line.ClearLine.{ClearLine}

-- a reason against a line
pub data IsAgainst (T : Table) (line : List ℕ) (q : RuleReason) : Type 0 where
  -- the line is malformed
  out_of_form : clear_line_of line ≡ None → q ≡ reason.Word → IsAgainst T line q
  -- its index has more than 16 bits
  large_index : (l : ClearLine) → clear_line_of line ≡ Some l → index_of l.index ≡ None
      → q ≡ reason.Number → IsAgainst T line q
  -- the table doesn't have the method
  no_method : (l : ClearLine) (method : ℕ) → clear_line_of line ≡ Some l → index_of l.index ≡ Some method
      → length T.methods ≤ method → q ≡ reason.Path → IsAgainst T line q
  -- the path leads to no field of the method's message
  no_field : (l : ClearLine) (method : ℕ) → clear_line_of line ≡ Some l → index_of l.index ≡ Some method
      → path_in T (message_of T method l.sort) l.path ≡ None → q ≡ reason.Path → IsAgainst T line q

-- a reason against the line at an index, from 0
pub data IsAgainstAt (T : Table) (lines : List (List ℕ)) (i : ℕ) (q : RuleReason) : Type 0 where
  at_line : (line : List ℕ) → slice_get lines i ≡ Some line → IsAgainst T line q → IsAgainstAt T lines i q
  -- it comes after the maximum number of lines
  too_many : i < length lines → MAX_CLEARS ≤ i → q ≡ reason.Word → IsAgainstAt T lines i q
  -- there is no line
  no_line : lines ≡ [] → i ≡ 0 → q ≡ reason.Word → IsAgainstAt T lines i q

-- ---- first faults: those of mrpc_table, for the lines of a redacting policy

-- The line, counted from 1, is the first at fault, and this is its first reason.
abbrev pub IsFirstFault : Table → List (List ℕ) → ℕ → RuleReason → Type 0
IsFirstFault T lines line q = first.IsFirstFault (IsAgainstAt T lines) rule_reason_rank line q

-- A fault is that of the lines.
abbrev pub IsFaultOf : Table → List (List ℕ) → RuleFault → Type 0
IsFaultOf T lines fault = policy.IsFaultOf (IsAgainstAt T lines) fault
