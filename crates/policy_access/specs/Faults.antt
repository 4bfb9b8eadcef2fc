-- The faults of the lines of an access policy: which line is the first at fault, and the reason (this project's own
-- format).
use Rattle.std.specs.Prelude.{◌≡◌, ℕ, ◌≤◌, Bool, true, false, not, ◌&&◌, List, codes, length, take, Option, Some, None, option_and_then, Err, slice_get}
use Rattle.std.specs.List.{list_any, filter_map}
use Rattle.std.specs.Option.{option_map_or}
use Rattle.std.specs.Str.{bytes_eq}
use Rattle.mrpc_table.specs.FirstFault as first
use Rattle.mrpc_table.specs.Names.{is_name_form, is_short}
use Rattle.mrpc_table.specs.PolicyLines as policy
use Rattle.mrpc_table.specs.PolicyLines.{rule_reason_rank}
use Rattle.mrpc_table.specs.declared.table.Table.{Table}
use Rattle.policy_access.specs.Lines.{access_line_of}
use Rattle.policy_access.specs.Rules.{selector_in}
use Rattle.policy_access.specs.declared.limits.TheConstants.{MAX_RULES}
use Rattle.policy_access.specs.declared.line.PolicyLine.{PolicyLine}
use Rattle.policy_access.specs.declared.line.PolicyLine.TheVariants.{Rule, Default}
use Rattle.policy_access.specs.declared.line.RuleLine.{RuleLine}
use Rattle.policy_access.specs.declared.fault.SelectorReason.{SelectorReason}
use Rattle.policy_access.specs.declared.fault.SelectorReason.TheVariants as parts
use Rattle.mrpc_table.specs.declared.policy_lines.RuleReason.{RuleReason}
use Rattle.mrpc_table.specs.declared.policy_lines.RuleReason.TheVariants as reasons
use Rattle.mrpc_table.specs.declared.policy_lines.RuleFault.{RuleFault}

-- ---- names

-- A rule's name is a name of at most 64 bytes, other than `default`.
abbrev pub is_rule_name : List ℕ → Bool
is_rule_name name = (is_name_form name && is_short name) && not (bytes_eq name (codes "default"))

-- The name is one of these.
abbrev pub is_among : List ℕ → List (List ℕ) → Bool
is_among name names = list_any (λ other. bytes_eq name other) names

-- The rule's name in a parsed line. A default has none.
abbrev pub name_of_line : PolicyLine → Option (List ℕ)
name_of_line (Rule rule) = Some rule.name
name_of_line (Default allow) = None

-- Like `name_of_line`, for a line given by its bytes. A malformed line has none.
abbrev pub name_in_line : List ℕ → Option (List ℕ)
name_in_line line = option_and_then name_of_line (access_line_of line)

-- The names of the rules in some lines, in order.
abbrev pub names_of_lines : List (List ℕ) → List (List ℕ)
names_of_lines lines = filter_map name_in_line lines

-- ---- the default

-- A line is the default's.
abbrev pub is_default_line : PolicyLine → Bool
is_default_line (Rule rule) = false
is_default_line (Default allow) = true

-- Like `is_default_line`, for a line given by its bytes. A malformed line isn't.
abbrev pub is_default_text : List ℕ → Bool
is_default_text line = option_map_or is_default_line (access_line_of line) false

-- One of the lines is a default's.
abbrev pub has_default : List (List ℕ) → Bool
has_default lines = list_any is_default_text lines

-- ---- the faults of a rule, of a line and of an index

-- The reason against a rule's line, by the reason against a part of its call selector.
abbrev pub rule_reason_of : SelectorReason → RuleReason
rule_reason_of parts.Word = reasons.Word
rule_reason_of parts.Number = reasons.Number
rule_reason_of parts.Path = reasons.Path

-- A reason against a parsed line of a rule. The names are those of the earlier rules.
pub data IsAgainstRule (table : Table) (names : List (List ℕ)) (rule : RuleLine) (reason : RuleReason) : Type 0 where
  -- There are already as many rules as a policy may have.
  one_too_many : MAX_RULES ≤ length names → reason ≡ reasons.Word → IsAgainstRule table names rule reason
  -- A part of its call selector is at fault: the index, the method, the path, the operation or the value. (A value
  -- that has no form counts before an unknown method.)
  part_at_fault : (part : SelectorReason) → selector_in table rule.about ≡ Err part → reason ≡ rule_reason_of part
      → IsAgainstRule table names rule reason
  -- Its name is no valid rule name.
  no_rule_name : is_rule_name rule.name ≡ false → reason ≡ reasons.Name → IsAgainstRule table names rule reason
  -- An earlier rule has its name.
  known_name : is_among rule.name names ≡ true → reason ≡ reasons.Known → IsAgainstRule table names rule reason

-- A reason against a line. The names are those of the earlier rules; `ended` is true after a default.
pub data IsAgainst (table : Table) (names : List (List ℕ)) (ended : Bool) (line : List ℕ)
    (reason : RuleReason) : Type 0 where
  -- The line is malformed.
  out_of_form : access_line_of line ≡ None → reason ≡ reasons.Word → IsAgainst table names ended line reason
  -- The line is a rule, and the reason is against the rule.
  against_rule : (rule : RuleLine) → access_line_of line ≡ Some (Rule rule) → IsAgainstRule table names rule reason
      → IsAgainst table names ended line reason
  -- The line is a rule or a default, and comes after the default.
  after_default : (content : PolicyLine) → access_line_of line ≡ Some content → ended ≡ true → reason ≡ reasons.Default
      → IsAgainst table names ended line reason

-- A reason against an index of the lines, from 0: against the line at the index, or against the end.
pub data IsAgainstAt (table : Table) (lines : List (List ℕ)) (place : ℕ) (reason : RuleReason) : Type 0 where
  -- It is against the line at the index, after the lines before it.
  at_line : (line : List ℕ) → slice_get lines place ≡ Some line
      → IsAgainst table (names_of_lines (take place lines)) (has_default (take place lines)) line reason
      → IsAgainstAt table lines place reason
  -- The lines end there, and none is a default.
  no_default : place ≡ length lines → has_default lines ≡ false → reason ≡ reasons.Default
      → IsAgainstAt table lines place reason

-- ---- first faults: those of mrpc_table, for the lines of an access policy

-- The line, counted from 1, is the first at fault, and this is its first reason.
abbrev pub IsFirstFault : Table → List (List ℕ) → ℕ → RuleReason → Type 0
IsFirstFault table lines line reason = first.IsFirstFault (IsAgainstAt table lines) rule_reason_rank line reason

-- A fault is that of the lines.
abbrev pub IsFaultOf : Table → List (List ℕ) → RuleFault → Type 0
IsFaultOf table lines fault = policy.IsFaultOf (IsAgainstAt table lines) fault
