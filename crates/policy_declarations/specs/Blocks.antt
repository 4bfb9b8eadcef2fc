-- The lines of a policy between its first line and its `end` (this project's own).
use Rattle.std.specs.Prelude.{◌≡◌, ℕ, ◌+◌, ◌-◌, ◌≤◌, ◌==◌, Bool, true, ◌&&◌, not, if◌then◌else◌, List, [], ◌∷◌, ◌++◌, codes, length, filter, Contains}
use Rattle.mrpc_table.specs.Lines.{pieces_of, whole_lines}
use Rattle.mrpc_table.specs.declared.policy_lines.RuleReason.{RuleReason}
use Rattle.script_grammar.specs.Reasons.{of_rule}
use Rattle.script_grammar.specs.declared.fault.ScriptReason.{ScriptReason}
use Rattle.script_grammar.specs.declared.fault.ScriptReason.TheVariants.{Word}

abbrev pub end_line : List ℕ
end_line = codes "end"

-- the text is these lines, then the first line `end`, then this remainder
pub record IsBlock (text : List ℕ) (inner : List (List ℕ)) (rest : List ℕ) : Type 0 where
  pub lines : pieces_of text ≡ inner ++ end_line ∷ pieces_of rest
  pub before_end : Contains inner end_line → ⊥

-- the text has no line `end`
abbrev pub IsOpen : List ℕ → Type 0
IsOpen text = Contains (whole_lines text) end_line → ⊥

-- an empty line, or one that starts with `#`
abbrev pub is_skipped : List ℕ → Bool
is_skipped [] = true
is_skipped (c ∷ cs) = c == 35

-- a line is one of the policy's own; the flag has empty lines and comments skipped
abbrev pub is_kept : Bool → List ℕ → Bool
is_kept skips line = not (skips && is_skipped line)

-- the policy's own lines
abbrev pub kept_lines : Bool → List (List ℕ) → List (List ℕ)
kept_lines skips lines = filter (is_kept skips) lines

-- the number of a kept line among all lines, both counted from 1; a number past the last kept line maps to the line
-- after all lines
abbrev pub line_number : Bool → List (List ℕ) → ℕ → ℕ
line_number skips [] number = 1
line_number skips (line ∷ lines) number =
    if is_kept skips line then (if number == 1 then 1 else 1 + line_number skips lines (number - 1))
    else 1 + line_number skips lines number

-- the lines after a policy's first one have their first fault in this line, counted from 1, which the first fault of
-- the kept lines determines
pub data IsFaultOfBlock (IsFirstFault : List (List ℕ) → ℕ → RuleReason → Type 0) (skips : Bool) (text : List ℕ) (line : ℕ)
    (reason : ScriptReason) : Type 0 where
  in_block : (inner : List (List ℕ)) (rest : List ℕ) (number : ℕ) (why : RuleReason) → IsBlock text inner rest
      → IsFirstFault (kept_lines skips inner) number why → line ≡ line_number skips inner number → reason ≡ of_rule why
      → IsFaultOfBlock IsFirstFault skips text line reason
  -- without an `end`, all lines are the policy's
  in_open : (number : ℕ) (why : RuleReason) → IsOpen text
      → IsFirstFault (kept_lines skips (whole_lines text)) number why → number ≤ length (kept_lines skips (whole_lines text))
      → line ≡ line_number skips (whole_lines text) number → reason ≡ of_rule why
      → IsFaultOfBlock IsFirstFault skips text line reason
  -- and if none of them has a fault, the `end` is missing
  no_end : IsOpen text
      → ((number : ℕ) (why : RuleReason) → IsFirstFault (kept_lines skips (whole_lines text)) number why
      → number ≤ length (kept_lines skips (whole_lines text)) → ⊥)
      → line ≡ length (whole_lines text) + 1 → reason ≡ Word → IsFaultOfBlock IsFirstFault skips text line reason
