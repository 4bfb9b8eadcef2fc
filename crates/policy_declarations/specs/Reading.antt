-- The code's own: the lines of a block, and how they are read.
use Rattle.std.specs.Prelude.{◌≡◌, ℕ, ◌+◌, nat_le, Bool, ◌||◌, if◌then◌else◌, List, [], ◌∷◌, length, Option, Some, None}
use Rattle.std.specs.Borrow.{Bor}
use Rattle.std.specs.Str.{bytes_eq}
use Rattle.mrpc_table.specs.Lines.{pieces_of, whole_lines}
use Rattle.mrpc_table.specs.declared.policy_lines.RuleFault.{RuleFault}
use Rattle.mrpc_table.specs.declared.policy_lines.RuleFault.TheVariants as rule
use Rattle.mrpc_table.specs.declared.table.Table.{Table}
use Rattle.policy_declarations.specs.DeclarationTexts.{IsFaultAfterHead}
use Rattle.policy_declarations.specs.declared.declaration_form.DeclarationForm.{DeclarationForm}
use Rattle.script_grammar.specs.Reasons.{of_rule}
use Rattle.script_grammar.specs.declared.fault.ScriptFault.{ScriptFault}
use Rattle.script_grammar.specs.declared.fault.ScriptFault.TheVariants as script
use Rattle.script_grammar.specs.declared.fault.ScriptReason.TheVariants.{Word}
use Rattle.policy_declarations.specs.Blocks.{end_line, IsBlock, IsOpen, kept_lines, line_number}

-- of the pieces of a text, the lines before the first line `end`; all whole lines if there is none
abbrev pub inner_of : List (List ℕ) → List (List ℕ)
inner_of [] = []
inner_of (line ∷ []) = []
inner_of (line ∷ next ∷ pieces) = if bytes_eq line end_line then [] else line ∷ inner_of (next ∷ pieces)

abbrev pub inner_lines : List ℕ → List (List ℕ)
inner_lines text = inner_of (pieces_of text)

-- the remainder after the first line `end`; none if there is none
abbrev pub IsRemainder : List ℕ → Option (Bor (List ℕ)) → Type 0
IsRemainder text None = IsOpen text × (inner_lines text ≡ whole_lines text)
IsRemainder text (Some rest) = IsBlock text (inner_lines text) rest.now

-- the fault of a declaration, from the fault of its policy's lines
abbrev pub declaration_fault : Bool → (inner : List (List ℕ)) → (ended : Bool) → RuleFault → ScriptFault
declaration_fault skips inner ended rule.Memory = script.Memory
declaration_fault skips inner ended (rule.At number why) =
    if ended || nat_le number (length (kept_lines skips inner)) then script.At (1 + line_number skips inner number) (of_rule why)
    else script.At (length inner + 2) Word

-- the fault is in the block after a declaration's first line, and is counted from that line
abbrev pub IsScriptFaultAfterHead : Table → Bool → DeclarationForm → List ℕ → ScriptFault → Type 0
IsScriptFaultAfterHead T skips f text (script.At at reason) =
    (behind : ℕ) × IsFaultAfterHead T skips f text behind reason × (at ≡ 1 + behind)
IsScriptFaultAfterHead T skips f text script.Memory = Unit {0}
