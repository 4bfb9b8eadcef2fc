-- The code's own: the line that limits how many words are loaded for one call.
use Rattle.std.specs.Prelude.{◌≡◌, ◌≢◌, ℕ, ◌+◌, nat_le, ◌&&◌, List, ◌++◌, Result, Ok, Err, if◌then◌else◌}
use Rattle.mrpc_table.specs.declared.words.Decimal.{Decimal}
use Rattle.mrpc_table.specs.declared.words.Decimal.TheVariants.{Small, Large}
use Rattle.mrpc_table.specs.Lines.{line_count}
use Rattle.table_text.specs.Faults.{IsFirstTableFault}
use Rattle.table_text.specs.declared.fault.TableReason.{TableReason}
use Rattle.script_grammar.specs.Reasons.{of_table}
use Rattle.script_grammar.specs.Values.{IsNumber}
use Rattle.script_grammar.specs.declared.fault.ScriptFault.{ScriptFault}
use Rattle.script_grammar.specs.declared.fault.ScriptFault.TheVariants as fault
use Rattle.script_grammar.specs.Preambles.{loads_line, IsLimit}
use Rattle.script_grammar.specs.declared.fault.ScriptReason.{ScriptReason}
use Rattle.script_grammar.specs.declared.fault.ScriptReason.TheVariants.{Word, Number}

-- such a line is a prefix of the text, and this is the remainder
pub record HasLimit (text : List ℕ) (loads : ℕ) (behind : List ℕ) : Type 0 where
  pub word : List ℕ
  pub number : IsNumber word loads
  pub limit : IsLimit loads
  pub text_is : text ≡ loads_line word ++ behind

-- no such line is a prefix of the text, or its number is out of range
abbrev pub IsLimitFault : List ℕ → ScriptReason → Type 0
IsLimitFault text Word = (word more : List ℕ) (n : ℕ) → IsNumber word n → text ≢ loads_line word ++ more
IsLimitFault text Number = (word : List ℕ) × (more : List ℕ) × (n : ℕ) × IsNumber word n × (IsLimit n → ⊥)
    × (text ≡ loads_line word ++ more)
IsLimitFault text _ = ⊥

-- the number, if it is in range
abbrev pub within : (least most : ℕ) → Decimal → Result ℕ ScriptReason
within least most (Small n) = if nat_le least n && nat_le n most then Ok n else Err Number
within least most Large = Err Number

-- the text of a table after this head has this first fault; lines are counted from the first one of the head
abbrev pub IsTableFault : (head table : List ℕ) → ScriptFault → Type 0
IsTableFault head table (fault.At line reason) =
    (at : ℕ) × (why : TableReason) × IsFirstTableFault table at why × (line ≡ line_count head + at)
    × (reason ≡ of_table why)
IsTableFault head table fault.Memory = Unit {0}
