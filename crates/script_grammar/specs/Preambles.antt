-- The preamble of scripts and of audits: a first line of its own, a limit of loads, and a table (this project's own).
use Rattle.std.specs.Prelude.{◌≡◌, ◌≢◌, ℕ, ◌+◌, ◌≤◌, List, ◌++◌, codes}
use Rattle.mrpc_table.specs.Lines.{line_count}
use Rattle.mrpc_table.specs.Text.{table_text}
use Rattle.mrpc_table.specs.Valid.{IsValid}
use Rattle.mrpc_table.specs.declared.limits.TheConstants.{MAX_LOADS}
use Rattle.mrpc_table.specs.declared.table.Table.{Table}
use Rattle.table_text.specs.Faults.{IsFirstTableFault}
use Rattle.table_text.specs.TableText.{IsTableAfter}
use Rattle.table_text.specs.declared.fault.TableReason.{TableReason}
use Rattle.script_grammar.specs.Reasons.{of_table}
use Rattle.script_grammar.specs.Values.{IsNumber}
use Rattle.script_grammar.specs.declared.fault.ScriptReason.{ScriptReason}
use Rattle.script_grammar.specs.declared.fault.ScriptReason.TheVariants.{Header, Word, Number}
use Rattle.script_grammar.specs.declared.fault.ScriptFault.{ScriptFault}
use Rattle.script_grammar.specs.declared.fault.ScriptFault.TheVariants as fault
use Rattle.script_grammar.specs.declared.limits.TheConstants.{USUAL_LOADS}

-- ---- the lines before the table's text

abbrev pub table_line : List ℕ
table_line = codes "table\n"

-- the line that limits how many words are loaded for one call
abbrev pub loads_line : List ℕ → List ℕ
loads_line word = codes "loads " ++ (word ++ codes "\n")

abbrev pub IsLimit : ℕ → Type 0
IsLimit loads = (1 ≤ loads) × (loads ≤ MAX_LOADS)

-- the first line, with its line feed, and perhaps a limit; then the line `table`
pub data IsHead (first head : List ℕ) (loads : ℕ) : Type 0 where
  default_loads : head ≡ first ++ table_line → loads ≡ USUAL_LOADS → IsHead first head loads
  limited : (word : List ℕ) → head ≡ first ++ (loads_line word ++ table_line) → IsNumber word loads → IsLimit loads
      → IsHead first head loads

-- ---- the preamble

-- a head, the canonical text of the table and `end` are a prefix of the text, and this is the remainder
pub record IsPreamble (first text : List ℕ) (loads : ℕ) (T : Table) (behind : List ℕ) : Type 0 where
  pub head : List ℕ
  pub is_head : IsHead first head loads
  pub valid : IsValid T
  pub text_is : text ≡ head ++ (table_text T ++ (codes "end\n" ++ behind))

-- the number of the line after a text, counted from 1
abbrev pub line_after : List ℕ → ℕ
line_after text = line_count text + 1

-- this line of the preamble is the first one with a fault, and this is its first reason
pub data IsPreambleFault (first text : List ℕ) (line : ℕ) (reason : ScriptReason) : Type 0 where
  no_first_line : ((rest : List ℕ) → text ≢ first ++ rest) → line ≡ 1 → reason ≡ Header
      → IsPreambleFault first text line reason
  -- the second line is neither `table` nor a limit
  no_second_line : (rest : List ℕ) → text ≡ first ++ rest → ((more : List ℕ) → rest ≢ table_line ++ more)
      → ((word more : List ℕ) (n : ℕ) → IsNumber word n → rest ≢ loads_line word ++ more) → line ≡ 2 → reason ≡ Word
      → IsPreambleFault first text line reason
  no_limit : (word more : List ℕ) (n : ℕ) → text ≡ first ++ (loads_line word ++ more) → IsNumber word n
      → (IsLimit n → ⊥) → line ≡ 2 → reason ≡ Number → IsPreambleFault first text line reason
  no_third_line : (word rest : List ℕ) (n : ℕ) → text ≡ first ++ (loads_line word ++ rest) → IsNumber word n
      → IsLimit n → ((more : List ℕ) → rest ≢ table_line ++ more) → line ≡ 3 → reason ≡ Word
      → IsPreambleFault first text line reason
  in_table : (head table : List ℕ) (loads at : ℕ) (why : TableReason) → IsHead first head loads
      → IsTableAfter head text table → IsFirstTableFault table at why → line ≡ line_count head + at
      → reason ≡ of_table why → IsPreambleFault first text line reason
  -- the remainder after the head is exactly the canonical text of a table
  no_end : (head : List ℕ) (loads : ℕ) (T : Table) → IsHead first head loads → IsValid T
      → text ≡ head ++ table_text T → line ≡ line_after text → reason ≡ Word → IsPreambleFault first text line reason

-- the preamble of a text has this fault; running out of memory claims nothing
abbrev pub IsFaultOfPreamble : (first text : List ℕ) → ScriptFault → Type 0
IsFaultOfPreamble first text (fault.At line reason) = IsPreambleFault first text line reason
IsFaultOfPreamble first text fault.Memory = Unit {0}
