-- The input of `decode`: two lines, the text of a table, an `end` line, and a stream of frames.
use Rattle.std.specs.Prelude.{◌≡◌, ◌≢◌, ℕ, ◌+◌, List, ◌++◌, codes}
use Rattle.mrpc_table.specs.Lines.{line_count}
use Rattle.mrpc_table.specs.Valid.{IsValid}
use Rattle.mrpc_table.specs.Text.{table_text}
use Rattle.table_text.specs.Faults.{IsFirstTableFault}
use Rattle.table_text.specs.Reason.{table_reason_word}
use Rattle.mrpc_table.specs.declared.table.Table.{Table}
use Rattle.table_text.specs.declared.fault.TableReason.{TableReason}
use Rattle.table_text.specs.TableText.{HasTableAfter, IsEndless, IsTableAfter}
use Rattle.text_commands.specs.declared.decoding.DecodeError.{DecodeError}
use Rattle.text_commands.specs.declared.decoding.DecodeError.TheVariants.{Fault, Memory, Out}

-- the code's own: P holds of a fault's line or offset and of its word
abbrev pub OnFault : (ℕ → List ℕ → Type 0) → DecodeError → Type 0
OnFault P (Fault place word) = P place word.now
OnFault P Memory = Unit {0}
OnFault P Out = Unit {0}

-- the first two lines
abbrev pub decode_header : List ℕ
decode_header = codes "mrpc-decode 1\n"

abbrev pub table_keyword : List ℕ
table_keyword = codes "table\n"

abbrev pub decode_preamble : List ℕ
decode_preamble = codes "mrpc-decode 1\ntable\n"

-- the input is the text of this table, followed by this stream
pub record IsInputOf (text : List ℕ) (T : Table) (stream : List ℕ) : Type 0 where
  pub valid : IsValid T
  pub parts : HasTableAfter decode_preamble text (table_text T) stream

-- the text of a table, whose first line is the third of an input, has this fault on that line of the input
pub record IsFaultOfTable (table : List ℕ) (line : ℕ) (word : List ℕ) : Type 0 where
  pub at : ℕ
  pub reason : TableReason
  pub first : IsFirstTableFault table at reason
  pub line_is : line ≡ at + 2
  pub word_is : word ≡ table_reason_word reason

-- a fault of the text, with its line: in the first two lines, in the table, or a missing `end` line
pub data IsInputTextFault (text : List ℕ) (line : ℕ) (word : List ℕ) : Type 0 where
  no_first_line :
      ((rest : List ℕ) → text ≢ decode_header ++ rest) → line ≡ 1 → word ≡ codes "Header"
      → IsInputTextFault text line word
  no_second_line :
      (rest : List ℕ) → text ≡ decode_header ++ rest → ((more : List ℕ) → rest ≢ table_keyword ++ more)
      → line ≡ 2 → word ≡ codes "Word"
      → IsInputTextFault text line word
  in_table : (table : List ℕ) → IsTableAfter decode_preamble text table → IsFaultOfTable table line word
      → IsInputTextFault text line word
  no_end :
      (T : Table) → IsValid T → IsEndless decode_preamble text (table_text T)
      → line ≡ line_count text + 1 → word ≡ codes "Word"
      → IsInputTextFault text line word
