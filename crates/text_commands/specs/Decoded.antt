-- What `decode` does with the text of an input.
use Rattle.std.specs.Prelude.{ℕ, List, ◌++◌, Option}
use Rattle.std.specs.Io.KnownBytes.{Appends}
use Rattle.mrpc_table.specs.declared.table.Table.{Table}
use Rattle.text_commands.specs.DecodeInput.{IsInputOf, IsInputTextFault}
use Rattle.text_commands.specs.Decoding.{IsDecoded, IsCutAt}
use Rattle.text_commands.specs.FaultLines.{fault_line}

-- a text is a table's text followed by whole frames, and their lines were written
pub record HasDecodedText (text : List ℕ) (out out' : Option (List ℕ)) : Type 0 where
  pub table : Table
  pub stream : List ℕ
  pub holds : IsInputOf text table stream
  pub lines : List ℕ
  pub decoded : IsDecoded table stream lines
  pub written : Appends out out' lines

-- A text was decoded up to its first fault, whose line was written: a fault of the table's text, or one of
-- the frames, after the lines of the frames before it.
pub data HasDecodedToFault (text : List ℕ) (out out' : Option (List ℕ)) : Type 0 where
  in_text : (line : ℕ) (word : List ℕ) → IsInputTextFault text line word → Appends out out' (fault_line line word)
      → HasDecodedToFault text out out'
  in_stream : (table : Table) (stream lines : List ℕ) (place : ℕ) (word : List ℕ) → IsInputOf text table stream
      → IsCutAt table 0 stream lines place word → Appends out out' (lines ++ fault_line place word)
      → HasDecodedToFault text out out'

-- the text has a fault in a line, or in the stream
pub data HasDecodeFault (text : List ℕ) : Type 0 where
  fault_in_text : (line : ℕ) (word : List ℕ) → IsInputTextFault text line word → HasDecodeFault text
  fault_in_stream : (table : Table) (stream lines : List ℕ) (place : ℕ) (word : List ℕ) → IsInputOf text table stream
      → IsCutAt table 0 stream lines place word → HasDecodeFault text
