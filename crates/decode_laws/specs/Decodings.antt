-- How `decode` of a text ends.
use Rattle.std.specs.Prelude.{ℕ, List}
use Rattle.mrpc_table.specs.declared.table.Table.{Table}
use Rattle.text_commands.specs.Decoding.{IsCutAt, IsDecoded}
use Rattle.text_commands.specs.DecodeInput.{IsInputOf, IsInputTextFault}

-- the text has this first fault: on one of its lines, or at an offset of the stream after it
pub data IsDecodeFault (text : List ℕ) (place : ℕ) (word : List ℕ) : Type 0 where
  fault_of_text : IsInputTextFault text place word → IsDecodeFault text place word
  fault_of_stream : (T : Table) (stream lines : List ℕ) → IsInputOf text T stream → IsCutAt T 0 stream lines place word
      → IsDecodeFault text place word

-- the text has no fault: all of it is decoded
pub record IsDecodable (text : List ℕ) : Type 0 where
  pub table : Table
  pub stream : List ℕ
  pub holds : IsInputOf text table stream
  pub lines : List ℕ
  pub decoded : IsDecoded table stream lines
