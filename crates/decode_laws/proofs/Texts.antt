-- The text before a stream, in the terms of `decode`.
use Rattle.std.proofs.Common.{ℕ, List}
use Rattle.mrpc_table.specs.declared.table.Table.{Table}
use Rattle.frame_view.specs.Input.{IsInputOf, IsFaultOfTable, IsInputTextFault, no_first_line, no_second_line, in_table, no_end}
use Rattle.text_commands.specs.DecodeInput.{IsInputOf as DecodeHolds, IsFaultOfTable as IsDecodeFaultOfTable, IsInputTextFault as IsDecodeTextFault}
use Rattle.text_commands.specs.DecodeInput.{no_first_line as decode_no_first_line, no_second_line as decode_no_second_line, in_table as decode_in_table, no_end as decode_no_end}

pub holds_there : (text stream : List ℕ) (T : Table) → IsInputOf text T stream → DecodeHolds text T stream
holds_there text stream T h = record { valid = h.valid; parts = h.parts }

pub holds_here : (text stream : List ℕ) (T : Table) → DecodeHolds text T stream → IsInputOf text T stream
holds_here text stream T h = record { valid = h.valid; parts = h.parts }

table_there : (table : List ℕ) (line : ℕ) (word : List ℕ) → IsFaultOfTable table line word → IsDecodeFaultOfTable table line word
table_there table line word f = record { at = f.at; reason = f.reason; first = f.first; line_is = f.line_is; word_is = f.word_is }

table_here : (table : List ℕ) (line : ℕ) (word : List ℕ) → IsDecodeFaultOfTable table line word → IsFaultOfTable table line word
table_here table line word f = record { at = f.at; reason = f.reason; first = f.first; line_is = f.line_is; word_is = f.word_is }

pub fault_there : (text word : List ℕ) (line : ℕ) → IsInputTextFault text line word → IsDecodeTextFault text line word
fault_there text word line (no_first_line none at is) = decode_no_first_line none at is
fault_there text word line (no_second_line rest first none at is) = decode_no_second_line rest first none at is
fault_there text word line (in_table table behind fault) = decode_in_table table behind (table_there table line word fault)
fault_there text word line (no_end T valid endless at is) = decode_no_end T valid endless at is

pub fault_here : (text word : List ℕ) (line : ℕ) → IsDecodeTextFault text line word → IsInputTextFault text line word
fault_here text word line (decode_no_first_line none at is) = no_first_line none at is
fault_here text word line (decode_no_second_line rest first none at is) = no_second_line rest first none at is
fault_here text word line (decode_in_table table behind fault) = in_table table behind (table_here table line word fault)
fault_here text word line (decode_no_end T valid endless at is) = no_end T valid endless at is
