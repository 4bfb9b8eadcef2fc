-- The code's own: how the words of an accepted call are read.
use Rattle.std.specs.Prelude.{ℕ, ◌<◌, ◌^◌, List, ◌∷◌, codes, length, Option, Some, None, if◌then◌else◌}
use Rattle.std.specs.Fmt.{decimal}
use Rattle.std.specs.Str.{bytes_eq}
use Rattle.mrpc_table.specs.Calls.{message_at}
use Rattle.mrpc_table.specs.Node.{Node}
use Rattle.mrpc_table.specs.Normal.{IsNormal}
use Rattle.mrpc_table.specs.declared.table.Table.{Table}
use Rattle.wire_base.specs.Encoding.{encoding}
use Rattle.graph_form.specs.declared.reason.Reason.{Reason}
use Rattle.graph_form.specs.declared.reason.Reason.TheVariants.{Address, Presence, Case, Length, Utf8, Narrow, Depth, Loads, NoMethod}
use Rattle.call_history.specs.declared.happening.AcceptedCall.{AcceptedCall}
use Rattle.call_history.specs.declared.happening.TookCopy.{TookCopy}
use Rattle.call_history.specs.declared.happening.TookCopy.TheVariants.{Malformed}
use Rattle.audit_text.specs.Lines.{WordList, copy_words}
use Rattle.audit_text.specs.Reading.{◌>>=◌, read_word, read_last_number, read_number}
use Rattle.audit_text.specs.declared.copy.CallNumbers.{CallNumbers}

-- a normal tree of a message, whose encoding has fewer than 2^64 bytes
pub record HasShortEncoding (T : Table) (msg : ℕ) (tree : Node) : Type 0 where
  pub normal : IsNormal T msg tree
  pub short : length (encoding T msg tree) < 2 ^ 64

-- the words of an accepted call, after its connection
abbrev pub accepted_words : Table → AcceptedCall → WordList
accepted_words T call =
    decimal call.seq ∷ decimal call.method ∷ decimal call.number ∷ decimal call.addr ∷ decimal call.after
    ∷ decimal call.count ∷ copy_words T (message_at T call.method call.number) call.copy

abbrev pub made_head : ℕ → ℕ → ℕ → ℕ → ℕ → ℕ → CallNumbers
made_head seq method number addr after count =
    record { seq = seq; method = method; number = number; addr = addr; after = after; count = count }

unfoldable pub read_call_numbers : WordList → Option (CallNumbers × WordList)
read_call_numbers words = do
  seq ← read_number (2 ^ 32) words
  method ← read_number (2 ^ 16) seq.1
  number ← read_number (2 ^ 32) method.1
  addr ← read_number (2 ^ 64) number.1
  after ← read_number (2 ^ 64) addr.1
  count ← read_number (2 ^ 64) after.1
  Some (made_head seq.0 method.0 number.0 addr.0 after.0 count.0, count.1)

abbrev pub read_reason : List ℕ → Option Reason
read_reason word =
    if bytes_eq word (codes "Address") then Some Address
    else if bytes_eq word (codes "Presence") then Some Presence
    else if bytes_eq word (codes "Case") then Some Case
    else if bytes_eq word (codes "Length") then Some Length
    else if bytes_eq word (codes "Utf8") then Some Utf8
    else if bytes_eq word (codes "Narrow") then Some Narrow
    else if bytes_eq word (codes "Depth") then Some Depth
    else if bytes_eq word (codes "Loads") then Some Loads
    else if bytes_eq word (codes "NoMethod") then Some NoMethod
    else None

unfoldable pub read_malformed : WordList → Option TookCopy
read_malformed words = do
  word ← read_word words
  reason ← read_reason word.0
  place ← read_number (2 ^ 64) word.1
  value ← read_last_number (2 ^ 64) place.1
  Some (Malformed reason place.0 value)
