-- The code's own: the words of a line after its kind and its connection.
use Rattle.std.specs.Prelude.{ℕ, ◌^◌, ◌||◌, Bool, List, [], ◌∷◌, codes, Option, Some, None, if◌then◌else◌}
use Rattle.std.specs.Fmt.{decimal}
use Rattle.std.specs.Str.{bytes_eq}
use Rattle.mrpc_table.specs.Names.{is_name_form}
use Rattle.mrpc_table.specs.declared.table.Table.{Table}
use Rattle.call_history.specs.declared.happening.ConnectionEvent.{ConnectionEvent}
use Rattle.call_history.specs.declared.happening.Happening.{Happening}
use Rattle.call_history.specs.declared.happening.Happening.TheVariants as happen
use Rattle.audit_text.specs.Lines.{WordList, cause_words, happening_words, stands_words, step_words, transport}
use Rattle.audit_text.specs.declared.holding.Holding.{Holding}
use Rattle.audit_text.specs.Copies.{accepted_words}
use Rattle.audit_text.specs.Reading.{◌>>=◌, read_word, read_last_number, read_number}
use Rattle.audit_text.specs.declared.line.AuditLine.{AuditLine}
use Rattle.audit_text.specs.declared.line.AuditLine.TheVariants as lines
use Rattle.audit_text.specs.declared.event_words.LineKind.{LineKind}
use Rattle.audit_text.specs.declared.event_words.LineKind.TheVariants as kinds

abbrev pub line_kind_of : Happening → LineKind
line_kind_of (happen.Took call) = kinds.Took
line_kind_of (happen.Away method number addr) = kinds.Away
line_kind_of (happen.Op step) = kinds.Op
line_kind_of (happen.Moment ms) = kinds.Moment
line_kind_of (happen.Charged seq name left) = kinds.Charged
line_kind_of (happen.Drawn seq name window ticket) = kinds.Drawn
line_kind_of (happen.Counted seq name) = kinds.Counted
line_kind_of (happen.Redacted seq name version) = kinds.Redacted
line_kind_of (happen.Sent seq bytes) = kinds.Sent
line_kind_of (happen.Refused seq why) = kinds.Refused

abbrev pub kind_word : LineKind → List ℕ
kind_word kinds.Took = codes "took"
kind_word kinds.Away = codes "away"
kind_word kinds.Op = codes "op"
kind_word kinds.Moment = codes "moment"
kind_word kinds.Charged = codes "charged"
kind_word kinds.Drawn = codes "drawn"
kind_word kinds.Counted = codes "counted"
kind_word kinds.Redacted = codes "redacted"
kind_word kinds.Sent = codes "sent"
kind_word kinds.Refused = codes "refused"

-- the words after the connection
abbrev pub tail_words : Table → Happening → WordList
tail_words T (happen.Took call) = accepted_words T call
tail_words T (happen.Away method number addr) = decimal method ∷ decimal number ∷ decimal addr ∷ []
tail_words T (happen.Op step) = step_words step
tail_words T (happen.Moment ms) = decimal ms ∷ []
tail_words T (happen.Charged seq name left) = decimal seq ∷ name ∷ decimal left ∷ []
tail_words T (happen.Drawn seq name window ticket) = decimal seq ∷ name ∷ decimal window ∷ decimal ticket ∷ []
tail_words T (happen.Counted seq name) = decimal seq ∷ name ∷ []
tail_words T (happen.Redacted seq name version) = decimal seq ∷ name ∷ decimal version ∷ []
tail_words T (happen.Sent seq bytes) = decimal seq ∷ decimal bytes ∷ []
tail_words T (happen.Refused seq why) = decimal seq ∷ cause_words why

abbrev pub line_words : Table → AuditLine → WordList
line_words T (lines.Happened x) = happening_words T x.conn x.what
line_words T (lines.Stands conn seq position name holding) = stands_words conn seq position name holding

-- ---- pending calls

abbrev pub is_queue_name : List ℕ → Bool
is_queue_name word = is_name_form word || bytes_eq word transport

unfoldable pub read_holding : WordList → Option (Option Holding)
read_holding [] = Some None
read_holding (w ∷ ws) = if bytes_eq w (codes "held") then (do
  level ← read_number (2 ^ 64) ws
  cost ← read_last_number (2 ^ 64) level.1
  Some (Some (record { level = level.0; cost = cost }))) else None

abbrev pub stands_from : ℕ → ℕ → ℕ → List ℕ → WordList → Option AuditLine
stands_from conn seq position name words =
    if is_queue_name name
    then read_holding words >>= (λ holding. Some (lines.Stands conn seq position name holding))
    else None

unfoldable pub read_stands : ℕ → WordList → Option AuditLine
read_stands conn words = do
  seq ← read_number (2 ^ 32) words
  position ← read_number (2 ^ 32) seq.1
  name ← read_word position.1
  stands_from conn seq.0 position.0 name.0 name.1

-- ---- events

-- the event of a line, if it has one
abbrev pub happening_in : Option AuditLine → Option ConnectionEvent
happening_in None = None
happening_in (Some (lines.Happened x)) = Some x
happening_in (Some (lines.Stands conn seq position name holding)) = None
