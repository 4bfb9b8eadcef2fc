-- The audit text of a history: one line for each event, and one line for each pending call (this project's own format).
use Rattle.std.specs.Prelude.{◌≡◌, ◌≢◌, ℕ, ◌<◌, All, List, [], ◌∷◌, codes, length, Option, Some, None}
use Rattle.std.specs.List.{flat_map}
use Rattle.std.specs.Fmt.{decimal}
use Rattle.hex.specs.Hex.{encode_lower}
use Rattle.mrpc_table.specs.Calls.{message_at}
use Rattle.mrpc_table.specs.Lines.{words_of}
use Rattle.mrpc_table.specs.Normal.{IsNormal}
use Rattle.mrpc_table.specs.Text.{line, spaced}
use Rattle.mrpc_table.specs.declared.table.Table.{Table}
use Rattle.wire_base.specs.Encoding.{encoding}
use Rattle.graph_form.specs.Words.{graph_reason_word}
use Rattle.audit_text.specs.declared.holding.Holding.{Holding}
use Rattle.engine_core.specs.declared.op.Op.{Op as Step}
use Rattle.engine_core.specs.declared.op.Op.TheVariants.{Attach, Detach, Upgrade}
use Rattle.call_history.specs.Legal.{History}
use Rattle.call_history.specs.declared.happening.Cause.{Cause}
use Rattle.call_history.specs.declared.happening.Cause.TheVariants as cause
use Rattle.call_history.specs.declared.happening.ConnectionEvent.{ConnectionEvent}
use Rattle.call_history.specs.declared.happening.Happening.{Happening}
use Rattle.call_history.specs.declared.happening.Happening.TheVariants.{Took, Away, Op, Moment, Charged, Drawn, Counted, Redacted, Sent, Refused}
use Rattle.call_history.specs.declared.happening.AcceptedCall.{AcceptedCall}
use Rattle.call_history.specs.declared.happening.TookCopy.{TookCopy}
use Rattle.call_history.specs.declared.happening.TookCopy.TheVariants.{Copy, Malformed}

-- the words of a line
abbrev pub WordList : Type 0
WordList = List (List ℕ)

-- bytes in lower-case hexadecimal digits, `-` where there is none
abbrev pub hex_word : List ℕ → List ℕ
hex_word [] = codes "-"
hex_word (b ∷ bytes) = encode_lower (b ∷ bytes)

-- the copy of a call, in the encoding of this message, or why it has none
abbrev pub copy_words : Table → ℕ → TookCopy → WordList
copy_words T message (Copy tree) = codes "copy" ∷ hex_word (encoding T message tree) ∷ []
copy_words T message (Malformed reason place value) =
    codes "malformed" ∷ graph_reason_word reason ∷ decimal place ∷ decimal value ∷ []

-- an operation
abbrev pub step_words : Step → WordList
step_words (Attach at name label policy) = codes "attach" ∷ decimal at ∷ name ∷ label ∷ []
step_words (Detach name) = codes "detach" ∷ name ∷ []
step_words (Upgrade name label policy) = codes "upgrade" ∷ name ∷ label ∷ []

-- why a call was refused
abbrev pub cause_words : Cause → WordList
cause_words cause.Malformed = codes "malformed" ∷ []
cause_words (cause.Access name version rule) = codes "access" ∷ name ∷ decimal version ∷ rule ∷ []
cause_words (cause.Rate name left cost) = codes "rate" ∷ name ∷ decimal left ∷ decimal cost ∷ []
cause_words (cause.Quota name ticket cap) = codes "quota" ∷ name ∷ decimal ticket ∷ decimal cap ∷ []
cause_words cause.Transport = codes "transport" ∷ []

-- an event of a connection: its word, the connection, and its content
abbrev pub happening_words : Table → ℕ → Happening → WordList
happening_words T conn (Took call) =
    codes "took" ∷ decimal conn ∷ decimal call.seq ∷ decimal call.method ∷ decimal call.number ∷ decimal call.addr
    ∷ decimal call.after ∷ decimal call.count ∷ copy_words T (message_at T call.method call.number) call.copy
happening_words T conn (Away method number addr) =
    codes "away" ∷ decimal conn ∷ decimal method ∷ decimal number ∷ decimal addr ∷ []
happening_words T conn (Op step) = codes "op" ∷ decimal conn ∷ step_words step
happening_words T conn (Moment ms) = codes "moment" ∷ decimal conn ∷ decimal ms ∷ []
happening_words T conn (Charged seq name left) =
    codes "charged" ∷ decimal conn ∷ decimal seq ∷ name ∷ decimal left ∷ []
happening_words T conn (Drawn seq name window ticket) =
    codes "drawn" ∷ decimal conn ∷ decimal seq ∷ name ∷ decimal window ∷ decimal ticket ∷ []
happening_words T conn (Counted seq name) = codes "counted" ∷ decimal conn ∷ decimal seq ∷ name ∷ []
happening_words T conn (Redacted seq name version) =
    codes "redacted" ∷ decimal conn ∷ decimal seq ∷ name ∷ decimal version ∷ []
happening_words T conn (Sent seq bytes) = codes "sent" ∷ decimal conn ∷ decimal seq ∷ decimal bytes ∷ []
happening_words T conn (Refused seq why) = codes "refused" ∷ decimal conn ∷ decimal seq ∷ cause_words why

abbrev pub audit_line : Table → ConnectionEvent → List ℕ
audit_line T x = line (happening_words T x.conn x.what)

-- the lines of a history, in order
abbrev pub audit : Table → History → List ℕ
audit T h = flat_map (audit_line T) h

-- ---- pending calls

-- the level and cost of a held call; nothing if the call isn't held
abbrev pub held_words : Option Holding → WordList
held_words None = []
held_words (Some holding) = codes "held" ∷ decimal holding.level ∷ decimal holding.cost ∷ []

-- a pending call at a position of the chain, with the name of the engine there
abbrev pub stands_words : ℕ → ℕ → ℕ → List ℕ → Option Holding → WordList
stands_words conn seq position name holding =
    codes "stands" ∷ decimal conn ∷ decimal seq ∷ decimal position ∷ name ∷ held_words holding

abbrev pub stands_line : ℕ → ℕ → ℕ → List ℕ → Option Holding → List ℕ
stands_line conn seq position name holding = line (stands_words conn seq position name holding)

-- the name of the transport queue, after the last engine
abbrev pub transport : List ℕ
transport = codes "-"

-- ---- lines and their words

-- the words, joined by spaces, have no line feed, and split into these words at the spaces
pub record IsSplitInto (words : WordList) : Type 0 where
  pub cut : words_of (spaced words) ≡ words
  pub one_line : All (λ c. c ≢ 10) (spaced words)

-- ---- what can be written under a table

-- if there is a copy, the table has the method, and the copy is a normal tree of its message
abbrev pub IsCopyOfTable : Table → AcceptedCall → TookCopy → Type 0
IsCopyOfTable T call (Copy tree) = (call.method < length T.methods)
    × IsNormal T (message_at T call.method call.number) tree
IsCopyOfTable T call (Malformed reason place value) = Unit {0}

abbrev pub IsEventOfTable : Table → Happening → Type 0
IsEventOfTable T (Took call) = IsCopyOfTable T call call.copy
IsEventOfTable T _ = Unit {0}

-- the encoding of a copy; empty without a copy
abbrev pub encoding_of : Table → AcceptedCall → TookCopy → List ℕ
encoding_of T call (Copy tree) = encoding T (message_at T call.method call.number) tree
encoding_of T call (Malformed reason place value) = []
