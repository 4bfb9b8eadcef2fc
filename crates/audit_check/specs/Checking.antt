-- What an audit text means, and the result of its check: whether its history is legal, and whether the lines after it
-- list the pending calls (this project's own).
use Rattle.std.specs.Prelude.{◌≡◌, ℕ, ◌+◌, ◌<◌, ◌==◌, ◌⊎◌, ◌↔◌, List, [], ◌∷◌, ◌++◌, All, Contains, Option, filter, length, map, option_map}
use Rattle.std.specs.List.{flat_map}
use Rattle.mrpc_table.specs.declared.table.Table.{Table}
use Rattle.call_history.specs.Trace.{Trace, pending_calls}
use Rattle.call_history.specs.Legal.{History, IsLegal, IsLegalPrefix, trace_of}
use Rattle.call_history.specs.Rules.{JudgeContext}
use Rattle.call_history.specs.declared.happening.ConnectionEvent.{ConnectionEvent}
use Rattle.policy_declarations.specs.Declarations.{Declared}
use Rattle.audit_text.specs.Lines.{audit, audit_line, stands_line}
use Rattle.audit_text.specs.Writable.{IsWritablePendingCall, IsWritable}
use Rattle.audit_text.specs.declared.holding.Holding.{Holding}
use Rattle.audit_rules.specs.BrokenRules.{HasObligationOf, IsFirstBrokenRule, rule_rank}
use Rattle.audit_rules.specs.PendingLines.{IsNextPending}
use Rattle.audit_rules.specs.declared.rule.Rule.{Rule}
use Rattle.audit_rules.specs.declared.rule.Rule.TheVariants.{Stands}
use Rattle.audit_check.specs.declared.checked.Checked.{Checked}
use Rattle.audit_check.specs.declared.checked.Checked.TheVariants.{Legal, Illegal}

-- ---- lines of pending calls

-- a pending call of a connection, at a position of its chain, with the name of the engine there, and the level and cost
-- if it is held
pub record StandsLine : Type 0 where
  pub conn : ℕ
  pub seq : ℕ
  pub position : ℕ
  pub name : List ℕ
  pub holding : Option Holding

abbrev pub bytes_of_stands : StandsLine → List ℕ
bytes_of_stands s = stands_line s.conn s.seq s.position s.name s.holding

-- the lines, in order
abbrev pub bytes_of_all_stands : List StandsLine → List ℕ
bytes_of_all_stands stands = flat_map bytes_of_stands stands

-- its numbers are in the ranges of their types, and its queue has a name
abbrev pub IsStandsLine : StandsLine → Type 0
IsStandsLine s = IsWritablePendingCall s.conn s.seq s.position s.name s.holding

-- ---- texts

-- The text is the audit of a history, followed by lines of pending calls.
pub record IsAuditOf (T : Table) (declared : Declared) (text : List ℕ) (h : History) (stands : List StandsLine)
    : Type 0 where
  pub is_text : text ≡ audit T h ++ bytes_of_all_stands stands
  pub writable : All (IsWritable T declared) h
  pub in_range : All IsStandsLine stands

-- the first list is a prefix of the second
abbrev pub IsPrefix : {A : Type 0} → List A → List A → Type 0
IsPrefix {A} front list = (rest : List A) × (list ≡ front ++ rest)

-- the text doesn't start with the line of an event
abbrev pub IsNoEventLine : Table → Declared → List ℕ → Type 0
IsNoEventLine T declared text = (x : ConnectionEvent) → IsWritable T declared x → IsPrefix (audit_line T x) text → ⊥

-- the text doesn't start with the line of a pending call
abbrev pub IsNoPendingLine : List ℕ → Type 0
IsNoPendingLine text = (s : StandsLine) → IsStandsLine s → IsPrefix (bytes_of_stands s) text → ⊥

-- The first fault of the text is at this line, counted from 1. The lines before it are those of a history and then of
-- pending calls. What follows is no audit line, or is the line of an event after one of a pending call.
pub record IsFirstInvalidAuditLine (T : Table) (declared : Declared) (text : List ℕ) (line : ℕ) : Type 0 where
  pub front : List ℕ
  pub rest : List ℕ
  pub history : History
  pub stands : List StandsLine
  pub is_text : text ≡ front ++ rest
  pub before : IsAuditOf T declared front history stands
  pub more : rest ≡ [] → ⊥
  pub no_event : stands ≡ [] → IsNoEventLine T declared rest
  pub no_pending : IsNoPendingLine rest
  pub counted : line ≡ length history + length stands + 1

-- ---- the pending calls

-- the context under which the events of a connection are judged
abbrev pub context_on : Table → ℕ → ℕ → JudgeContext
context_on T limit conn = record { conn = conn; table = T; limit = limit }

-- a call by its connection and its number
abbrev pub CallName : Type 0
CallName = ℕ × ℕ

abbrev pub call_name_of : StandsLine → CallName
call_name_of s = (s.conn, s.seq)

-- on an earlier connection, or on the same with a smaller number
abbrev pub IsEarlierCall : CallName → CallName → Type 0
IsEarlierCall one other = (one.0 < other.0) ⊎ ((one.0 ≡ other.0) × (one.1 < other.1))

-- each is before all later ones
abbrev pub AreOrdered : List CallName → Type 0
AreOrdered [] = Unit {0}
AreOrdered (call ∷ calls) = All (IsEarlierCall call) calls × AreOrdered calls

-- all pending calls, in the order of connections and numbers
pub record AreAllPending (h : History) (calls : List CallName) : Type 0 where
  pub ascend : AreOrdered calls
  pub each : (conn seq : ℕ) → Contains calls (conn, seq)
      ↔ Contains (map (λ call. call.seq) (pending_calls (trace_of conn h))) seq

-- the level and the cost at which the call is held, if it is
abbrev pub level_and_cost : StandsLine → Option (ℕ × ℕ)
level_and_cost s = option_map (λ held. (held.level, held.cost)) s.holding

-- after lines of pending calls at these positions, the lines name the connection's next pending calls, in order
abbrev pub AreNextPending : JudgeContext → Trace → List ℕ → List StandsLine → Type 0
AreNextPending u past positions [] = Unit {0}
AreNextPending u past positions (s ∷ stands) =
    IsNextPending u past positions s.seq s.position s.name (level_and_cost s)
    × AreNextPending u past (positions ++ s.position ∷ []) stands

-- the lines of a connection
abbrev pub lines_on : ℕ → List StandsLine → List StandsLine
lines_on conn stands = filter (λ s. s.conn == conn) stands

-- Lines can be the first ones of the pending calls: they name a prefix of them, in order, and list those of each
-- connection one after another.
pub record MayBeListed (T : Table) (limit : ℕ) (h : History) (stands : List StandsLine) : Type 0 where
  pub calls : List CallName
  pub all : AreAllPending h calls
  pub front : IsPrefix (map call_name_of stands) calls
  pub tell : (conn : ℕ) → AreNextPending (context_on T limit conn) (trace_of conn h) [] (lines_on conn stands)

-- they list all of them
pub record AreAllListed (T : Table) (limit : ℕ) (h : History) (stands : List StandsLine) : Type 0 where
  pub begin : MayBeListed T limit h stands
  pub all : AreAllPending h (map call_name_of stands)

-- ---- results

-- of the rules with an obligation on any connection, this is the first
pub record IsFirstObligation (h : History) (rule : Rule) : Type 0 where
  pub conn : ℕ
  pub awaited : HasObligationOf (trace_of conn h) rule
  pub earlier : (other : Rule) (conn : ℕ) → rule_rank other < rule_rank rule → HasObligationOf (trace_of conn h) other
      → ⊥

-- the events of each connection are a legal prefix
abbrev pub AreLegalPrefixes : Table → ℕ → History → Type 0
AreLegalPrefixes T limit h = (conn : ℕ) → IsLegalPrefix (context_on T limit conn) (trace_of conn h)

-- The result of a history and of the lines of pending calls after it. Lines of the text are counted from 1.
pub data IsCheckOfHistory (T : Table) (limit : ℕ) (h : History) (stands : List StandsLine) (checked : Checked)
    : Type 0 where
  -- the history is legal, and there are no lines of pending calls, or they list all of them
  legal : IsLegal T limit h → (stands ≡ []) ⊎ AreAllListed T limit h stands
      → checked ≡ Legal (length h) (length stands) → IsCheckOfHistory T limit h stands checked
  -- the events before this one are legal, and it breaks this rule first
  broken : (before after : History) (x : ConnectionEvent) (rule : Rule) → h ≡ before ++ x ∷ after
      → AreLegalPrefixes T limit before
      → IsFirstBrokenRule (context_on T limit x.conn) (trace_of x.conn before) x.what rule
      → checked ≡ Illegal (length before + 1) rule → IsCheckOfHistory T limit h stands checked
  -- all events are legal, and there is an obligation
  open_end : (rule : Rule) → AreLegalPrefixes T limit h → IsFirstObligation h rule
      → checked ≡ Illegal (length h + 1) rule → IsCheckOfHistory T limit h stands checked
  -- the history is legal, and the line of a pending call can't follow those before it
  misplaced : (front back : List StandsLine) (s : StandsLine) → IsLegal T limit h → stands ≡ front ++ s ∷ back
      → MayBeListed T limit h front → (MayBeListed T limit h (front ++ s ∷ []) → ⊥)
      → checked ≡ Illegal (length h + length front + 1) Stands → IsCheckOfHistory T limit h stands checked
  -- the history is legal, and there are lines of pending calls, but not of all
  missing : IsLegal T limit h → (stands ≡ [] → ⊥) → MayBeListed T limit h stands → (AreAllListed T limit h stands → ⊥)
      → checked ≡ Illegal (length h + length stands + 1) Stands → IsCheckOfHistory T limit h stands checked

-- the result of a text whose lines are all audit lines
pub record IsCheckOfText (T : Table) (declared : Declared) (limit : ℕ) (text : List ℕ) (checked : Checked)
    : Type 0 where
  pub history : History
  pub stands : List StandsLine
  pub tells : IsAuditOf T declared text history stands
  pub judged : IsCheckOfHistory T limit history stands checked
