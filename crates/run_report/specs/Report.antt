-- The whole report of a run (this project's own format).
use Rattle.std.specs.Prelude.{◌≡◌, ℕ, List, [], ◌∷◌, ◌++◌, codes, option_map, Option}
use Rattle.std.specs.List.{AllZip, concat, flat_map}
use Rattle.std.specs.Option.{option_copied, option_map_or}
use Rattle.mrpc_table.specs.Text.{line}
use Rattle.receive_core.specs.ReceiverTraces.{ReceiverTrace}
use Rattle.message_delivery.specs.Arriving.{HasTrace, IsArrivalTrace}
use Rattle.link_handshake.specs.Handshake.{IsUnboundCause}
use Rattle.run_report.specs.Lines.{judging_of, unbound_words}
use Rattle.telemetry.specs.Totals.{IsTextOf, word}
use Rattle.run_report.specs.Counting.{counted_in}
use Rattle.run_report.specs.ConnectionReport.{IsStreamRemainder, arrivals_text, history_lines, not_held_text, pending_call_lines}
use Rattle.run_report.specs.declared.reported_connection.Rounds.{Rounds}
use Rattle.run_report.specs.declared.reported_connection.ServedReport.{ServedReport}
use Rattle.run_report.specs.declared.reported_connection.ReportedConnection.{ReportedConnection}
use Rattle.run_report.specs.declared.reported_connection.ReportedConnection.TheVariants.{Served, Unbound}

-- ---- what can be reported

-- The arrivals on a connection were judged by its own table, and by the policy that is named.
pub record IsReportableConn (s : ServedReport) : Type 0 where
  pub arriving : HasTrace s.arrivals.now
  pub table : s.calls.now.table ≡ s.arrivals.now.table.now
  pub judged : option_map (λ policy. policy.1) (judging_of s.judge) ≡ option_copied s.arrivals.now.policy

abbrev pub IsReportable : ReportedConnection → Type 0
IsReportable (Unbound conn why) = IsUnboundCause why.now
IsReportable (Served served) = IsReportableConn served

-- ---- the text of a connection

-- The text of a bound connection: its history, its arrivals, the numbers that named no held block, the remainder of
-- its stream, and its pending calls. Each trace of a received stream gives the same remainder.
pub record IsServedText (s : ServedReport) (text : List ℕ) : Type 0 where
  pub left : List ℕ
  pub is_remainder : (life : ReceiverTrace) → IsArrivalTrace life s.arrivals.now
      → IsStreamRemainder s.calls.now.conn s.calls.now.ended life left
  pub lines : text ≡ history_lines s.calls.now
      ++ arrivals_text s.arrivals.now.table.now (judging_of s.judge) s.calls.now.conn s.arrivals.now.lines.items
      ++ not_held_text s.calls.now.conn s.not_held.now ++ left ++ pending_call_lines s.calls.now

-- for any other connection, the cause why it wasn't bound
abbrev pub IsReportText : ReportedConnection → List ℕ → Type 0
IsReportText (Unbound conn why) text = text ≡ line (unbound_words conn why.now)
IsReportText (Served served) text = IsServedText served text

-- ---- accounts

-- the account of a connection's visits: its weight, the visits, and the rounds given, kept and dropped
abbrev pub rounds_words : Rounds → List ℕ
rounds_words r = word r.weight ++ word r.account.visits ++ word r.account.rounds ++ word r.account.kept
    ++ word r.account.dropped

abbrev pub rounds_line : ℕ → Rounds → List ℕ
rounds_line conn r = codes "rounds" ++ word conn ++ rounds_words r ++ 10 ∷ []

abbrev pub account_line : ℕ → Option Rounds → List ℕ
account_line conn rounds = option_map_or (rounds_line conn) rounds []

abbrev pub rounds_of : ReportedConnection → List ℕ
rounds_of (Unbound conn why) = []
rounds_of (Served served) = account_line served.calls.now.conn served.rounds

-- ---- the whole text

-- the report of connections, in this order, then the accounts, then the counts of all lines
pub record IsRunText (shown : List ReportedConnection) (text : List ℕ) : Type 0 where
  pub each : List (List ℕ)
  pub texts : AllZip IsReportText shown each
  pub totals : List ℕ
  pub counts : IsTextOf (flat_map counted_in shown) totals
  pub whole : text ≡ concat each ++ flat_map rounds_of shown ++ totals
