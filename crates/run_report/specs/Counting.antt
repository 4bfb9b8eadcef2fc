-- What the lines of a run count as (this project's own).
use Rattle.std.specs.Prelude.{ℕ, ◌==◌, List, [], ◌∷◌, ◌++◌, find, map}
use Rattle.std.specs.Option.{option_map_or}
use Rattle.std.specs.List.{flat_map}
use Rattle.call_history.specs.Trace.{taken}
use Rattle.call_history.specs.declared.happening.Happening.{Happening}
use Rattle.call_history.specs.declared.happening.Happening.TheVariants.{Took, Refused, Sent}
use Rattle.call_history.specs.declared.happening.AcceptedCall.{AcceptedCall}
use Rattle.conn_core.specs.Connections.{Connection, conn_trace}
use Rattle.telemetry.specs.Counts.{CountedEvent as Counted}
use Rattle.telemetry.specs.declared.counts.What.TheVariants as what
use Rattle.run_report.specs.declared.reported_connection.ReportedConnection.{ReportedConnection}
use Rattle.run_report.specs.declared.reported_connection.ReportedConnection.TheVariants.{Served, Unbound}

-- the method of the accepted call with a number; lines name no other calls
abbrev pub method_of_call : List AcceptedCall → ℕ → ℕ
method_of_call calls seq = option_map_or (λ call. call.method) (find (λ call. call.seq == seq) calls) 0

-- what the line of an event counts as: a call that was accepted, sent or refused; other lines don't count
abbrev pub counted : List AcceptedCall → Happening → List Counted
counted calls (Took call) = record { method = call.method; what = what.Took } ∷ []
counted calls (Sent seq bytes) = record { method = method_of_call calls seq; what = what.Sent } ∷ []
counted calls (Refused seq why) = record { method = method_of_call calls seq; what = what.Refused } ∷ []
counted calls _ = []

-- what the line of a pending call counts as
abbrev pub pending_counted : List AcceptedCall → ℕ × ℕ → Counted
pending_counted calls call = record { method = method_of_call calls call.0; what = what.Standing }

-- what the lines of a connection count as
abbrev pub counted_on : Connection → List Counted
counted_on c = flat_map (counted (taken (conn_trace c))) c.happenings
    ++ map (pending_counted (taken (conn_trace c))) c.chain.row

-- the line of a connection that wasn't bound doesn't count
abbrev pub counted_in : ReportedConnection → List Counted
counted_in (Unbound conn why) = []
counted_in (Served served) = counted_on served.calls.now
