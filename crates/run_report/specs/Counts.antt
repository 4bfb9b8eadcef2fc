-- The code's own: totals while they are counted.
use Rattle.std.specs.Prelude.{◌≡◌, ℕ, ◌+◌, ◌<◌, ◌^◌, List, [], ◌∷◌, length, map, Option, None, Some, slice_get}
use Rattle.call_history.specs.declared.happening.Happening.{Happening}
use Rattle.call_history.specs.declared.happening.Happening.TheVariants.{Took}
use Rattle.call_history.specs.declared.happening.AcceptedCall.{AcceptedCall}
use Rattle.telemetry.specs.Counts.{CountedEvent as Counted}
use Rattle.telemetry.specs.Totals.{IsCountOf, sums_of}
use Rattle.telemetry.specs.declared.counts.Counts.{Counts}
use Rattle.telemetry.specs.declared.counts.What.{What}
use Rattle.run_report.specs.Counting.{counted_in}
use Rattle.run_report.specs.declared.reported_connection.ReportedConnection.{ReportedConnection}

abbrev pub counts_together : Counts → ℕ
counts_together counts = counts.took + counts.sent + counts.refused + counts.standing

-- totals are the counts of these, and sum to their number
pub record HaveCounted (happened : List Counted) (totals : List (ℕ × Counts)) : Type 0 where
  pub each : IsCountOf happened totals
  pub all : counts_together (sums_of totals) ≡ length happened

-- totals are the counts of the lines of a connection
abbrev pub AreCountsOf : ReportedConnection → List (ℕ × Counts) → Type 0
AreCountsOf shown totals = HaveCounted (counted_in shown) totals

-- these can be counted too: their number fits the counts
pub record CanCount (more : List Counted) (totals : List (ℕ × Counts)) : Type 0 where
  pub happened : List Counted
  pub so_far : HaveCounted happened totals
  pub few : length happened + length more < 2 ^ 64

abbrev pub methods_of_calls : List AcceptedCall → List ℕ
methods_of_calls calls = map (λ (call : AcceptedCall). call.method) calls

-- calls are numbered from 1
abbrev pub AreNumberedFromOne : List AcceptedCall → Type 0
AreNumberedFromOne calls = (place : ℕ) (call : AcceptedCall) → slice_get calls place ≡ Some call → call.seq ≡ place + 1

-- the method of a call that the event accepts
abbrev pub methods_by : Happening → List ℕ
methods_by (Took call) = call.method ∷ []
methods_by _ = []

-- what is to be counted, if anything
abbrev pub count_if_any : Option (ℕ × What) → List Counted
count_if_any None = []
count_if_any (Some counted) = record { method = counted.0; what = counted.1 } ∷ []
