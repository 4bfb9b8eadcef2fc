-- The code's own: the counts of a connection's lines, and the prefix of its text, history and arrivals, if it is
-- wanted; made in parallel with those of the others.
use Rattle.std.specs.Prelude.{◌≡◌, Bool, true, false, List, [], ℕ, ◌++◌, All, IfOk, Option, Some, None, Result}
use Rattle.std.specs.List.{AllZip}
use Rattle.mrpc_table.specs.Valid.{IsValid}
use Rattle.mrpc_table.specs.declared.memory.Memory.{Memory}
use Rattle.run_report.specs.Lines.{IsWritableArrival, judging_of}
use Rattle.run_report.specs.ConnectionReport.{arrivals_text, history_lines}
use Rattle.telemetry.specs.Counts.{CountedEvent as Counted}
use Rattle.run_report.specs.Counting.{counted_in, counted_on}
use Rattle.run_report.specs.Counts.{HaveCounted}
use Rattle.run_report.specs.declared.prefixes.PrefixSource.{PrefixSource}
use Rattle.run_report.specs.declared.prefixes.MadePrefix.{MadePrefix}
use Rattle.run_report.specs.declared.reported_connection.ReportedConnection.{ReportedConnection}
use Rattle.run_report.specs.declared.reported_connection.ReportedConnection.TheVariants.{Served, Unbound}
use Rattle.run_report.specs.declared.reported_connection.ServedReport.{ServedReport}

abbrev pub served_prefix : ServedReport → List ℕ
served_prefix s = history_lines s.calls.now
    ++ arrivals_text s.arrivals.now.table.now (judging_of s.judge) s.calls.now.conn s.arrivals.now.lines.items

-- the prefix is made if a text is
abbrev pub if_wanted : (with_text : Bool) → List ℕ → List ℕ
if_wanted true front = front
if_wanted false front = []

-- a connection that wasn't bound has no prefix
abbrev pub report_prefix : (with_text : Bool) → ReportedConnection → List ℕ
report_prefix with_text (Unbound conn why) = []
report_prefix with_text (Served served) = if_wanted with_text (served_prefix served)

-- the prefix of a text, by its source
abbrev pub source_prefix : Option PrefixSource → List ℕ
source_prefix None = []
source_prefix (Some f) = if_wanted f.with_text (history_lines f.calls.now
    ++ arrivals_text f.table.now (judging_of f.judge) f.calls.now.conn f.lines.now)

-- the prefix can be made by the table of its own calls, which the arrivals match
abbrev pub CanMakePrefix : Option PrefixSource → Type 0
CanMakePrefix None = Unit {0}
CanMakePrefix (Some f) = IsValid f.table.now × (f.calls.now.table ≡ f.table.now)
    × All (IsWritableArrival f.table.now (judging_of f.judge)) f.lines.now

-- what a thread is to make of a connection: the prefix of its text, and what its lines count as
pub record ExpectedPrefix : Type 0 where
  pub text : List ℕ
  pub counted : List Counted

abbrev pub expected_for : (with_text : Bool) → ReportedConnection → ExpectedPrefix
expected_for with_text shown = record { text = report_prefix with_text shown; counted = counted_in shown }

abbrev pub source_counted : Option PrefixSource → List Counted
source_counted None = []
source_counted (Some f) = counted_on f.calls.now

abbrev pub expected_by : Option PrefixSource → ExpectedPrefix
expected_by front = record { text = source_prefix front; counted = source_counted front }

-- it was made
pub record IsMadePrefix (making : ExpectedPrefix) (made : MadePrefix) : Type 0 where
  pub text : made.text ≡ making.text
  pub counts : HaveCounted making.counted made.counts

-- these were made, each unless its thread ran out of memory
abbrev pub AreMadePrefixes : List ExpectedPrefix → List (Result MadePrefix Memory) → Type 0
AreMadePrefixes makings made = AllZip (λ making one. IfOk one (IsMadePrefix making)) makings made
