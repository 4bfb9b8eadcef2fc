-- The report of the connections of a run, if no policy ever holds a call.
use Rattle.std.proofs.Common.{◌≡◌, ℕ, List, [], ◌∷◌, Option, Some, None}
use Rattle.std.proofs.Common.{length, refl, sym, ap, ◌∙◌, subst, arith}
use Rattle.std.specs.Prelude.{All}
use Rattle.std.specs.List.{AllZip, cons_option, filter_map, flat_map, range_with_len}
use Rattle.std.proofs.lemmas.List.Elements.{All-cons, All-head, All-nil, All-tail}
use Rattle.mrpc_base.specs.declared.clock.Clock.{Ghosts as ClockMembers}
use Rattle.mrpc_base.specs.declared.link.Link.{Ghosts as LinkMembers}
use Rattle.conn_core.specs.Connections.{Connection, IsConnection}
use Rattle.run_plan.specs.Links.{all_ends}
use Rattle.run_plan.specs.declared.application.Application.{Application}
use Rattle.run_plan.specs.declared.limits.TheConstants.{MAX_CONNECTIONS}
use Rattle.run_plan.specs.declared.plan.Plan.{Plan}
use Rattle.run_report.specs.Counting.{counted_in}
use Rattle.run_report.specs.declared.reported_connection.ReportedConnection.{ReportedConnection}
use Rattle.run_report.specs.declared.reported_connection.ReportedConnection.TheVariants as shown
use Rattle.service_loop.specs.declared.scheduled_op.ScheduledOp.{ScheduledOp}
use Rattle.service.specs.Served.{IsConnectionOutcome, WasServed}
use Rattle.service.specs.declared.served.ConnectionOutcome.{ConnectionOutcome}
use Rattle.service.specs.declared.served.ConnectionOutcome.TheVariants.{Bound, Unbound}
use Rattle.service.specs.declared.served.ServedConn.{ServedConn}
use Rattle.run_driver.specs.Running.{IsReportOfConn, IsReportOfOutcome, conns_by_number, conn_in}
use Rattle.telemetry.specs.Counts.{count_all}
use Rattle.telemetry.specs.declared.counts.What.TheVariants as what
use Rattle.drill.specs.Counting.{report_counts}
use Rattle.drill.specs.Holding.{HasNoHoldingPolicy, AreOwnNonHolding, IsNonHoldingOp}
use Rattle.drill.specs.Runs.{IsReportOfPlan}
use Rattle.drill.proofs.Counted.{IsOfConnection, count-joined, standing-of}
use Rattle.drill.proofs.Holding.{served-none}
use Rattle.drill.proofs.Planned.{found-holds, steps-so}

-- ---- what holds of each connection holds of those in order

pub zip-all : {A B : Type 0} (R : A → B → Type 0) (P : B → Type 0) (xs : List A) (ys : List B)
    → ((x : A) (y : B) → R x y → P y) → AllZip R xs ys → All P ys
zip-all R P [] [] each zip = All-nil P
zip-all R P [] (y ∷ ys) each zip = absurd zip
zip-all R P (x ∷ xs) [] each zip = absurd zip
zip-all R P (x ∷ xs) (y ∷ ys) each zip = All-cons P y ys (each x y zip.0) (zip-all R P xs ys each zip.1)

kept-one : {Y : Type 0} (P : Y → Type 0) (o : Option Y) (ys : List Y) → ((y : Y) → o ≡ Some y → P y) → All P ys
    → All P (cons_option o ys)
kept-one P None ys each all = all
kept-one P (Some y) ys each all = All-cons P y ys (each y refl) all

kept-all : {X Y : Type 0} (P : Y → Type 0) (f : X → Option Y) (xs : List X) → ((x : X) (y : Y) → f x ≡ Some y → P y)
    → All P (filter_map f xs)
kept-all P f [] each = All-nil P
kept-all P f (x ∷ xs) each = kept-one P (f x) (filter_map f xs) (each x) (kept-all P f xs each)

pub by-number-all : {L : Type 0} (P : ServedConn L → Type 0) (conns : List (ServedConn L)) → All P conns
    → All P (conns_by_number conns)
by-number-all P conns all = kept-all P (conn_in conns) (range_with_len 1 MAX_CONNECTIONS)
    (λ n s at. found-holds P _ conns s all at)

-- ---- the report is that of connections

of-connection : (plan : Plan) (conn : ℕ) (outcome : ConnectionOutcome) (t : ReportedConnection) → IsReportOfOutcome plan conn outcome t
    → IsOfConnection t
of-connection plan conn (Unbound why) (shown.Unbound number cause) shows = tt
of-connection plan conn (Unbound why) (shown.Served s) shows = absurd shows
of-connection plan conn (Bound b) (shown.Unbound number cause) shows = absurd shows
of-connection plan conn (Bound b) (shown.Served s) shows = subst IsConnection (sym shows.calls) shows.connection

pub of-connections : {L : Type 0} (plan : Plan) (conns : List (ServedConn L)) (told : List ReportedConnection)
    → AllZip (IsReportOfConn plan) conns told → All IsOfConnection told
of-connections plan conns told shows =
    zip-all (IsReportOfConn plan) IsOfConnection conns told (λ s t. of-connection plan s.conn s.outcome t) shows

-- ---- a connection without a pending call

abbrev pub LeavesNone : ConnectionOutcome → Type 0
LeavesNone (Unbound why) = Unit {0}
LeavesNone (Bound b) = IsConnection b.submissions.conn → b.submissions.conn.chain.row ≡ []

module _ {C L : Type 0} (of_clock : ClockMembers C) (of_link : LinkMembers L) (plan : Plan) (clock : C)
    (none : HasNoHoldingPolicy plan) where
  became-none : (app : Application) (start now : L) (outcome : ConnectionOutcome) → AreOwnNonHolding app.own
      → IsConnectionOutcome of_clock of_link plan clock app start now outcome → LeavesNone outcome
  became-none app start now (Unbound why) own became = tt
  became-none app start now (Bound b) own became = λ is.
      let so : All IsNonHoldingOp became.opening.begun.steps =
      steps-so plan app none own became.opening.begun.steps became.bound.steps in
      served-none b.submissions is became.served.served
      (subst (λ (steps : List ScheduledOp). All IsNonHoldingOp steps) (sym became.served.steps) so)

  served-leaves : (conn : ℕ) (s : ServedConn L) → WasServed of_clock of_link plan clock conn s → LeavesNone s.outcome
  served-leaves conn s was =
      became-none was.app was.start s.link s.outcome
      (found-holds (λ (app : Application). AreOwnNonHolding app.own) _ plan.applications was.app none.own was.its_app) was.outcome

  conns-leave : (conns : List (ServedConn L)) → AllZip (WasServed of_clock of_link plan clock) (all_ends plan.links) conns
      → All (λ s. LeavesNone s.outcome) conns
  conns-leave conns served =
      zip-all (WasServed of_clock of_link plan clock) (λ (s : ServedConn L). LeavesNone s.outcome) (all_ends plan.links)
      conns served-leaves served

-- ---- what its lines count as

no-standing : (plan : Plan) (conn : ℕ) (outcome : ConnectionOutcome) (t : ReportedConnection) → IsReportOfOutcome plan conn outcome t
    → LeavesNone outcome → IsOfConnection t → count_all (counted_in t) what.Standing ≡ 0
no-standing plan conn (Unbound why) (shown.Unbound number cause) shows leaves is = refl
no-standing plan conn (Unbound why) (shown.Served s) shows leaves is = absurd shows
no-standing plan conn (Bound b) (shown.Unbound number cause) shows leaves is = absurd shows
no-standing plan conn (Bound b) (shown.Served s) shows leaves is =
    let row : s.calls.now.chain.row ≡ [] =
    ap (λ (c : Connection). c.chain.row) shows.calls ∙ leaves (subst IsConnection shows.calls is) in
    standing-of s.calls.now is ∙ ap length row

none-standing : {L : Type 0} (plan : Plan) (conns : List (ServedConn L)) (told : List ReportedConnection)
    → AllZip (IsReportOfConn plan) conns told → All (λ s. LeavesNone s.outcome) conns → All IsOfConnection told
    → count_all (flat_map counted_in told) what.Standing ≡ 0
none-standing plan [] [] shows leaves is = refl
none-standing plan [] (t ∷ told) shows leaves is = absurd shows
none-standing plan (s ∷ conns) [] shows leaves is = absurd shows
none-standing {L} plan (s ∷ conns) (t ∷ told) shows leaves is =
    let here = no-standing plan s.conn s.outcome t shows.0
    (All-head (λ (s : ServedConn L). LeavesNone s.outcome) s conns leaves) (All-head IsOfConnection t told is) in
    let later = none-standing plan conns told shows.1
    (All-tail (λ (s : ServedConn L). LeavesNone s.outcome) s conns leaves) (All-tail IsOfConnection t told is) in
    let both = count-joined (counted_in t) (flat_map counted_in told) what.Standing in
    omega (arith, here, later, both)

pub run-leaves-none : {C L : Type 0} (of_clock : ClockMembers C) (of_link : LinkMembers L) (plan : Plan) (clock : C)
    (conns : List (ServedConn L)) (told : List ReportedConnection) → HasNoHoldingPolicy plan
    → IsReportOfPlan of_clock of_link plan clock conns told → (report_counts told).standing ≡ 0
run-leaves-none {C} {L} of_clock of_link plan clock conns told none tells =
    none-standing plan (conns_by_number conns) told tells.shows
    (by-number-all (λ (s : ServedConn L). LeavesNone s.outcome) conns
    (conns-leave of_clock of_link plan clock none conns tells.served))
    (of-connections plan (conns_by_number conns) told tells.shows)
