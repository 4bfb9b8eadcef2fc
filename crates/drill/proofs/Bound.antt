-- Each connection of a drill is bound, if the ends of its links relate as links in memory do.
use Rattle.std.proofs.Common.{◌≡◌, ◌≢◌, ◌⊎◌, ℕ, ◌^◌, ◌<◌, ◌==◌, List, [], ◌∷◌, ◌++◌, Option, Some, None}
use Rattle.std.proofs.Common.{refl, sym, ap, ◌∙◌, subst, inl, inr, lit<}
use Rattle.std.specs.Prelude.{All}
use Rattle.std.specs.List.{AllZip, concat}
use Rattle.std.specs.Io.KnownBytes.{Appends}
use Rattle.std.proofs.lemmas.List.Elements.{All-cons, All-from_recursion, All-head, All-nil, All-tail}
use Rattle.std.proofs.lemmas.Option.{same_Some}
use Rattle.mrpc_base.specs.Failures.{HasRisen}
use Rattle.mrpc_base.specs.Links.{IsEmptyIfKnown}
use Rattle.mrpc_base.specs.declared.clock.Clock.{Ghosts as ClockMembers}
use Rattle.mrpc_base.specs.declared.link.Link.{Ghosts as LinkMembers}
use Rattle.message_delivery.specs.declared.arrivals.StreamState.{StreamState}
use Rattle.message_delivery.specs.declared.arrivals.StreamState.TheVariants.{Ended, Failed}
use Rattle.link_handshake.specs.Handshake.{IsUnbound, hello_of}
use Rattle.link_handshake.specs.declared.unbound.Unbound.{Unbound as Cause}
use Rattle.drill.specs.Drill.{applications, drill, schema}
use Rattle.run_plan.specs.Chains.{table_by}
use Rattle.run_plan.specs.Links.{all_ends, application_in}
use Rattle.run_plan.specs.declared.application.Application.{Application}
use Rattle.run_plan.specs.declared.application.OwnSchema.{OwnSchema}
use Rattle.run_report.specs.declared.reported_connection.ReportedConnection.{ReportedConnection}
use Rattle.run_report.specs.declared.reported_connection.ReportedConnection.TheVariants as shown
use Rattle.service.specs.Served.{ArePairs, IsConnectionOutcome, IsNewLink, WasRefused, WasServed}
use Rattle.service.specs.declared.served.ConnectionOutcome.{ConnectionOutcome}
use Rattle.service.specs.declared.served.ConnectionOutcome.TheVariants.{Bound, Unbound}
use Rattle.service.specs.declared.served.ServedConn.{ServedConn}
use Rattle.run_driver.specs.Running.{HasNeverFailed, IsReportOfConn, IsReportOfOutcome, conns_by_number}
use Rattle.drill.specs.Meeting.{HaveMet, IsLinkDelivery}
use Rattle.drill.specs.Runs.{IsReportedBound, IsReportOfPlan}
use Rattle.drill.proofs.Drilled.{no-rise}
use Rattle.drill.proofs.Planned.{found-holds}
use Rattle.drill.proofs.DrillSchema.{service}
use Rattle.drill.proofs.Told.{by-number-all}
use Rattle.drill.proofs.Unbound.{Laws, never-unbound}

-- ---- its applications

-- an application has no table of its own, and the number of its connection fits a frame
abbrev IsPlain : Application → Type 0
IsPlain app = (app.own ≡ None) × (app.conn < 2 ^ 32)

all-plain : (calls : ℕ) → All IsPlain (applications calls)
all-plain calls = All-from_recursion IsPlain (applications calls) (
  (refl, lit< tt),
  (
    (refl, lit< tt),
    (
      (refl, lit< tt),
      ((refl, lit< tt), ((refl, lit< tt), ((refl, lit< tt), ((refl, lit< tt), ((refl, lit< tt), tt))))),
    ),
  ),
)

is-plain : (calls conn : ℕ) (app : Application) → application_in (applications calls) conn ≡ Some app → IsPlain app
is-plain calls conn app its =
    found-holds IsPlain (λ (a : Application). a.conn == conn) (applications calls) app (all-plain calls) its

-- ---- what a link gave

came-whole : (before now : Option (List ℕ)) (given stream : List ℕ) → before ≢ None → IsEmptyIfKnown before
    → Appends before now stream → now ≡ Some given → given ≡ stream
came-whole None now given stream known none came is = absurd (known refl)
came-whole (Some xs) None given stream known none came is = absurd came
came-whole (Some xs) (Some ys) given stream known none came is =
    sym (same_Some ys given is) ∙ came ∙ ap (λ (l : List ℕ). l ++ stream) none

-- ---- what a link was handed, and what the other end reads from it

module _ {C L : Type 0} (of_clock : ClockMembers C) (of_link : LinkMembers L) (calls : ℕ) (clock : C) where
  -- a link was handed a hello of the drill, and any frames after it
  record Greets (link : L) : Type 0 where
    pub conn : ℕ
    pub small : conn < 2 ^ 32
    pub more : List (List ℕ)
    pub handed : of_link.handed link ≡ hello_of conn service schema ∷ more

  hello-so : (app : Application) (now : L) (more : List (List ℕ)) → IsPlain app
      → of_link.handed now ≡ hello_of app.conn service (table_by schema app.own) ∷ more → Greets now
  hello-so app now more plain handed = record {
    conn = app.conn;
    small = plain.1;
    more = more;
    handed = handed ∙ ap (λ (own : Option OwnSchema). hello_of app.conn service (table_by schema own) ∷ more) plain.0;
  }

  never-fails : (app : Application) (start now : L) (why : Cause) (was : WasRefused of_link (drill calls) app start now why)
      → of_link.failures start ≡ 0 → of_link.failures now ≡ 0 → was.state ≡ Failed → ⊥
  never-fails app start now why was none never fails =
      no-rise (subst (λ n. HasRisen n 0) none (subst (λ n. HasRisen (of_link.failures start) n) never (was.cause.rose fails)))

  hello-or-not : (app : Application) (now : L) (state : StreamState) → IsPlain app → (state ≡ Failed → ⊥)
      → (of_link.handed now ≡ hello_of app.conn service (table_by schema app.own) ∷ [])
      ⊎ ((of_link.handed now ≡ []) × (state ≡ Failed)) → Greets now
  hello-or-not app now state plain works (inl handed) = hello-so app now [] plain handed
  hello-or-not app now state plain works (inr not_handed) = absurd (works not_handed.1)

  greets : (app : Application) (start now : L) (outcome : ConnectionOutcome) → IsPlain app → of_link.failures start ≡ 0
      → of_link.failures now ≡ 0 → IsConnectionOutcome of_clock of_link (drill calls) clock app start now outcome → Greets now
  greets app start now (Unbound why) plain none never was =
      hello-or-not app now was.state plain (never-fails app start now why was none never) was.handed
  greets app start now (Bound b) plain none never was =
      let passed = was.served.handed.passed in
      hello-so app now passed plain
      (was.served.handed.handed ∙ ap (λ (l : List (List ℕ)). l ++ passed) was.bound.handed)

  -- it leaves the connection at the other end bound
  not-unbound : Laws → (app : Application) (start now from : L) (why : Cause) → IsPlain app → IsNewLink of_link start
      → of_link.since start now → of_link.failures now ≡ 0 → Greets from → IsLinkDelivery of_link from now
      → WasRefused of_link (drill calls) app start now why → ⊥
  not-unbound laws app start now from why plain is_new later never peer handed was =
      let front : List ℕ = hello_of peer.conn service schema in
      let more : List ℕ = concat peer.more in
      let all : concat (of_link.handed from) ≡ front ++ more = ap concat peer.handed in
      let came : handed.given ≡ was.stream =
      came-whole (of_link.given start) (of_link.given now) handed.given was.stream (handed.all_along start later)
      is_new.given was.came handed.known in
      let begins : was.stream ++ handed.in_order.0 ≡ front ++ more =
      ap (λ (l : List ℕ). l ++ handed.in_order.0) (sym came) ∙ handed.in_order.1 ∙ all in
      let whole : was.state ≡ Ended → was.stream ≡ front ++ more =
      λ is. sym came ∙ handed.whole (was.ended is) ∙ all in
      never-unbound laws peer.conn peer.small more was.stream handed.in_order.0 begins was.fault was.state why
      (never-fails app start now why was is_new.failures never) whole
      (subst (λ (own : Option OwnSchema). IsUnbound (table_by schema own) service was.stream was.fault was.state why) plain.0
      was.unbound)

  -- ---- all connections

  IsBoundOne : ConnectionOutcome → Type 0
  IsBoundOne (Unbound why) = ⊥
  IsBoundOne (Bound b) = Unit {0}

  abbrev IsOne : ℕ → ServedConn L → Type 0
  IsOne = WasServed of_clock of_link (drill calls) clock

  its-hello : (conn : ℕ) (s : ServedConn L) → IsOne conn s → HasNeverFailed of_link s → Greets s.link
  its-hello conn s was never =
      greets was.app was.start s.link s.outcome (is-plain calls conn was.app was.its_app) was.is_new.failures never was.outcome

  bound-so : Laws → (app : Application) (start now from : L) (outcome : ConnectionOutcome) → IsPlain app → IsNewLink of_link start
      → of_link.since start now → of_link.failures now ≡ 0 → Greets from → IsLinkDelivery of_link from now
      → IsConnectionOutcome of_clock of_link (drill calls) clock app start now outcome → IsBoundOne outcome
  unfolding IsBoundOne
  bound-so laws app start now from (Unbound why) plain is_new later never peer handed became =
      not-unbound laws app start now from why plain is_new later never peer handed became
  bound-so laws app start now from (Bound b) plain is_new later never peer handed outcome = tt

  one-bound : Laws → (conn : ℕ) (s : ServedConn L) (from : L) → IsOne conn s → HasNeverFailed of_link s → Greets from
      → IsLinkDelivery of_link from s.link → IsBoundOne s.outcome
  one-bound laws conn s from was never peer handed =
      bound-so laws was.app was.start s.link from s.outcome (is-plain calls conn was.app was.its_app) was.is_new
      (was.same_link was.start (of_link.itself was.start)) never peer handed was.outcome

  abbrev WasBoundOne : ServedConn L → Type 0
  WasBoundOne s = IsBoundOne s.outcome

  all-bound : Laws → (ends : List ℕ) (conns : List (ServedConn L)) → AllZip IsOne ends conns
      → All (HasNeverFailed of_link) conns → ArePairs (λ s. s.link) (HaveMet of_link) conns → All WasBoundOne conns
  all-bound laws ends [] served never met = All-nil WasBoundOne
  all-bound laws ends (s ∷ []) served never met = absurd met
  all-bound laws [] (s ∷ e ∷ conns) served never met = absurd served
  all-bound laws (m ∷ []) (s ∷ e ∷ conns) served never met = absurd served.1
  all-bound laws (m ∷ n ∷ ends) (s ∷ e ∷ conns) served never met =
      let works : HasNeverFailed of_link s = All-head (HasNeverFailed of_link) s (e ∷ conns) never in
      let others : All (HasNeverFailed of_link) (e ∷ conns) = All-tail (HasNeverFailed of_link) s (e ∷ conns) never in
      let works_too : HasNeverFailed of_link e = All-head (HasNeverFailed of_link) e conns others in
      All-cons WasBoundOne s (e ∷ conns)
      (one-bound laws m s e.link served.0 works (its-hello n e served.1.0 works_too) met.0.1)
      (All-cons WasBoundOne e conns
      (one-bound laws n e s.link served.1.0 works_too (its-hello m s served.0 works) met.0.0)
      (all-bound laws ends conns served.1.1 (All-tail (HasNeverFailed of_link) e conns others) met.1))

  -- ---- their report

  told-bound : (conn : ℕ) (outcome : ConnectionOutcome) (t : ReportedConnection) → IsBoundOne outcome → IsReportOfOutcome (drill calls) conn outcome t
      → IsReportedBound t
  unfolding IsBoundOne
  told-bound conn (Unbound why) t is shows = absurd is
  told-bound conn (Bound b) (shown.Unbound number cause) is shows = absurd shows
  told-bound conn (Bound b) (shown.Served s) is shows = tt

  all-told : (conns : List (ServedConn L)) (told : List ReportedConnection) → All WasBoundOne conns
      → AllZip (IsReportOfConn (drill calls)) conns told → All IsReportedBound told
  all-told [] [] bound shows = All-nil IsReportedBound
  all-told [] (t ∷ told) bound shows = absurd shows
  all-told (s ∷ conns) [] bound shows = absurd shows
  all-told (s ∷ conns) (t ∷ told) bound shows =
      All-cons IsReportedBound t told
      (told-bound s.conn s.outcome t (All-head WasBoundOne s conns bound) shows.0)
      (all-told conns told (All-tail WasBoundOne s conns bound) shows.1)

  pub drill-binds : Laws → (conns : List (ServedConn L)) (told : List ReportedConnection)
      → IsReportOfPlan of_clock of_link (drill calls) clock conns told → All (HasNeverFailed of_link) conns
      → ArePairs (λ s. s.link) (HaveMet of_link) conns → All IsReportedBound told
  drill-binds laws conns told tells never met =
      all-told (conns_by_number conns) told
      (by-number-all WasBoundOne conns (all-bound laws (all_ends (drill calls).links) conns tells.served never met)) tells.shows
