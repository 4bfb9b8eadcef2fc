-- Served connections can be reported, with the outcomes of their links.
use Rattle.std.proofs.Common.{◌≡◌, ℕ, Bool, true, false, List, [], ◌∷◌, All, Contains, Option, Some, sym, ap, ◌∙◌, subst}
use Rattle.std.specs.List.{AllZip}
use Rattle.std.specs.Option.{option_copied}
use Rattle.std.proofs.lemmas.Bool.{false_from_ne_true}
use Rattle.std.proofs.lemmas.List.Elements.{All-cons, All-contains, All-head, All-nil, All-tail}
use Rattle.mrpc_base.specs.Failures.{HasRisen}
use Rattle.mrpc_base.specs.declared.clock.Clock.{Ghosts as ClockMembers}
use Rattle.mrpc_base.specs.declared.link.Link.{Ghosts as LinkMembers}
use Rattle.mrpc_table.specs.declared.table.Table.{Table}
use Rattle.frame_transport.specs.declared.fault.FeedFault.{FeedFault}
use Rattle.message_delivery.specs.declared.arrivals.StreamState.{StreamState}
use Rattle.message_delivery.specs.declared.arrivals.StreamState.TheVariants.{Failed}
use Rattle.link_handshake.specs.Handshake.{IsUnbound, failed, ended, cut, other_frame, bad_hello, disagrees}
use Rattle.link_handshake.specs.declared.unbound.Unbound.{Unbound as Cause}
use Rattle.link_handshake.specs.declared.unbound.Unbound.TheVariants.{Transport}
use Rattle.run_plan.specs.Chains.{app_table}
use Rattle.run_plan.specs.Links.{application_in}
use Rattle.run_plan.specs.declared.application.Application.{Application}
use Rattle.run_plan.specs.declared.plan.Plan.{Plan}
use Rattle.telemetry.specs.declared.counts.Counts.{Counts}
use Rattle.service.specs.Served.{IsConnectionOutcome, WasRefused, WasServed, WasServedBound}
use Rattle.service.specs.declared.served.ConnectionOutcome.{ConnectionOutcome}
use Rattle.service.specs.declared.served.ConnectionOutcome.TheVariants.{Bound, Unbound}
use Rattle.service.specs.declared.served.ServedConn.{ServedConn}
use Rattle.service_threads.specs.declared.served.BoundConn.{BoundConn}
use Rattle.run_driver.specs.Running.{HasFailed, HasNeverFailed}
use Rattle.run_driver.specs.Reporting.{AreReportable, IsReportOfConns, CanReport, IsReportableServed, IsReportOfRun, IsFailureOutcome}

-- the transport leaves a connection unbound only if its stream failed
transport-failed : (T : Table) (service stream : List ℕ) (fault : Option FeedFault) (state : StreamState) (why : Cause)
    → IsUnbound T service stream fault state why → why ≡ Transport → state ≡ Failed
transport-failed T service stream fault state why (failed is so) transport = is
transport-failed T service stream fault state why (ended is reads so) transport = absurd cc
transport-failed T service stream fault state why (cut first reads so) transport = absurd cc
transport-failed T service stream fault state why (other_frame f begins not so) transport = absurd cc
transport-failed T service stream fault state why (bad_hello f line begins is bad so) transport = absurd cc
transport-failed T service stream fault state why (disagrees f theirs cause greeted refuses so) transport = absurd cc

-- the outcome of a link whose connection can be reported
pub record CanBeTold {L : Type 0} (of_link : LinkMembers L) (plan : Plan) (conn : ℕ) (link : L) (o : ConnectionOutcome)
    : Type 0 where
  pub can : CanReport plan conn o
  pub failed : IsFailureOutcome o → HasRisen 0 (of_link.failures link)
  pub works : (IsFailureOutcome o → ⊥) → of_link.failures link ≡ 0

refused-tells : {L : Type 0} (of_link : LinkMembers L) (plan : Plan) (app : Application) (conn : ℕ) (start now : L) (why : Cause)
    → of_link.failures start ≡ 0 → WasRefused of_link plan app start now why
    → CanBeTold of_link plan conn now (Unbound why)
refused-tells of_link plan app conn start now why none was = record {
  can = was.says;
  failed = λ transport. subst (λ (n : ℕ). HasRisen n (of_link.failures now)) none
      (was.cause.rose (transport-failed (app_table plan app) plan.service was.stream was.fault was.state why was.unbound transport));
  works = λ other. was.cause.stays (λ is. other (was.transport is)) ∙ none;
}

bound-tells : {C L : Type 0} (of_clock : ClockMembers C) (of_link : LinkMembers L) (plan : Plan) (clock : C) (app : Application)
    (conn : ℕ) (start now : L) (b : BoundConn) → application_in plan.applications conn ≡ Some app
    → WasServedBound of_clock of_link plan clock app start now b → CanBeTold of_link plan conn now (Bound b)
bound-tells of_clock of_link plan clock app conn start now b its_app was =
    let bound = was.bound in
    let served = was.served in
    let same = served.same_arrivals in
    let table : app_table was.opening.plan was.opening.app ≡ app_table plan app =
    ap (λ p. app_table p was.opening.app) bound.its_plan ∙ ap (λ a. app_table plan a) bound.its_app in
    record {
      can = record {
        app = app;
        its_app = its_app;
        arriving = (served.arrived.delivered.later, served.arrived.delivered.lived);
        table = served.table ∙ table ∙ sym bound.table ∙ sym same.table;
        policy = ap option_copied same.policy ∙ bound.policy;
      };
      failed = λ ended. subst (λ (n : ℕ). HasRisen n (of_link.failures now)) bound.failures (served.rose ended);
      works = λ other. served.stays (false_from_ne_true b.submissions.conn.ended other) ∙ bound.failures;
    }

became-told : {C L : Type 0} (of_clock : ClockMembers C) (of_link : LinkMembers L) (plan : Plan) (clock : C) (app : Application)
    (conn : ℕ) (start now : L) (o : ConnectionOutcome) → application_in plan.applications conn ≡ Some app
    → of_link.failures start ≡ 0 → IsConnectionOutcome of_clock of_link plan clock app start now o → CanBeTold of_link plan conn now o
became-told of_clock of_link plan clock app conn start now (Unbound why) its_app none was =
    refused-tells of_link plan app conn start now why none was
became-told of_clock of_link plan clock app conn start now (Bound b) its_app none was =
    bound-tells of_clock of_link plan clock app conn start now b its_app was

served-tells : {C L : Type 0} (of_clock : ClockMembers C) (of_link : LinkMembers L) (plan : Plan) (clock : C) (conn : ℕ)
    (s : ServedConn L) → WasServed of_clock of_link plan clock conn s → IsReportableServed of_link plan s
served-tells of_clock of_link plan clock conn s was =
    let told = became-told of_clock of_link plan clock was.app s.conn was.start s.link s.outcome
    (ap (λ n. application_in plan.applications n) was.number ∙ was.its_app) was.is_new.failures was.outcome in
    record { can = told.can; failed = told.failed; works = told.works }

pub all-tellable : {C L : Type 0} (of_clock : ClockMembers C) (of_link : LinkMembers L) (plan : Plan) (clock : C) (ends : List ℕ)
    (conns : List (ServedConn L)) → AllZip (WasServed of_clock of_link plan clock) ends conns → AreReportable of_link plan conns
all-tellable of_clock of_link plan clock [] [] zip = All-nil (IsReportableServed of_link plan)
all-tellable of_clock of_link plan clock [] (s ∷ conns) zip = absurd zip
all-tellable of_clock of_link plan clock (n ∷ ends) [] zip = absurd zip
all-tellable of_clock of_link plan clock (n ∷ ends) (s ∷ conns) zip =
    All-cons (IsReportableServed of_link plan) s conns (served-tells of_clock of_link plan clock n s zip.0)
    (all-tellable of_clock of_link plan clock ends conns zip.1)

-- if one reports it, a link failed
pub one-failed : {L : Type 0} (of_link : LinkMembers L) (plan : Plan) (conns : List (ServedConn L)) (s : ServedConn L)
    → AreReportable of_link plan conns → Contains conns s → IsFailureOutcome s.outcome → HasFailed of_link s
one-failed of_link plan conns s all among tells =
    (All-contains (IsReportableServed of_link plan) conns s all among).failed tells

-- if none reports it, none failed
pub none-failed : {L : Type 0} (of_link : LinkMembers L) (plan : Plan) (conns : List (ServedConn L))
    → AreReportable of_link plan conns → All (λ (s : ServedConn L). IsFailureOutcome s.outcome → ⊥) conns
    → All (HasNeverFailed of_link) conns
none-failed of_link plan [] all none = All-nil (HasNeverFailed of_link)
none-failed {L} of_link plan (s ∷ conns) all none =
    let tells = λ (t : ServedConn L). IsFailureOutcome t.outcome → ⊥ in
    All-cons (HasNeverFailed of_link) s conns
    ((All-head (IsReportableServed of_link plan) s conns all).works (All-head tells s conns none))
    (none-failed of_link plan conns (All-tail (IsReportableServed of_link plan) s conns all) (All-tail tells s conns none))

pub told-run : {L : Type 0} (of_link : LinkMembers L) (plan : Plan) (conns first second : List (ServedConn L))
    (text : List ℕ) (totals : List (ℕ × Counts)) (one : Bool) → first ≡ conns → second ≡ conns
    → AreReportable of_link plan conns
    → (one ≡ true → (s : ServedConn L) × Contains first s × IsFailureOutcome s.outcome)
    → (one ≡ false → All (λ (s : ServedConn L). IsFailureOutcome s.outcome → ⊥) first)
    → IsReportOfConns plan second text totals → IsReportOfRun of_link plan conns text totals one
told-run {L} of_link plan conns first second text totals one at-first at-second all if-failed if-works tells = record {
  tells = subst (λ (l : List (ServedConn L)). IsReportOfConns plan l text totals) at-second tells;
  one_failed = λ failed.
      let found = if-failed failed in
      let among = subst (λ (l : List (ServedConn L)). Contains l found.0) at-first found.1 in
      (found.0, among, one-failed of_link plan conns found.0 all among found.2);
  none_failed = λ works.
      none-failed of_link plan conns all
      (subst (λ (l : List (ServedConn L)). All (λ (s : ServedConn L). IsFailureOutcome s.outcome → ⊥) l) at-first (if-works works));
}
