-- The calls of a drill.
use Rattle.std.proofs.Common.{◌≡◌, ℕ, zero, suc, ◌+◌, ◌-◌, ◌*◌, ◌<◌, ◌≤◌, Bool, true, false, cond, List, [], ◌∷◌, ◌++◌, Option, Some}
use Rattle.std.proofs.Common.{inl, inr, length, map, refl, sym, ap, ◌∙◌, subst, arith, length-append}
use Rattle.std.specs.Prelude.{All}
use Rattle.std.specs.List.{AllZip, cons_option, filter_map, flat_map, range_with_len}
use Rattle.std.proofs.lemmas.Bool.{eq-eqb, ne_eqb}
use Rattle.std.proofs.lemmas.Option.{same_Some}
use Rattle.std.proofs.lemmas.List.{length-map}
use Rattle.std.proofs.lemmas.List.Elements.{All-cons, All-head, All-nil, All-tail}
use Rattle.std.proofs.lemmas.List.FromFn.{length-range_with_len}
use Rattle.mrpc_base.specs.Failures.{HasRisen}
use Rattle.mrpc_base.specs.declared.clock.Clock.{Ghosts as ClockMembers}
use Rattle.mrpc_base.specs.declared.link.Link.{Ghosts as LinkMembers}
use Rattle.app_program.specs.Programs.{Submission, program_submits}
use Rattle.app_stub.specs.Serving.{submission_of}
use Rattle.call_history.specs.Trace.{taken}
use Rattle.descriptor_ring.specs.declared.descriptor.Descriptor.{Descriptor}
use Rattle.policy_declarations.specs.declared.declaration.NamedPolicy.{NamedPolicy}
use Rattle.conn_core.specs.Connections.{Connection, conn_trace}
use Rattle.conn_core.specs.declared.answers.Ask.{Ask}
use Rattle.drill.specs.Drill.{applications, client_call_lines, client, client_and_echo, clients, drill, echo, link_of_client, named_acl, program}
use Rattle.run_plan.specs.Links.{all_ends, application_in}
use Rattle.run_plan.specs.declared.application.Application.{Application}
use Rattle.run_plan.specs.declared.application.Role.{Role}
use Rattle.run_plan.specs.declared.application.Role.TheVariants as role
use Rattle.run_plan.specs.declared.limits.TheConstants.{MAX_CONNECTIONS}
use Rattle.run_report.specs.Counting.{counted_in}
use Rattle.run_report.specs.declared.reported_connection.ReportedConnection.{ReportedConnection}
use Rattle.run_report.specs.declared.reported_connection.ReportedConnection.TheVariants as shown
use Rattle.service_loop.specs.Calls.{HasAcceptedAll, ask_of, asked}
use Rattle.service.specs.Served.{IsConnectionOutcome, WasServed, WasServedBound}
use Rattle.service.specs.declared.served.ConnectionOutcome.{ConnectionOutcome}
use Rattle.service.specs.declared.served.ConnectionOutcome.TheVariants.{Bound, Unbound}
use Rattle.service.specs.declared.served.ServedConn.{ServedConn}
use Rattle.service_threads.specs.Served.{HasRunAs, echo_on}
use Rattle.service_threads.specs.declared.served.BoundConn.{BoundConn}
use Rattle.run_driver.specs.Running.{HasNeverFailed, IsReportOfConn, IsReportOfOutcome, conns_by_number, conn_in}
use Rattle.telemetry.specs.Counts.{count_all}
use Rattle.telemetry.specs.declared.counts.What.TheVariants as what
use Rattle.drill.specs.Counting.{report_counts}
use Rattle.drill.specs.Holding.{IsNonHolding, HasNoHoldingPolicy, AreOwnNonHolding}
use Rattle.drill.specs.Runs.{IsReportedBound, IsReportOfPlan}
use Rattle.drill.proofs.Counted.{IsOfConnection, count-joined, took-of}
use Rattle.drill.proofs.Told.{of-connections}

-- ---- its policies

own-all : (calls : ℕ) (ns : List ℕ) → All (λ app. AreOwnNonHolding app.own) (flat_map (client_and_echo calls) ns)
own-all calls [] = All-nil (λ (app : Application). AreOwnNonHolding app.own)
own-all calls (n ∷ ns) =
    let rest : List Application = flat_map (client_and_echo calls) ns in
    All-cons (λ (app : Application). AreOwnNonHolding app.own) (client calls n) (echo n ∷ rest) tt
    (All-cons (λ (app : Application). AreOwnNonHolding app.own) (echo n) rest tt (own-all calls ns))

pub drill-never-holds : (calls : ℕ) → HasNoHoldingPolicy (drill calls)
drill-never-holds calls = record {
  declared = All-cons (λ (p : NamedPolicy). IsNonHolding p.policy) named_acl [] tt (All-nil (λ (p : NamedPolicy). IsNonHolding p.policy));
  own = own-all calls clients;
}

-- ---- its programs

submits-long : (calls number made : ℕ) (ks : List ℕ)
    → length (program_submits made (flat_map (client_call_lines calls number) ks)) ≡ length ks
submits-long calls number made [] = refl
submits-long calls number made (k ∷ ks) = let rest = submits-long calls number (made + 1 + 0) ks in omega (arith, rest)

submits-in : (calls number : ℕ) → length (program_submits 0 (program calls number)) ≡ calls
submits-in calls number = submits-long calls number 0 (range_with_len 1 calls) ∙ length-range_with_len 1 calls

-- ---- the calls of a connection whose link didn't fail

pub no-rise : HasRisen 0 0 → ⊥
no-rise (inl more) = omega (arith, more)
no-rise (inr more) = omega (arith, more)

works-on : (ended : Bool) (before now : ℕ) → before ≡ 0 → now ≡ 0 → (ended ≡ true → HasRisen before now) → ended ≡ false
works-on false before now none still rose = refl
works-on true before now none still rose =
    absurd (no-rise (subst (λ n. HasRisen n 0) none (subst (λ n. HasRisen before n) still (rose refl))))

all-accepted : (c : Connection) (submissions : List Descriptor) → HasAcceptedAll c submissions → c.ended ≡ false
    → length (taken (conn_trace c)) ≡ length submissions
all-accepted c submissions accepts working =
    let given : length accepts.rejected ≡ 0 = ap (λ (l : List Ask). length l) (accepts.all working) in
    let asks = ap (λ (l : List Ask). length l) accepts.in_order in
    let one = length-map submissions ask_of in
    let other = length-map (taken (conn_trace c)) asked in
    let both = length-append (map asked (taken (conn_trace c))) accepts.rejected in
    omega (arith, given, asks, one, other, both)

module _ {C L : Type 0} (of_clock : ClockMembers C) (of_link : LinkMembers L) (calls : ℕ) (clock : C) where
  -- a client's connection accepted the calls of its program
  client-took : (number : ℕ) (app : Application) (start now : L) (b : BoundConn) → app ≡ client calls number
      → WasServedBound of_clock of_link (drill calls) clock app start now b → of_link.failures now ≡ 0
      → length (taken (conn_trace b.submissions.conn)) ≡ calls
  client-took number app start now b same was never =
      let opening = was.opening in
      let its_role : opening.app.role ≡ role.Client (program calls number) =
      ap (λ (a : Application). a.role) (was.bound.its_app ∙ same) in
      let made : HasRunAs (role.Client (program calls number)) (echo_on opening) b =
      subst (λ (r : Role). HasRunAs r (echo_on opening) b) its_role was.served.did in
      let working : b.submissions.conn.ended ≡ false =
      works-on b.submissions.conn.ended (of_link.failures opening.begun.link) (of_link.failures now) was.bound.failures never
      was.served.rose in
      all-accepted b.submissions.conn b.submissions.calls.taken was.served.served.serving.calls working
      ∙ sym (length-map b.submissions.calls.taken submission_of)
      ∙ ap (λ (l : List Submission). length l) made.submitted ∙ submits-in calls number

  took-in : (number conn : ℕ) (app : Application) (start now : L) (outcome : ConnectionOutcome) (t : ReportedConnection)
      → app ≡ client calls number → IsConnectionOutcome of_clock of_link (drill calls) clock app start now outcome
      → of_link.failures now ≡ 0 → IsReportOfOutcome (drill calls) conn outcome t → IsOfConnection t → IsReportedBound t
      → count_all (counted_in t) what.Took ≡ calls
  took-in number conn app start now (Unbound why) (shown.Unbound n cause) same became never shows is bound = absurd bound
  took-in number conn app start now (Unbound why) (shown.Served s) same became never shows is bound = absurd shows
  took-in number conn app start now (Bound b) (shown.Unbound n cause) same became never shows is bound = absurd shows
  took-in number conn app start now (Bound b) (shown.Served s) same became never shows is bound =
      took-of s.calls.now is ∙ ap (λ (c : Connection). length (taken (conn_trace c))) shows.calls
      ∙ client-took number app start now b same became never

  -- the connection has the application of a client
  abbrev HasClient : ℕ → Type 0
  HasClient n = application_in (applications calls) (2 * n - 1) ≡ Some (client calls n)

  took-by : (n : ℕ) (s : ServedConn L) (t : ReportedConnection) → HasClient n
      → WasServed of_clock of_link (drill calls) clock (2 * n - 1) s → HasNeverFailed of_link s → IsReportOfConn (drill calls) s t
      → IsOfConnection t → IsReportedBound t → count_all (counted_in t) what.Took ≡ calls
  took-by n s t has was never shows is bound =
      let same : was.app ≡ client calls n = same_Some was.app (client calls n) (sym was.its_app ∙ has) in
      took-in n s.conn was.app was.start s.link s.outcome t same was.outcome never shows is bound

  -- this many calls for each client
  for_each : List ℕ → ℕ
  for_each [] = 0
  for_each (n ∷ ns) = calls + for_each ns

  all-took : (ns : List ℕ) (conns : List (ServedConn L)) (told : List ReportedConnection)
      → AllZip (WasServed of_clock of_link (drill calls) clock) (all_ends (map link_of_client ns)) conns
      → AllZip (IsReportOfConn (drill calls)) conns told → All (HasNeverFailed of_link) conns → All IsOfConnection told
      → All IsReportedBound told → All HasClient ns → for_each ns ≤ count_all (flat_map counted_in told) what.Took
  unfolding for_each
  all-took [] conns told served shows never is bound has = omega arith
  all-took (n ∷ ns) [] told served shows never is bound has = absurd served
  all-took (n ∷ ns) (s ∷ []) told served shows never is bound has = absurd served.1
  all-took (n ∷ ns) (s ∷ e ∷ conns) [] served shows never is bound has = absurd shows
  all-took (n ∷ ns) (s ∷ e ∷ conns) (t ∷ []) served shows never is bound has = absurd shows.1
  all-took (n ∷ ns) (s ∷ e ∷ conns) (t ∷ u ∷ told) served shows never is bound has =
      let here = took-by n s t (All-head HasClient n ns has) served.0 (All-head (HasNeverFailed of_link) s (e ∷ conns) never)
      shows.0 (All-head IsOfConnection t (u ∷ told) is) (All-head IsReportedBound t (u ∷ told) bound) in
      let later = all-took ns conns told served.1.1 shows.1.1
      (All-tail (HasNeverFailed of_link) e conns (All-tail (HasNeverFailed of_link) s (e ∷ conns) never))
      (All-tail IsOfConnection u told (All-tail IsOfConnection t (u ∷ told) is))
      (All-tail IsReportedBound u told (All-tail IsReportedBound t (u ∷ told) bound)) (All-tail HasClient n ns has) in
      let first = count-joined (counted_in t) (counted_in u ++ flat_map counted_in told) what.Took in
      let second = count-joined (counted_in u) (flat_map counted_in told) what.Took in
      omega (arith, here, later, first, second)

  -- ---- connections that are ordered already

  Numbered : ℕ → List (ServedConn L) → Type 0
  Numbered n [] = Unit {0}
  Numbered n (s ∷ conns) = (s.conn ≡ n) × Numbered (n + 1) conns

  numbered-so : (n k : ℕ) (conns : List (ServedConn L))
      → AllZip (WasServed of_clock of_link (drill calls) clock) (range_with_len n k) conns
      → Numbered n conns × (length conns ≡ k)
  unfolding Numbered
  numbered-so n zero [] served = (tt, refl)
  numbered-so n zero (s ∷ conns) served = absurd served
  numbered-so n (suc k) [] served = absurd served
  numbered-so n (suc k) (s ∷ conns) served =
      let rest = numbered-so (n + 1) k conns served.1 in
      ((served.0.number, rest.0), ap suc rest.1)

  conn-first : (n : ℕ) (s : ServedConn L) (conns : List (ServedConn L)) → s.conn ≡ n → conn_in (s ∷ conns) n ≡ Some s
  conn-first n s conns same = ap (λ b. cond b (Some s) (conn_in conns n)) (eq-eqb s.conn n same)

  conn-later : (n : ℕ) (s : ServedConn L) (conns : List (ServedConn L)) → s.conn < n
      → conn_in (s ∷ conns) n ≡ conn_in conns n
  conn-later n s conns less = ap (λ b. cond b (Some s) (conn_in conns n)) (ne_eqb s.conn n (λ same. omega (arith, less, same)))

  none-left : (n k : ℕ) → filter_map (conn_in {L = L} []) (range_with_len n k) ≡ []
  none-left n zero = refl
  none-left n (suc k) = none-left (n + 1) k

  rest-same : (s : ServedConn L) (conns : List (ServedConn L)) (n k : ℕ) → s.conn < n
      → filter_map (conn_in (s ∷ conns)) (range_with_len n k) ≡ filter_map (conn_in conns) (range_with_len n k)
  rest-same s conns n zero less = refl
  rest-same s conns n (suc k) less =
      ap (λ (o : Option (ServedConn L)). cons_option o (filter_map (conn_in (s ∷ conns)) (range_with_len (n + 1) k)))
      (conn-later n s conns less)
      ∙ ap (λ (l : List (ServedConn L)). cons_option (conn_in conns n) l) (rest-same s conns (n + 1) k (omega (arith, less)))

  in-order : (conns : List (ServedConn L)) (n k : ℕ) → length conns ≤ k → Numbered n conns
      → filter_map (conn_in conns) (range_with_len n k) ≡ conns
  unfolding Numbered
  in-order [] n k few numbered = none-left n k
  in-order (s ∷ conns) n zero few numbered = absurd (omega (arith, few))
  in-order (s ∷ conns) n (suc k) few numbered =
      ap (λ (o : Option (ServedConn L)). cons_option o (filter_map (conn_in (s ∷ conns)) (range_with_len (n + 1) k)))
      (conn-first n s conns numbered.0)
      ∙ ap (λ (l : List (ServedConn L)). s ∷ l)
      (rest-same s conns (n + 1) k (omega (arith, numbered.0)) ∙ in-order conns (n + 1) k (omega (arith, few)) numbered.1)

  drill-in-order : (conns : List (ServedConn L))
      → AllZip (WasServed of_clock of_link (drill calls) clock) (all_ends (map link_of_client clients)) conns → conns_by_number conns ≡ conns
  drill-in-order conns served =
      let so = numbered-so 1 8 conns served in
      in-order conns 1 MAX_CONNECTIONS (omega (arith, so.1)) so.0

  -- ---- all its calls

  clients-there : All HasClient clients
  clients-there = All-cons HasClient 1 (2 ∷ 3 ∷ 4 ∷ []) refl (All-cons HasClient 2 (3 ∷ 4 ∷ []) refl
      (All-cons HasClient 3 (4 ∷ []) refl (All-cons HasClient 4 [] refl (All-nil HasClient))))

  four : for_each clients ≡ 4 * calls
  unfolding for_each
  four = omega arith

  pub drill-takes : (conns : List (ServedConn L)) (told : List ReportedConnection)
      → IsReportOfPlan of_clock of_link (drill calls) clock conns told → All (HasNeverFailed of_link) conns
      → All IsReportedBound told → 4 * calls ≤ (report_counts told).took
  drill-takes conns told tells never bound =
      let shows : AllZip (IsReportOfConn (drill calls)) conns told =
      subst (λ (ss : List (ServedConn L)). AllZip (IsReportOfConn (drill calls)) ss told) (drill-in-order conns tells.served) tells.shows in
      let most = all-took clients conns told tells.served shows never (of-connections (drill calls) conns told shows) bound clients-there in
      omega (arith, most, four)
