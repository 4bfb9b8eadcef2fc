-- What the lines of a connection count as.
use Rattle.std.proofs.Common.{◌≡◌, ℕ, ◌+◌, false, cond, List, [], ◌∷◌, ◌++◌}
use Rattle.std.proofs.Common.{length, map, reverse, refl, sym, ap, ◌∙◌, arith, length-append, append-nil}
use Rattle.std.specs.Prelude.{All}
use Rattle.std.specs.List.{flat_map}
use Rattle.std.proofs.lemmas.List.{length-map, reverse-append, reverse-reverse}
use Rattle.std.proofs.lemmas.List.Concat.{flat_map-append}
use Rattle.std.proofs.lemmas.List.Elements.{All-head, All-tail}
use Rattle.std.proofs.lemmas.List.Sums.{sum_by-append, sum_by-cons}
use Rattle.call_history.specs.Trace.{Trace, taken, pending_calls}
use Rattle.call_history.specs.Legal.{IsLegalPrefix}
use Rattle.call_history.specs.Rules.{JudgeContext}
use Rattle.call_history.specs.declared.happening.Happening.{Happening}
use Rattle.call_history.specs.declared.happening.Happening.TheVariants.{Took, Refused, Sent}
use Rattle.call_history.specs.declared.happening.AcceptedCall.{AcceptedCall}
use Rattle.conn_core.specs.Connections.{Connection, IsConnection, conn_trace, judge_context}
use Rattle.run_report.specs.Counting.{counted, counted_in, counted_on, pending_counted}
use Rattle.run_report.specs.declared.reported_connection.ReportedConnection.{ReportedConnection}
use Rattle.run_report.specs.declared.reported_connection.ReportedConnection.TheVariants.{Served, Unbound}
use Rattle.telemetry.specs.Counts.{CountedEvent as Count, all_counts, count_all, is_what}
use Rattle.telemetry.specs.declared.counts.What.{What}
use Rattle.telemetry.specs.declared.counts.What.TheVariants as what
use Rattle.drill.specs.Counting.{AreBalanced, report_counts}
use Rattle.drill.proofs.Fates.{RefusesOne, SendsOne, TakesOne, one-refused, one-sent, one-taken}

-- ---- counts of two lists

pub count-joined : (a b : List Count) (w : What) → count_all (a ++ b) w ≡ count_all a w + count_all b w
count-joined a b w = sum_by-append (λ (h : Count). cond (is_what w h.what) 1 0) a b

-- ---- the lines of a history

-- what they count as, given the accepted calls
abbrev pub lines_of : List AcceptedCall → Trace → List Count
lines_of calls past = flat_map (counted calls) (reverse past)

one-line : (calls : List AcceptedCall) (h : Happening) (past : Trace) (w : What)
    → count_all (lines_of calls (h ∷ past)) w ≡ count_all (lines_of calls past) w + count_all (counted calls h) w
one-line calls h past w =
    let back : reverse (h ∷ past) ≡ reverse past ++ h ∷ [] = reverse-append (h ∷ []) past in
    let whole : lines_of calls (h ∷ past) ≡ lines_of calls past ++ counted calls h =
    ap (flat_map (counted calls)) back ∙ flat_map-append (counted calls) (reverse past) (h ∷ [])
    ∙ ap (λ (l : List Count). lines_of calls past ++ l) (append-nil (counted calls h)) in
    ap (λ (l : List Count). count_all l w) whole ∙ count-joined (lines_of calls past) (counted calls h) w

took-lines : (calls : List AcceptedCall) (past : Trace) → count_all (lines_of calls past) what.Took ≡ length (taken past)
took-lines calls [] = refl
took-lines calls (Took call ∷ past) =
    let more = one-line calls (Took call) past what.Took in
    let rest = took-lines calls past in
    let long : length (taken past ++ call ∷ []) ≡ length (taken past) + 1 = length-append (taken past) (call ∷ []) in
    omega (arith, more, rest, long)
took-lines calls (x ∷ past) =
    let more = one-line calls x past what.Took in
    let rest = took-lines calls past in
    omega (arith, more, rest)

none-stands : (calls : List AcceptedCall) (h : Happening) → count_all (counted calls h) what.Standing ≡ 0
none-stands calls (Took call) = refl
none-stands calls (Sent seq bytes) = refl
none-stands calls (Refused seq why) = refl
none-stands calls h = refl

no-standing-lines : (calls : List AcceptedCall) (past : Trace) → count_all (lines_of calls past) what.Standing ≡ 0
no-standing-lines calls [] = refl
no-standing-lines calls (x ∷ past) =
    let more = one-line calls x past what.Standing in
    let none = none-stands calls x in
    let rest = no-standing-lines calls past in
    omega (arith, more, none, rest)

-- the lines of fates, and the pending calls, are as many as the accepted calls
fate-lines : (u : JudgeContext) (calls : List AcceptedCall) (past : Trace) → TakesOne → SendsOne → RefusesOne → IsLegalPrefix u past
    → length (taken past) ≡ count_all (lines_of calls past) what.Sent + count_all (lines_of calls past) what.Refused + length (pending_calls past)
fate-lines u calls [] takes sends refuses prefix = refl
fate-lines u calls (Took call ∷ past) takes sends refuses prefix =
    let sent = one-line calls (Took call) past what.Sent in
    let refused = one-line calls (Took call) past what.Refused in
    let rest = fate-lines u calls past takes sends refuses prefix.0 in
    let long : length (taken past ++ call ∷ []) ≡ length (taken past) + 1 = length-append (taken past) (call ∷ []) in
    let stands = one-taken u past call takes prefix in
    omega (arith, sent, refused, rest, long, stands)
fate-lines u calls (Sent seq bytes ∷ past) takes sends refuses prefix =
    let sent = one-line calls (Sent seq bytes) past what.Sent in
    let refused = one-line calls (Sent seq bytes) past what.Refused in
    let rest = fate-lines u calls past takes sends refuses prefix.0 in
    let stands = one-sent u past seq bytes sends prefix in
    omega (arith, sent, refused, rest, stands)
fate-lines u calls (Refused seq why ∷ past) takes sends refuses prefix =
    let sent = one-line calls (Refused seq why) past what.Sent in
    let refused = one-line calls (Refused seq why) past what.Refused in
    let rest = fate-lines u calls past takes sends refuses prefix.0 in
    let stands = one-refused u past seq why takes refuses prefix in
    omega (arith, sent, refused, rest, stands)
fate-lines u calls (x ∷ past) takes sends refuses prefix =
    let sent = one-line calls x past what.Sent in
    let refused = one-line calls x past what.Refused in
    let rest = fate-lines u calls past takes sends refuses prefix.0 in
    omega (arith, sent, refused, rest)

-- ---- the lines of the pending calls

row-line : (calls : List AcceptedCall) (call : ℕ × ℕ) (row : List (ℕ × ℕ)) (w : What)
    → count_all (map (pending_counted calls) (call ∷ row)) w
    ≡ cond (is_what w what.Standing) 1 0 + count_all (map (pending_counted calls) row) w
row-line calls call row w = sum_by-cons (λ (h : Count). cond (is_what w h.what) 1 0)
    (pending_counted calls call) (map (pending_counted calls) row)

row-standing : (calls : List AcceptedCall) (row : List (ℕ × ℕ)) → count_all (map (pending_counted calls) row) what.Standing ≡ length row
row-standing calls [] = refl
row-standing calls (call ∷ row) =
    let more = row-line calls call row what.Standing in
    let rest = row-standing calls row in
    omega (arith, more, rest)

row-none : (calls : List AcceptedCall) (row : List (ℕ × ℕ)) (w : What) → is_what w what.Standing ≡ false
    → count_all (map (pending_counted calls) row) w ≡ 0
row-none calls [] w other = refl
row-none calls (call ∷ row) w other =
    let more = row-line calls call row w ∙ ap (λ b. cond b 1 0 + count_all (map (pending_counted calls) row) w) other in
    let rest = row-none calls row w other in
    omega (arith, more, rest)

-- ---- all lines of a connection

module _ (c : Connection) (is : IsConnection c) where
  its-lines : (w : What) → count_all (counted_on c) w
      ≡ count_all (lines_of (taken (conn_trace c)) (conn_trace c)) w
      + count_all (map (pending_counted (taken (conn_trace c))) c.chain.row) w
  its-lines w =
      let calls : List AcceptedCall = taken (conn_trace c) in
      let same : flat_map (counted calls) c.happenings ≡ lines_of calls (conn_trace c) =
      ap (flat_map (counted calls)) (sym (reverse-reverse c.happenings)) in
      count-joined (flat_map (counted calls) c.happenings) (map (pending_counted calls) c.chain.row) w
      ∙ ap (λ (l : List Count). count_all l w + count_all (map (pending_counted calls) c.chain.row) w) same

  pub took-of : count_all (counted_on c) what.Took ≡ length (taken (conn_trace c))
  took-of =
      let calls : List AcceptedCall = taken (conn_trace c) in
      let lines = its-lines what.Took in
      let took = took-lines calls (conn_trace c) in
      let none = row-none calls c.chain.row what.Took refl in
      omega (arith, lines, took, none)

  pub standing-of : count_all (counted_on c) what.Standing ≡ length c.chain.row
  standing-of =
      let calls : List AcceptedCall = taken (conn_trace c) in
      let lines = its-lines what.Standing in
      let none = no-standing-lines calls (conn_trace c) in
      let row = row-standing calls c.chain.row in
      omega (arith, lines, none, row)

  pub connection-adds-up : TakesOne → SendsOne → RefusesOne → AreBalanced (all_counts (counted_on c))
  connection-adds-up takes sends refuses =
      let calls : List AcceptedCall = taken (conn_trace c) in
      let took = took-of in
      let stands = standing-of in
      let sent = its-lines what.Sent in
      let refused = its-lines what.Refused in
      let sent_none = row-none calls c.chain.row what.Sent refl in
      let refused_none = row-none calls c.chain.row what.Refused refl in
      let fates = fate-lines (judge_context c) calls (conn_trace c) takes sends refuses is.is_valid_state.legal.prefix in
      let long : length c.chain.row ≡ length (pending_calls (conn_trace c)) =
      sym (length-map c.chain.row (λ (call : ℕ × ℕ). call.0)) ∙ ap length is.is_valid_state.calls
      ∙ length-map (pending_calls (conn_trace c)) (λ (call : AcceptedCall). call.seq) in
      omega (arith, took, stands, sent, refused, sent_none, refused_none, fates, long)

-- ---- all lines of a run

-- the invariant of connections holds for a bound connection
abbrev pub IsOfConnection : ReportedConnection → Type 0
IsOfConnection (Unbound conn why) = Unit {0}
IsOfConnection (Served served) = IsConnection served.calls.now

shown-adds-up : (s : ReportedConnection) → TakesOne → SendsOne → RefusesOne → IsOfConnection s → AreBalanced (all_counts (counted_in s))
shown-adds-up (Unbound conn why) takes sends refuses is = refl
shown-adds-up (Served served) takes sends refuses is = connection-adds-up served.calls.now is takes sends refuses

pub run-adds-up : (told : List ReportedConnection) → TakesOne → SendsOne → RefusesOne → All IsOfConnection told
    → AreBalanced (report_counts told)
run-adds-up [] takes sends refuses all = refl
run-adds-up (s ∷ told) takes sends refuses all =
    let here : List Count = counted_in s in
    let later : List Count = flat_map counted_in told in
    let one = shown-adds-up s takes sends refuses (All-head IsOfConnection s told all) in
    let rest = run-adds-up told takes sends refuses (All-tail IsOfConnection s told all) in
    let took = count-joined here later what.Took in
    let sent = count-joined here later what.Sent in
    let refused = count-joined here later what.Refused in
    let stands = count-joined here later what.Standing in
    omega (arith, one, rest, took, sent, refused, stands)
