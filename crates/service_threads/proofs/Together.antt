-- A reconciled connection is what a run did on it.
use Rattle.std.proofs.Common.{◌≡◌, ◌≤◌, ◌<◌, inl, inr, ℕ, Bool, true, false, List, [], ◌++◌, length, map, reverse}
use Rattle.std.proofs.Common.{Option, Some, None, refl, sym, ap, subst, ◌∙◌, append-nil, arith}
use Rattle.std.specs.Io.KnownBytes.{Appends}
use Rattle.std.specs.Prelude.{All, IfSome, IsSomeAnd, IsPermutation, option_to_list}
use Rattle.std.specs.List.{AllZip}
use Rattle.std.proofs.lemmas.List.{append_cancel_left}
use mathlib.Core.List.{IsPrefix}
use Rattle.mrpc_base.specs.Failures.{HasRisen}
use Rattle.mrpc_base.specs.declared.clock.Clock.{Ghosts as ClockMembers}
use Rattle.mrpc_base.specs.declared.link.Link.{Ghosts as LinkMembers}
use Rattle.mrpc_base.specs.declared.tickets.Tickets.{Ghosts as TicketMembers}
use Rattle.mrpc_base.specs.declared.tickets.TheConstants.{WINDOWS}
use Rattle.mrpc_table.specs.declared.table.Table.{Table}
use Rattle.call_history.specs.Frames.{frames_of_trace}
use Rattle.call_history.specs.Tickets.{tickets_of_trace}
use Rattle.conn_core.specs.Connections.{Connection, conn_trace, conn_frames}
use Rattle.conn_core.specs.ConnectionSteps.{HasDrawnInWindow}
use Rattle.tenant_quota.specs.Drawing.{AreLater, Drawing, tickets_of_tenant}
use Rattle.message_delivery.specs.Arriving.{HaveSameIdentity, IsComplete, IsArrivalTrace}
use Rattle.message_delivery.specs.Noticing.{IsReclaiming, AreNoticesOf, IsNoticeOf, notices_of, sent_numbers}
use Rattle.message_delivery.specs.declared.arrivals.StreamState.TheVariants.{Ended}
use Rattle.shared_heap.specs.Fresh.{HeapId}
use Rattle.message_delivery.specs.declared.arrivals.PlacedMessage.{PlacedMessage}
use Rattle.message_delivery.specs.declared.notices.Notices.{Notices}
use Rattle.run_plan.specs.declared.application.Role.{Role}
use Rattle.run_plan.specs.declared.application.Role.TheVariants as role
use Rattle.app_stub.specs.Echoing.{Echo}
use Rattle.app_stub.specs.Serving.{submission_of}
use Rattle.app_stub.specs.declared.port.AppEnd.{AppEnd}
use Rattle.app_stub.specs.declared.port.AppPort.{AppPort}
use Rattle.app_stub.specs.declared.port.AppSent.{AppSent}
use Rattle.link_queue.specs.Known.{HasGrownBy}
use Rattle.link_queue.specs.Queueing.{QueueLinkState}
use Rattle.link_queue.specs.Writers.{inner_start_of}
use Rattle.link_queue.specs.declared.writer_end.WriterEnd.{WriterEnd}
use Rattle.service_loop.specs.Calls.{timestamps_at_calls, timestamps_in}
use Rattle.service_loop.specs.Delivering.{HaveAdvanced, held_numbers, message_blocks, placed_messages_of}
use Rattle.service_loop.specs.Rounds.{HasAdvanced, IsFinished, IsConsistent, weight_of_visits}
use Rattle.service_wiring.specs.Applications.{HasRunRole, HasCompleted}
use Rattle.service_wiring.specs.declared.closed_connection.ClosedConnection.{ClosedConnection}
use Rattle.service_threads.specs.Closings.{IsLeft, Opening}
use Rattle.service_threads.specs.Parts.{AreReconciled, HasPassed}
use Rattle.service_threads.specs.Served.{HasArrivedFrom, HasRunAs, HasServed, WasDelivered, WasHanded, echo_on}
use Rattle.service_threads.specs.declared.served.BoundConn.{BoundConn}
use Rattle.service_threads.proofs.Accounts.{account-of}
use Rattle.service_threads.proofs.BeforeMeeting.{goes-on, on-some, over-is, share-is, whole-is}
use Rattle.service_threads.proofs.Members.{AreSeats, IsQueue, told-later}

-- ---- lists

-- a list with a prefix is the prefix and a suffix
prefix-rest : {A : Type 0} (front whole : List A) → IsPrefix front whole → (rest : List A) × (whole ≡ front ++ rest)
prefix-rest front whole p = (p.0, sym p.1)

nothing-more : {A : Type 0} (front rest : List A) → front ≡ front ++ rest → rest ≡ []
nothing-more front rest same = sym (append_cancel_left front [] rest (append-nil front ∙ same))

-- ---- the application

did-as : {F : Type 0} (r : Role) (T : Table) (port : AppPort F) (end : AppEnd) (sent : AppSent) (e : Echo)
    (b : BoundConn) → HasRunRole r T port end sent → b.note ≡ end.note → b.reader ≡ end.reader
    → b.notices.taken ≡ end.notices.taken → b.blocks.taken ≡ end.blocks.taken
    → b.submissions.calls.taken ≡ sent.calls.items → b.reclaims.numbers.taken ≡ sent.reclaims.items
    → e ≡ record { table = T; heap = port.writer.heap.words; receive = port.reader.heap.words; ring = port.capacity }
    → HasRunAs r e b
did-as (role.Client program) T port end sent e b did note reader notices blocks calls returned echo = record {
  stored = ap (λ n. n.stores) note ∙ did.stores;
  submitted = ap (λ xs. map submission_of xs) calls ∙ did.sent.calls;
  returned = returned ∙ did.sent.reclaims ∙ sym (rw (notices, blocks) refl);
}
did-as (role.Server program) T port end sent e b did note reader notices blocks calls returned echo = record {
  stored = ap (λ n. n.stores) note ∙ did.stores ∙ sym (rw notices refl);
  submitted = ap (λ xs. map submission_of xs) calls ∙ did.sent.calls ∙ sym (rw notices refl);
  returned = returned ∙ did.sent.reclaims ∙ sym (rw (notices, blocks) refl);
}
did-as role.Echo T port end sent e b did note reader notices blocks calls returned echo =
    (rw (echo, notices, note, calls, reader) did.echoed, returned ∙ did.sent.reclaims ∙ sym (rw (notices, blocks) refl))

-- ---- notices

-- if nothing is pending and no number is owed, each message was sent, with its number
all-told : (heap : HeapId) (placed : List PlacedMessage) (n : Notices) → AreNoticesOf heap placed n → n.waiting.items ≡ []
    → n.owed ≡ None → AllZip IsNoticeOf placed (notices_of n) × (sent_numbers n ≡ message_blocks placed)
all-told heap placed n h waiting owed =
    let same : placed ≡ h.past = h.all ∙ ap (λ xs. h.past ++ xs) waiting ∙ append-nil h.past in (
      subst (λ xs. AllZip IsNoticeOf xs (notices_of n)) (sym same) h.told,
      sym (append-nil (sent_numbers n)) ∙ sym (ap (λ o. sent_numbers n ++ option_to_list o) owed) ∙ sym h.numbers
          ∙ sym (ap (λ xs. message_blocks xs) same),
    )

-- ---- tickets

drawn-so : (tenant window : ℕ) (before after : Connection) (told told' : Option (List ℕ)) (earlier now : List ℕ)
    → told ≡ Some earlier → told' ≡ Some now → tickets_of_trace tenant window (conn_trace before) ≡ []
    → HasDrawnInWindow tenant window before after told told'
    → told' ≡ Some (earlier ++ tickets_of_trace tenant window (conn_trace after))
drawn-so tenant window before after told told' earlier now is is' none draws =
    let d = subst (λ o. IsSomeAnd o (λ earlier. (more : List ℕ)
    × (tickets_of_trace tenant window (conn_trace after) ≡ tickets_of_trace tenant window (conn_trace before) ++ more)
    × (now ≡ earlier ++ more))) is
    (subst (λ o'. IfSome o' (λ now. IsSomeAnd told (λ earlier. (more : List ℕ)
    × (tickets_of_trace tenant window (conn_trace after) ≡ tickets_of_trace tenant window (conn_trace before) ++ more)
    × (now ≡ earlier ++ more)))) is' draws) in
    is' ∙ ap Some (d.2 ∙ ap (λ xs. earlier ++ xs) (sym (d.1 ∙ ap (λ xs. xs ++ d.0) none)))

-- ---- frames

frames-none : (c : Connection) → c.happenings ≡ [] → conn_frames c ≡ []
frames-none c none = ap (λ h. frames_of_trace c.table c.conn (reverse h)) none

tickets-none : (tenant window : ℕ) (c : Connection) → c.happenings ≡ []
    → tickets_of_trace tenant window (conn_trace c) ≡ []
tickets-none tenant window c none = ap (λ h. tickets_of_trace tenant window (reverse h)) none

-- ---- failures

rose-counts : (x y : ℕ) → x ≡ 0 → HasRisen x y → 0 < y
rose-counts x y none (inl less) = omega arith
rose-counts x y none (inr most) = omega arith

is-false : (x : Bool) → (x ≡ true → ⊥) → x ≡ false
is-false true never = absurd (never refl)
is-false false never = refl

fails-when : (failed ended : Bool) → (failed ≡ false → ended ≡ false) → ended ≡ true → failed ≡ true
fails-when true ended works is = refl
fails-when false ended works is = absurd (let wrong : true ≡ false = sym is ∙ works refl in cc)

works-if : (failed ended : Bool) → (failed ≡ true → ended ≡ true) → ended ≡ false → failed ≡ false
works-if true ended ends is = absurd (let wrong : true ≡ false = sym (ends refl) ∙ is in cc)
works-if false ended ends is = refl

-- ---- everything together

module _ {C L : Type 0} {of_clock : ClockMembers C} {of_quotas : TicketMembers (List Drawing)}
    {of_link : LinkMembers QueueLinkState} {g : LinkMembers L} (o : Opening C L) (closed : ClosedConnection) (end : AppEnd)
    (w : WriterEnd L g) (left : IsLeft of_clock of_quotas of_link o closed end w) (queue : IsQueue of_link)
    (quotas : AreSeats of_quotas) (memory : closed.memory ≡ false) (sent : AppSent) (is : end.sent ≡ Some sent)
    (failed : Bool) (now : L) (passed : HasPassed g (inner_start_of w) closed.passed failed now) (b : BoundConn)
    (met : AreReconciled closed.submissions closed.deliveries closed.share end sent failed b) where
  on : HasAdvanced of_clock of_quotas of_link left.first left.closed_of.last
  on = goes-on o closed end w left queue memory

  whole : IsConsistent of_clock of_quotas of_link left.closed_of.last
  whole = whole-is o closed end w left queue memory

  over : IsFinished of_clock of_quotas of_link left.closed_of.last
  over = over-is o closed end w left queue memory

  -- ---- the connection

  frames-same : conn_frames b.submissions.conn ≡ conn_frames left.closed_of.last.submissions.conn
  frames-same = ap conn_frames met.knows.conn ∙ met.fails.frames ∙ ap (λ s. conn_frames s.conn) left.closed_of.parts.submissions

  tickets-same : (tenant window : ℕ) → tickets_of_trace tenant window (conn_trace b.submissions.conn)
      ≡ tickets_of_trace tenant window (conn_trace left.closed_of.last.submissions.conn)
  tickets-same tenant window = ap (λ c. tickets_of_trace tenant window (conn_trace c)) met.knows.conn
      ∙ met.fails.tickets tenant window
      ∙ ap (λ s. tickets_of_trace tenant window (conn_trace s.conn)) left.closed_of.parts.submissions

  moments-same : timestamps_in (conn_trace b.submissions.conn) ≡ timestamps_in (conn_trace left.closed_of.last.submissions.conn)
  moments-same = ap (λ c. timestamps_in (conn_trace c)) met.knows.conn ∙ met.fails.moments
      ∙ ap (λ s. timestamps_in (conn_trace s.conn)) left.closed_of.parts.submissions

  at-calls-same : timestamps_at_calls (conn_trace b.submissions.conn)
      ≡ timestamps_at_calls (conn_trace left.closed_of.last.submissions.conn)
  at-calls-same = ap (λ c. timestamps_at_calls (conn_trace c)) met.knows.conn ∙ met.fails.at_calls
      ∙ ap (λ s. timestamps_at_calls (conn_trace s.conn)) left.closed_of.parts.submissions

  clock-same : left.closed_of.last.clock.now ≡ o.begun.clock
  clock-same = left.closed_of.turned.same.clock ∙ left.conn.its_clock

  -- ---- its end

  learnt : left.closed_of.last.submissions.conn.ended ≡ true → failed ≡ true
  learnt ended =
      let rose = on.cause.rose (left.conn.working, ended) in
      let counts = rose-counts (of_link.failures left.first.link) (of_link.failures left.closed_of.last.link)
      (queue.failures left.first.link ∙ left.failures) rose in
      passed.learnt (left.closed_of.parts.counted (subst (λ n. 0 < n) (queue.failures left.closed_of.last.link) counts))

  ended-when : failed ≡ true → b.submissions.conn.ended ≡ true
  ended-when fails = ap (λ c. c.ended) met.knows.conn ∙ met.fails.ends fails

  works-when : failed ≡ false → b.submissions.conn.ended ≡ false
  works-when works = ap (λ c. c.ended) met.knows.conn ∙ ap (λ c. c.ended) (met.fails.works works)
      ∙ ap (λ s. s.conn.ended) left.closed_of.parts.submissions
      ∙ is-false left.closed_of.last.submissions.conn.ended
      (λ ended. let wrong : true ≡ false = sym (learnt ended) ∙ works in cc)

  failed-when : b.submissions.conn.ended ≡ true → failed ≡ true
  failed-when = fails-when failed b.submissions.conn.ended works-when

  working-when : b.submissions.conn.ended ≡ false → failed ≡ false
  working-when = works-if failed b.submissions.conn.ended ended-when

  -- ---- what was sent

  all-handed : closed.passed.handed ≡ conn_frames b.submissions.conn
  all-handed =
      let first = left.first in
      let last = left.closed_of.last in
      left.closed_of.parts.handed ∙ sym (queue.handed last.link) ∙ on.handed.2
      ∙ ap (λ xs. xs ++ on.handed.0) (queue.handed first.link ∙ left.handed)
      ∙ sym (frames-same ∙ on.handed.1 ∙ ap (λ xs. xs ++ on.handed.0) (frames-none first.submissions.conn left.conn.nothing))

  was-handed : WasHanded g o now b
  was-handed = record {
    passed = passed.sent;
    handed = passed.handed ∙ ap (λ l. g.handed l ++ passed.sent) left.start;
    in_order = subst (λ xs. IsPrefix passed.sent xs) all-handed passed.in_order;
    all = λ works. passed.all_handed (working-when works) ∙ all-handed;
  }

  -- ---- arrivals

  gone : HaveAdvanced o.begun.life [] [] (of_link.given left.first.link) (of_link.given left.closed_of.last.link)
      left.closed_of.last.deliveries
  gone = on.delivers o.begun.life [] [] left.conn.delivered

  given-is : closed.passed.given ≡ gone.piece
  given-is =
      let first = left.first in
      let last = left.closed_of.last in
      let one = subst (λ x. Appends x (of_link.given last.link) gone.piece) (queue.given first.link) gone.came in
      let two = subst (λ x. Appends (Some first.link.given) x gone.piece) (queue.given last.link) one in
      left.closed_of.parts.given ∙ two ∙ ap (λ xs. xs ++ gone.piece) left.given

  rest-is : (rest : List ℕ) × (passed.came ≡ gone.piece ++ rest)
  rest-is = prefix-rest gone.piece passed.came (subst (λ xs. IsPrefix xs passed.came) given-is passed.given_first)

  arrivals-same : b.arrivals ≡ left.closed_of.last.deliveries.arrivals
  arrivals-same = met.arrivals ∙ ap (λ d. d.arrivals) left.closed_of.parts.deliveries

  same-arrivals : HaveSameIdentity o.begun.arrivals b.arrivals
  same-arrivals =
      let first = left.conn.same in
      let last = left.closed_of.turned.same.deliveries.arrivals in
      subst (λ a. HaveSameIdentity o.begun.arrivals a) (sym arrivals-same) (record {
        table = last.table ∙ first.table;
        policy = last.policy ∙ first.policy;
        conn = last.conn ∙ first.conn;
        words = last.words ∙ first.words;
        heap = last.heap ∙ first.heap;
      })

  was-delivered : WasDelivered o.begun.life gone.piece b
  was-delivered =
      let last = left.closed_of.last in
      let there = gone.delivered in
      let ended = there.closed (inl over.notices) in
      let told = all-told last.deliveries.arrivals.writer.heap (placed_messages_of gone.later.fates) last.deliveries.notices
      there.told ended.waiting ended.owed in
      record {
        later = gone.later;
        lives = gone.lives;
        numbers = gone.more;
        back = gone.gained;
        lived = subst (λ a. IsArrivalTrace gone.later a) (sym arrivals-same) there.lived;
        all = subst (λ a. IsComplete a) (sym arrivals-same) ended.all;
        told = subst (λ xs. AllZip IsNoticeOf (placed_messages_of gone.later.fates) xs)
            (sym (met.notices ∙ met.told ∙ ap (λ d. notices_of d.notices) left.closed_of.parts.deliveries)) told.0;
        blocks = met.blocks ∙ met.numbers ∙ ap (λ d. sent_numbers d.notices) left.closed_of.parts.deliveries ∙ told.1;
        returned = met.reclaiming gone.more gone.gained
            (subst (λ d. IsReclaiming gone.more gone.gained d.reclaims) (sym left.closed_of.parts.deliveries) there.returned);
        held = subst (λ a. IsPermutation (message_blocks (placed_messages_of gone.later.fates))
            (held_numbers a.inbound.heap.held ++ gone.gained)) (sym arrivals-same) there.held;
      }

  queue-ended : b.arrivals.stream ≡ Ended → closed.passed.ended ≡ true
  queue-ended ended =
      let last = left.closed_of.last in
      left.closed_of.parts.ended ∙ sym (queue.ended last.link)
      ∙ whole.finished (sym (ap (λ a. a.stream) arrivals-same) ∙ ended)

  arrived : HasArrivedFrom g o now b
  arrived = record {
    piece = gone.piece;
    rest = rest-is.0;
    came = subst (λ l. HasGrownBy (g.given l) (g.given now) (gone.piece ++ rest-is.0)) left.start
        (subst (λ bytes. HasGrownBy (g.given (inner_start_of w)) (g.given now) bytes) rest-is.1 passed.given);
    delivered = was-delivered;
    whole = λ ended. nothing-more gone.piece rest-is.0
        (sym given-is ∙ passed.all_came (queue-ended ended) ∙ rest-is.1);
    ended = λ ended. passed.ended (queue-ended ended);
    failed = λ fails. ended-when (learnt (whole.failed (sym (ap (λ a. a.stream) arrivals-same) ∙ fails)));
  }

  -- ---- the seats

  seats-later : AreLater o.begun.seats closed.seats
  seats-later =
      let first = left.first in
      subst (λ seats. AreLater seats closed.seats) left.conn.its_seats
      (subst (λ seats. AreLater first.tickets seats) (sym left.closed_of.parts.seats)
      (quotas.later first.tickets left.closed_of.last.tickets
      (left.closed_of.turned.same.tickets first.tickets (quotas.itself first.tickets))))

  were-drawn : (tenant window : ℕ) (earlier : List ℕ) → tenant < length o.begun.seats → window < WINDOWS
      → tickets_of_tenant o.begun.seats tenant window ≡ Some earlier → tickets_of_tenant closed.seats tenant window
      ≡ Some (earlier ++ tickets_of_trace tenant window (conn_trace b.submissions.conn))
  were-drawn tenant window earlier known within told =
      let first = left.first in
      let last = left.closed_of.last in
      let drew = on.draws.drawn tenant window
      (quotas.knows first.tickets tenant (subst (λ seats. tenant < length seats) (sym left.conn.its_seats) known)) within in
      let too = told-later o.begun.seats closed.seats tenant window earlier seats-later told in
      let shown = drawn-so tenant window first.submissions.conn last.submissions.conn
      (of_quotas.drawn first.tickets tenant window) (of_quotas.drawn last.tickets tenant window) earlier too.0
      (quotas.drawn first.tickets tenant window ∙ ap (λ seats. tickets_of_tenant seats tenant window) left.conn.its_seats ∙ told)
      (quotas.drawn last.tickets tenant window
      ∙ sym (ap (λ seats. tickets_of_tenant seats tenant window) left.closed_of.parts.seats) ∙ too.1)
      (tickets-none tenant window first.submissions.conn left.conn.nothing) drew in
      ap (λ seats. tickets_of_tenant seats tenant window) left.closed_of.parts.seats
      ∙ sym (quotas.drawn last.tickets tenant window) ∙ shown
      ∙ ap (λ xs. Some (earlier ++ xs)) (sym (tickets-same tenant window))

  pub has-served : HasServed of_clock g o b closed.seats now
  has-served =
      let c = left.closed_of in
      let conn = left.conn in
      let job = left.app_job in
      let same = c.turned.same.submissions.conn in
      let done = on-some (HasCompleted left.job end) end.sent sent is left.end_of.done in
      record {
        number = ap (λ c. c.conn) met.knows.conn ∙ met.fails.same.conn.conn ∙ ap (λ s. s.conn.conn) c.parts.submissions
            ∙ same.conn ∙ conn.number;
        table = ap (λ c. c.table) met.knows.conn ∙ met.fails.same.conn.table ∙ ap (λ s. s.conn.table) c.parts.submissions
            ∙ same.table ∙ conn.table;
        limit = ap (λ c. c.limit) met.knows.conn ∙ met.fails.same.conn.limit ∙ ap (λ s. s.conn.limit) c.parts.submissions
            ∙ same.limit ∙ conn.limit;
        steps = met.knows.steps ∙ met.fails.same.steps ∙ ap (λ s. s.steps.now) c.parts.submissions
            ∙ c.turned.same.submissions.steps ∙ conn.its_scheduled;
        send_heap = ap (λ (heap : HeapId). heap.words) (met.knows.heap ∙ met.fails.same.heap
            ∙ ap (λ s. s.reader.heap) c.parts.submissions ∙ c.turned.same.submissions.heap ∙ job.send_heap) ∙ job.heap;
        receive_heap = ap (λ r. r.heap) met.reader ∙ left.end_of.of_port.reader ∙ ap (λ r. r.heap) job.reader;
        served = met.knows.served;
        finished = met.knows.finished ∙ met.fails.finished ∙ ap (λ s. s.finished) c.parts.submissions ∙ over.finished;
        known = met.knows.known ∙ sym (ap (λ n. n.stores) met.note);
        did = subst (λ r. HasRunAs r (echo_on o) b) job.its_role
            (did-as left.job.role.now left.job.table.now left.job.port end sent (echo_on o) b done.did met.note
            met.reader met.notices met.blocks met.knows.taken met.returned
            (sym (rw (job.its_table, job.heap, job.reader, job.ring) refl)));
        account = account-of o.plan o.app c.last b (met.share ∙ c.parts.share)
            (c.turned.same.weight ∙ ap weight_of_visits conn.share) (share-is o closed end w left queue memory)
            (sym met.knows.served.serving.count ∙ met.knows.accepted ∙ met.fails.accepted
            ∙ ap (λ s. s.accepted) c.parts.submissions);
        moments = subst (λ xs. All (of_clock.gives o.begun.clock) xs) (sym moments-same)
            (subst (λ x. All (of_clock.gives x) (timestamps_in (conn_trace c.last.submissions.conn))) clock-same whole.moments);
        least = subst (λ xs. All (λ ms. of_clock.least o.begun.clock ≤ ms) xs) (sym at-calls-same)
            (subst (λ x. All (λ ms. of_clock.least x ≤ ms) (timestamps_at_calls (conn_trace c.last.submissions.conn)))
            clock-same whole.least);
        arrived = arrived;
        same_arrivals = same-arrivals;
        handed = was-handed;
        rose = λ ended. subst (λ l. HasRisen (g.failures l) (g.failures now)) left.start (passed.rose (failed-when ended));
        stays = λ works. passed.stays (working-when works) ∙ ap g.failures left.start;
        same_link = λ first since. passed.since first (subst (λ l. g.since first l) (sym left.start) since);
        same_seats = seats-later;
        drawn = were-drawn;
      }
