use Rattle.std.proofs.Common.{◌≡◌, ℕ, ◌<◌, ◌≤◌, List, [], Option, Some, ap, length, refl, subst, sym, ◌∙◌}
use Rattle.std.specs.Prelude.{IfSome}
use Rattle.mrpc_table.specs.Lines.{IsIn}
use Rattle.mrpc_table.specs.Valid.{IsValid}
use Rattle.mrpc_table.specs.declared.limits.TheConstants.{MAX_HEAP, MIN_HEAP}
use Rattle.mrpc_table.specs.declared.table.Table.{Table}
use Rattle.shared_heap.specs.Fresh.{HeapId, Reading}
use Rattle.descriptor_ring.specs.Rings.{NumberReceiving, Receiving, RingId}
use Rattle.descriptor_ring.specs.declared.limits.TheConstants.{MAX_CAPACITY}
use Rattle.tenant_quota.specs.Drawing.{Drawing}
use Rattle.link_queue.specs.Queueing.{QueueLinkState}
use Rattle.conn_core.specs.Connections.{Connection}
use Rattle.message_delivery.specs.Arriving.{HaveSameIdentity}
use Rattle.message_delivery.specs.Noticing.{number_ring_of, ring_of}
use Rattle.message_delivery.specs.declared.arrivals.Arrivals.{Arrivals}
use Rattle.run_plan.specs.Plans.{HasProgram}
use Rattle.service_loop.specs.Delivering.{HaveDelivered}
use Rattle.service_loop.specs.Rounds.{IsNewVisitAccount}
use Rattle.service_loop.specs.ScheduledOps.{KnowTenants}
use Rattle.service_loop.specs.declared.delivering.Deliveries.{Deliveries}
use Rattle.service_loop.specs.declared.scheduled_op.ScheduledOp.{ScheduledOp}
use Rattle.service_loop.specs.declared.endpoint.Endpoint.{Endpoint}
use Rattle.service_loop.specs.declared.visit_account.VisitAccount.{VisitAccount}
use Rattle.service_loop.specs.declared.submissions.Submissions.{Submissions}
use Rattle.service_wiring.proofs.Parts.{is_application, valid_table}
use Rattle.service_wiring.proofs.Weighing.{grants-first, new-share}
use Rattle.service_wiring.proofs.wiring.wire.Goals as goal

pub open-requires-2 : goal.open-requires-2
open-requires-2 g c = record {
  valid = subst (λ (T : Table). IsValid T) (sym c.table_of-table.ensures)
      (valid_table c.args.common.now.plan.now c.args.app.now c.requires.plan c.requires.app);
  least_limit = c.requires.plan.loads.0;
  greatest_limit = c.requires.plan.loads.1;
}

pub open_port-requires : goal.open_port-requires
open_port-requires g c =
    (is_application c.args.common.now.plan.now c.args.app.now c.requires.plan c.requires.app).port

pub new-submissions-requires : goal.new-submissions-requires
new-submissions-requires g c =
    let app = is_application c.args.common.now.plan.now c.args.app.now c.requires.plan c.requires.app in
    let ported = c.in_ok-ported.ensures in
    let words = ap (λ (heap : HeapId). heap.words) ported.one_heap ∙ ported.words in record {
      new_conn = (
        ap (λ (x : Connection). x.happenings) c.in_ok-conn.ensures,
        ap (λ (x : Connection). x.chain.row) c.in_ok-conn.ensures,
      );
      least_heap = subst (λ (n : ℕ). MIN_HEAP ≤ n) (sym words) app.port.heap.0;
      greatest_heap = subst (λ (n : ℕ). n ≤ MAX_HEAP) (sym words) app.port.heap.1;
      new_heap = ported.loads;
      one_heap = ported.ends.calls_heap;
      new_ring = (ported.ends.none_taken, ported.ends.calls_open);
      steps = c.requires.steps;
    }

pub programmed-requires : goal.programmed-requires
programmed-requires g c = (
  c.args.app.now.heap,
  (is_application c.args.common.now.plan.now c.args.app.now c.requires.plan c.requires.app).program,
)

pub new-deliveries-requires : goal.new-deliveries-requires
new-deliveries-requires g c =
    let lived = c.requires.lived in
    let ends = c.in_ok-ported.ensures.ends in record {
      lived = (lived.0, c.reopened.ensures.lived lived.0 lived.1, lived.2);
      none_held = c.reopened.ensures.held ∙ c.requires.none_held;
      one_heap = ends.notices_heap ∙ c.requires.one_heap ∙ sym c.reopened.ensures.same.heap;
      new_rings = (ends.none_told, ends.none_numbered, ends.none_back, ends.reclaims_open);
      few = c.programmed.ensures.few;
    }

pub new-endpoint-requires-clause-served : goal.new-endpoint-requires-clause-served
new-endpoint-requires-clause-served g c κs within = c.new-submissions.ensures.served

pub new-endpoint-requires-clause-nothing : goal.new-endpoint-requires-clause-nothing
new-endpoint-requires-clause-nothing g c κs within =
    ap (λ (x : Connection). x.happenings) (c.new-submissions.ensures.conn ∙ c.in_ok-conn.ensures)

pub new-endpoint-requires-clause-not_ended : goal.new-endpoint-requires-clause-not_ended
new-endpoint-requires-clause-not_ended g c κs within =
    ap (λ (x : Connection). x.ended) (c.new-submissions.ensures.conn ∙ c.in_ok-conn.ensures)

pub new-endpoint-requires-clause-known : goal.new-endpoint-requires-clause-known
new-endpoint-requires-clause-known g c κs within =
    subst (λ (steps : List ScheduledOp). KnowTenants (λ tenant. tenant < length c.args.seats) steps)
    (sym c.new-submissions.ensures.steps) c.requires.known

pub new-endpoint-requires-clause-delivering : goal.new-endpoint-requires-clause-delivering
new-endpoint-requires-clause-delivering g c κs within =
    let lived = c.requires.lived in (
      lived.0,
      [],
      [],
      c.new-deliveries.ensures.delivered lived.0 (c.reopened.ensures.lived lived.0 lived.1) lived.2,
    )

pub new-endpoint-requires-clause-share : goal.new-endpoint-requires-clause-share
new-endpoint-requires-clause-share g c κs within =
    subst (λ (share : Option VisitAccount). IfSome share IsNewVisitAccount) (sym c.visit_account_of-share.ensures)
    (new-share c.args.common.now.plan.now c.args.app.now
    (is_application c.args.common.now.plan.now c.args.app.now c.requires.plan c.requires.app).port.weight)

pub new-requires-clause-endpoint : goal.new-requires-clause-endpoint
new-requires-clause-endpoint g c κs within = λ memory.
    (c.new-endpoint.ensures.whole, c.new-endpoint.ensures.has_share)

pub new-requires-clause-order : goal.new-requires-clause-order
new-requires-clause-order g c κs within =
    grants-first c.args.common.now.plan.now c.args.app.now (g.O.ReadyOrder.grant_of c.args.common.now.order.now)
    c.new-endpoint.result (c.new-endpoint.ensures.share ∙ c.visit_account_of-share.ensures)
    (ap (λ (s : Submissions). s.conn.conn) (c.new-endpoint.ensures.submissions)
    ∙ ap (λ (x : Connection). x.conn) (c.new-submissions.ensures.conn ∙ c.in_ok-conn.ensures))
    c.requires.app c.requires.order

pub returns : goal.returns
returns g c = λ life lived fates.
    let app = is_application c.args.common.now.plan.now c.args.app.now c.requires.plan c.requires.app in
    let item : c.new.result ≡ c.new-endpoint.result = c.new.ensures in
    let subs : c.new.result.submissions ≡ c.new-submissions.result =
    ap (λ (e : Endpoint g.row.C.Denot (List Drawing) QueueLinkState). e.submissions) item
    ∙ c.new-endpoint.ensures.submissions in
    let dels : c.new.result.deliveries ≡ c.new-deliveries.result =
    ap (λ (e : Endpoint g.row.C.Denot (List Drawing) QueueLinkState). e.deliveries) item
    ∙ c.new-endpoint.ensures.deliveries in
    let arrived : c.new.result.deliveries.arrivals ≡ c.reopened.result =
    ap (λ (d : Deliveries). d.arrivals) dels ∙ c.new-deliveries.ensures.arrivals in
    let opened = ap (λ (s : Submissions). s.conn) subs ∙ c.new-submissions.ensures.conn ∙ c.in_ok-conn.ensures in
    let link : c.new.result.link ≡ c.in_ok-queue.queue =
    ap (λ (e : Endpoint g.row.C.Denot (List Drawing) QueueLinkState). e.link) item ∙ c.new-endpoint.ensures.link in
    let ported = c.in_ok-ported.ensures in
    let ends = ported.ends in
    let reader : c.in_ok-ported.ported.port.reader ≡ c.args.reader = ported.its_reader in
    let received : c.args.arrivals.inbound.heap.words ≡ c.args.reader.heap.words =
    sym (ap (λ (heap : HeapId). heap.words) c.requires.one_heap ∙ lived.words) in record {
      conn = record {
        number = ap (λ (x : Connection). x.conn) opened;
        table = ap (λ (x : Connection). x.table) opened ∙ c.table_of-table.ensures;
        limit = ap (λ (x : Connection). x.limit) opened;
        nothing = ap (λ (x : Connection). x.happenings) opened;
        working = ap (λ (x : Connection). x.ended) opened;
        memory = ap (λ (e : Endpoint g.row.C.Denot (List Drawing) QueueLinkState). e.memory) item
            ∙ c.new-endpoint.ensures.memory;
        none_kept = ap (λ (e : Endpoint g.row.C.Denot (List Drawing) QueueLinkState). e.kept) item
            ∙ c.new-endpoint.ensures.kept;
        share = ap (λ (e : Endpoint g.row.C.Denot (List Drawing) QueueLinkState). e.share) item
            ∙ c.new-endpoint.ensures.share ∙ c.visit_account_of-share.ensures;
        its_clock = ap (λ (e : Endpoint g.row.C.Denot (List Drawing) QueueLinkState). e.clock.now) item
            ∙ c.new-endpoint.ensures.clock;
        its_scheduled = ap (λ (s : Submissions). s.steps.now) subs ∙ c.new-submissions.ensures.steps;
        its_seats = ap (λ (e : Endpoint g.row.C.Denot (List Drawing) QueueLinkState). e.tickets) item
            ∙ c.new-endpoint.ensures.tickets;
        programmed = ap (λ (d : Deliveries). d.reclaims.programmed) dels ∙ c.new-deliveries.ensures.programmed
            ∙ c.programmed.ensures.count;
        same = subst (λ (a : Arrivals). HaveSameIdentity c.args.arrivals a) (sym arrived) c.reopened.ensures.same;
        delivered = subst (λ (d : Deliveries). HaveDelivered life [] [] d) (sym dels)
            (c.new-deliveries.ensures.delivered life (c.reopened.ensures.lived life lived) fates);
      };
      link = record {
        handed = ap (λ (q : QueueLinkState). q.handed) link ∙ c.in_ok-queue.ensures.handed;
        given = ap (λ (q : QueueLinkState). q.given) link ∙ c.in_ok-queue.ensures.given;
        ended = ap (λ (q : QueueLinkState). q.ended) link ∙ c.in_ok-queue.ensures.ended;
        failures = ap (λ (q : QueueLinkState). q.failures) link ∙ c.in_ok-queue.ensures.failures;
        start = c.in_ok-queue.ensures.start;
        forward = ap (λ (q : QueueLinkState). q.forward) link ∙ c.in_ok-queue.ensures.forward;
        backward = ap (λ (q : QueueLinkState). q.backward) link ∙ c.in_ok-queue.ensures.backward;
      };
      app_job = record {
        is_task = record {
          port = ported.new c.requires.new_heap;
          program = subst (λ (n : ℕ). HasProgram n c.args.app.now.role) (sym ported.words) app.program;
          table = subst (λ (T : Table). IsValid T) (sym c.table_of-table.ensures)
              (valid_table c.args.common.now.plan.now c.args.app.now c.requires.plan c.requires.app);
          heap = subst (λ (n : ℕ). IsIn MIN_HEAP MAX_HEAP n) (sym ported.words) app.port.heap;
          receive = subst (λ (r : Reading). IsIn MIN_HEAP MAX_HEAP r.heap.words) (sym reader)
              (c.requires.words, subst (λ (n : ℕ). n ≤ MAX_HEAP) received lived.most);
          ring = subst (λ (n : ℕ). n ≤ MAX_CAPACITY) (sym ported.capacity) app.port.ring.1;
        };
        its_role = refl;
        its_table = c.table_of-table.ensures;
        heap = ported.words;
        ring = ported.capacity;
        send_heap = ap (λ (s : Submissions). s.reader.heap) subs
            ∙ ap (λ (r : Reading). r.heap) c.new-submissions.ensures.reader ∙ ported.one_heap;
        calls_ring = ap (λ (s : Submissions). s.calls.ring) subs
            ∙ ap (λ (r : Receiving). r.ring) c.new-submissions.ensures.calls ∙ ends.calls_ring;
        reader = reader;
        receive_heap = ap (λ (a : Arrivals). a.writer.heap) arrived ∙ c.reopened.ensures.same.heap
            ∙ sym c.requires.one_heap ∙ sym (ap (λ (r : Reading). r.heap) reader);
        notices_ring = ap (λ (d : Deliveries). ring_of d.notices.notices d.notices.noticed) dels
            ∙ c.new-deliveries.ensures.notices
            ∙ ap (λ (r : RingId). Some r) (sym ends.notices_ring);
        numbers_ring = ap (λ (d : Deliveries). number_ring_of d.notices.blocks d.notices.numbered) dels
            ∙ c.new-deliveries.ensures.numbers
            ∙ ap (λ (r : RingId). Some r) (sym ends.numbers_ring);
        reclaims_ring = ap (λ (d : Deliveries). d.reclaims.numbers.ring) dels
            ∙ ap (λ (r : NumberReceiving). r.ring) c.new-deliveries.ensures.reclaims ∙ ends.reclaims_ring;
      };
    }
