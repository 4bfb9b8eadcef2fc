-- What is known of the parts of a connection before they are reconciled.
use Rattle.std.proofs.Common.{◌≡◌, false, List, Option, Some, sym, ap, subst, ◌∙◌}
use Rattle.std.specs.Prelude.{IfSome}
use Rattle.mrpc_base.specs.declared.clock.Clock.{Ghosts as ClockMembers}
use Rattle.mrpc_base.specs.declared.link.Link.{Ghosts as LinkMembers}
use Rattle.mrpc_base.specs.declared.tickets.Tickets.{Ghosts as TicketMembers}
use Rattle.tenant_quota.specs.Drawing.{Drawing}
use Rattle.message_delivery.specs.Noticing.{number_ring_of, ring_of}
use Rattle.mrpc_table.specs.declared.table.Table.{Table}
use Rattle.run_plan.specs.declared.application.Role.{Role}
use Rattle.run_plan.specs.declared.application.Role.TheVariants as role
use Rattle.app_stub.specs.declared.port.AppEnd.{AppEnd}
use Rattle.app_stub.specs.declared.port.AppPort.{AppPort}
use Rattle.app_stub.specs.declared.port.AppSent.{AppSent}
use Rattle.link_queue.specs.Queueing.{QueueLinkState}
use Rattle.link_queue.specs.Writers.{end_backward, end_forward}
use Rattle.link_queue.specs.declared.writer_end.WriterEnd.{WriterEnd}
use Rattle.service_loop.specs.Rounds.{HasAdvanced, HasVisitAccount, IsFinished, IsConsistent}
use Rattle.service_loop.specs.Serving.{IsServed}
use Rattle.service_wiring.specs.Applications.{HasRunRole, HasCompleted}
use Rattle.service_wiring.specs.declared.closed_connection.ClosedConnection.{ClosedConnection}
use Rattle.service_threads.specs.Closings.{IsLeft, Opening}
use Rattle.service_threads.specs.Parts.{AreReconcilable}
use Rattle.service_threads.proofs.Members.{IsQueue}

-- the rings of what an application left are those of its port
pub calls-ring : {F : Type 0} (role : Role) (T : Table) (port : AppPort F) (end : AppEnd) (sent : AppSent)
    → HasRunRole role T port end sent → sent.calls.ring ≡ port.sender.ring
calls-ring (role.Client program) T port end sent did = did.sent.calls_ring
calls-ring (role.Server program) T port end sent did = did.sent.calls_ring
calls-ring role.Echo T port end sent did = did.sent.calls_ring

pub reclaims-ring : {F : Type 0} (role : Role) (T : Table) (port : AppPort F) (end : AppEnd) (sent : AppSent)
    → HasRunRole role T port end sent → sent.reclaims.ring ≡ port.reclaims.ring
reclaims-ring (role.Client program) T port end sent did = did.sent.reclaims_ring
reclaims-ring (role.Server program) T port end sent did = did.sent.reclaims_ring
reclaims-ring role.Echo T port end sent did = did.sent.reclaims_ring

-- the remaining part of a fact about a present option
pub on-some : {T : Type 0} (P : T → Type 0) (o : Option T) (x : T) → o ≡ Some x → IfSome o P → P x
on-some P o x is h = subst (λ o. IfSome o P) is h

module _ {C L : Type 0} {of_clock : ClockMembers C} {of_quotas : TicketMembers (List Drawing)}
    {of_link : LinkMembers QueueLinkState} {g : LinkMembers L} (o : Opening C L) (closed : ClosedConnection) (end : AppEnd)
    (w : WriterEnd L g) (left : IsLeft of_clock of_quotas of_link o closed end w) (queue : IsQueue of_link) where
  pub forward-is : closed.passed.forward ≡ end_forward w
  forward-is = left.closed_of.parts.forward
      ∙ queue.forward left.first.link left.closed_of.last.link
      (left.closed_of.turned.same.link left.first.link (queue.itself left.first.link))
      ∙ sym left.forward

  pub backward-is : closed.passed.backward ≡ end_backward w
  backward-is = left.closed_of.parts.backward
      ∙ queue.backward left.first.link left.closed_of.last.link
      (left.closed_of.turned.same.link left.first.link (queue.itself left.first.link))
      ∙ sym left.backward

  module _ (memory : closed.memory ≡ false) where
    no-memory : left.closed_of.last.memory ≡ false
    no-memory = sym left.closed_of.parts.memory ∙ memory

    pub whole-is : IsConsistent of_clock of_quotas of_link left.closed_of.last
    whole-is = (left.closed_of.whole no-memory).0

    pub share-is : HasVisitAccount left.closed_of.last
    share-is = (left.closed_of.whole no-memory).1

    pub goes-on : HasAdvanced of_clock of_quotas of_link left.first left.closed_of.last
    goes-on = left.closed_of.turned.goes_on no-memory

    pub over-is : IsFinished of_clock of_quotas of_link left.closed_of.last
    over-is = left.closed_of.done no-memory

    pub may-meet : (sent : AppSent) → end.sent ≡ Some sent → AreReconcilable closed.submissions closed.deliveries end sent
    may-meet sent is =
        let c = left.closed_of in
        let last = c.last in
        let whole = whole-is in
        let over = over-is in
        let done = on-some (HasCompleted left.job end) end.sent sent is left.end_of.done in
        let did = done.did in
        let of_port = left.end_of.of_port in
        let job = left.app_job in
        let reclaiming = whole.delivering.3.returned in
        record {
          served = subst (λ s. IsServed s) (sym c.parts.submissions) whole.served;
          heap = of_port.heap ∙ sym job.send_heap ∙ sym c.turned.same.submissions.heap
              ∙ sym (ap (λ s. s.reader.heap) c.parts.submissions);
          last = of_port.last;
          calls = calls-ring left.job.role.now left.job.table.now left.job.port end sent did ∙ sym job.calls_ring
              ∙ sym c.turned.same.submissions.ring ∙ sym (ap (λ s. s.calls.ring) c.parts.submissions);
          calls_closed = ap (λ s. s.calls.closed) c.parts.submissions ∙ sym whole.served.finished ∙ over.finished;
          no_notices = ap (λ d. d.notices.notices) c.parts.deliveries ∙ over.notices;
          no_blocks = ap (λ d. d.notices.blocks) c.parts.deliveries ∙ over.blocks;
          notices = ap (λ d. ring_of d.notices.notices d.notices.noticed) c.parts.deliveries
              ∙ c.turned.same.deliveries.notices.notices ∙ job.notices_ring ∙ ap Some (sym of_port.notices);
          blocks = ap (λ d. number_ring_of d.notices.blocks d.notices.numbered) c.parts.deliveries
              ∙ c.turned.same.deliveries.notices.numbers ∙ job.numbers_ring ∙ ap Some (sym of_port.blocks);
          took = done.all;
          reclaims = reclaims-ring left.job.role.now left.job.table.now left.job.port end sent did
              ∙ sym job.reclaims_ring ∙ sym c.turned.same.deliveries.numbers
              ∙ sym (ap (λ d. d.reclaims.numbers.ring) c.parts.deliveries);
          reclaims_closed = ap (λ d. d.reclaims.numbers.closed) c.parts.deliveries ∙ sym reclaiming.counting.closed
              ∙ over.reclaims;
        }
