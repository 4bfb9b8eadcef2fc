-- What the threads that serve one connection get (this project's own).
use Rattle.std.specs.Prelude.{◌≡◌, ℕ, List, [], length, Some, false}
use Rattle.mrpc_base.specs.declared.link.Link.{Ghosts as LinkMembers}
use Rattle.app_program.specs.Programs.{program_reclaims}
use Rattle.run_plan.specs.Chains.{app_table}
use Rattle.run_plan.specs.declared.application.Application.{Application}
use Rattle.run_plan.specs.declared.application.Role.{Role}
use Rattle.run_plan.specs.declared.application.Role.TheVariants as role
use Rattle.run_plan.specs.declared.plan.Plan.{Plan}
use Rattle.shared_heap.specs.Fresh.{Reading}
use Rattle.receive_core.specs.ReceiverTraces.{ReceiverTrace}
use Rattle.message_delivery.specs.Arriving.{HaveSameIdentity}
use Rattle.message_delivery.specs.Noticing.{number_ring_of, ring_of}
use Rattle.message_delivery.specs.declared.arrivals.Arrivals.{Arrivals}
use Rattle.tenant_quota.specs.Drawing.{Drawing}
use Rattle.link_queue.specs.Queueing.{QueueLinkState}
use Rattle.link_queue.specs.Writers.{writer_backward, writer_forward, writer_start}
use Rattle.link_queue.specs.declared.writer.QueueWriter.{QueueWriter}
use Rattle.service_loop.specs.Delivering.{HaveDelivered}
use Rattle.service_loop.specs.declared.scheduled_op.ScheduledOp.{ScheduledOp}
use Rattle.service_loop.specs.declared.endpoint.Endpoint.{Endpoint}
use Rattle.service_wiring.specs.Applications.{IsAppTask}
use Rattle.service_wiring.specs.Weighing.{visit_account_in}
use Rattle.service_wiring.specs.declared.applications.AppTask.{AppTask}

-- the number of blocks that an application's program gives back, whether the application holds such blocks or not
abbrev pub programmed_reclaims : Role → ℕ
programmed_reclaims (role.Client program) = length (program_reclaims program)
programmed_reclaims _ = 0

-- The initial state of a connection: what arrived with its hello, and the reader of the heap of its messages. With them
-- are its seats at the quotas of tenants, its scheduled operations, its clock, and its link.
pub record ConnectionStart (C L : Type 0) : Type 0 where
  pub arrivals : Arrivals
  pub life : ReceiverTrace
  pub reader : Reading
  pub seats : List Drawing
  pub steps : List ScheduledOp
  pub clock : C
  pub link : L

module _ {C L : Type 0} (plan : Plan) (app : Application) (first : ConnectionStart C L) where
  -- The connection has no events, and has the number, the table and the limit of loads of the plan.
  pub record IsWiredConn (item : Endpoint C (List Drawing) QueueLinkState) : Type 0 where
    pub number : item.submissions.conn.conn ≡ app.conn
    pub table : item.submissions.conn.table ≡ app_table plan app
    pub limit : item.submissions.conn.limit ≡ plan.loads
    pub nothing : item.submissions.conn.happenings ≡ []
    pub working : item.submissions.conn.ended ≡ false
    pub memory : item.memory ≡ false
    pub none_kept : item.kept ≡ 0
    pub share : item.share ≡ visit_account_in plan app
    pub its_clock : item.clock.now ≡ first.clock
    pub its_scheduled : item.submissions.steps.now ≡ first.steps
    pub its_seats : item.tickets ≡ first.seats
    pub programmed : item.deliveries.reclaims.programmed ≡ programmed_reclaims app.role
    pub same : HaveSameIdentity first.arrivals item.deliveries.arrivals
    pub delivered : HaveDelivered first.life [] [] item.deliveries

  -- The application's task has its role and its table, and its heaps and rings are those of the connection.
  pub record IsWiredTask (item : Endpoint C (List Drawing) QueueLinkState) (job : AppTask) : Type 0 where
    pub is_task : IsAppTask job
    pub its_role : job.role.now ≡ app.role
    pub its_table : job.table.now ≡ app_table plan app
    pub heap : job.port.writer.heap.words ≡ app.heap
    pub ring : job.port.capacity ≡ app.ring
    pub send_heap : item.submissions.reader.heap ≡ job.port.writer.heap
    pub calls_ring : item.submissions.calls.ring ≡ job.port.sender.ring
    pub reader : job.port.reader ≡ first.reader
    pub receive_heap : item.deliveries.arrivals.writer.heap ≡ job.port.reader.heap
    pub notices_ring : ring_of item.deliveries.notices.notices item.deliveries.notices.noticed
        ≡ Some job.port.notices.ring
    pub numbers_ring : number_ring_of item.deliveries.notices.blocks item.deliveries.notices.numbered
        ≡ Some job.port.blocks.ring
    pub reclaims_ring : item.deliveries.reclaims.numbers.ring ≡ job.port.reclaims.ring

-- Its link is a queue without pushes or pops. The queue's other end is the writer's, before the link.
pub record IsWiredLink {R L : Type 0} {g : LinkMembers L} (link : L) (queue : QueueLinkState)
    (writer : QueueWriter R L g)
    : Type 0 where
  pub handed : queue.handed ≡ []
  pub given : queue.given ≡ []
  pub ended : queue.ended ≡ false
  pub failures : queue.failures ≡ 0
  pub start : writer_start writer ≡ link
  pub forward : queue.forward ≡ writer_forward writer
  pub backward : queue.backward ≡ writer_backward writer

-- The connection, its application's task and the writer of its link belong to an application of the plan and to the
-- connection's initial state.
pub record IsWired {C R L : Type 0} {g : LinkMembers L} (plan : Plan) (app : Application) (first : ConnectionStart C L)
    (item : Endpoint C (List Drawing) QueueLinkState) (job : AppTask) (writer : QueueWriter R L g) : Type 0 where
  pub conn : IsWiredConn plan app first item
  pub link : IsWiredLink first.link item.link writer
  pub app_job : IsWiredTask plan app first item job
