-- The invariant of a connection's submissions between two rounds (this project's own).
use Rattle.std.specs.Prelude.{◌≡◌, ℕ, ◌≤◌, true, List, length, map, take, drop}
use Rattle.mrpc_table.specs.declared.limits.TheConstants.{MAX_HEAP, MIN_HEAP}
use Rattle.shared_heap.specs.Fresh.{Reading}
use Rattle.descriptor_ring.specs.Rings.{Receiving}
use Rattle.call_history.specs.Trace.{taken}
use Rattle.call_history.specs.Positions.{IsSettled}
use Rattle.conn_core.specs.Connections.{Connection, IsSameConnection, conn_trace, judge_context}
use Rattle.service_loop.specs.Calls.{HasAcceptedAll, IsReaderOf}
use Rattle.service_loop.specs.ScheduledOps.{AreScheduledOps, AreCountsAscending, AreApplied, all_taken}
use Rattle.service_loop.specs.declared.scheduled_op.ScheduledOp.{ScheduledOp}
use Rattle.service_loop.specs.declared.submissions.Submissions.{Submissions}

-- The calls of a connection so far. Their loads are those of the reader. The calls are the submissions taken from the
-- ring, all of them or, if the connection has ended, a prefix. The operations applied are a prefix of the scheduled
-- ones, each in its place.
pub record HasServedCalls (conn : Connection) (reader : Reading) (ring : Receiving) (steps : List ScheduledOp)
    (applied accepted : ℕ) : Type 0 where
  pub least_heap : MIN_HEAP ≤ reader.heap.words
  pub greatest_heap : reader.heap.words ≤ MAX_HEAP
  pub one_heap : ring.heap ≡ reader.heap
  pub are_scheduled : AreScheduledOps steps
  pub loads : IsReaderOf conn reader
  pub calls : HasAcceptedAll conn ring.taken
  pub count : accepted ≡ length (taken (conn_trace conn))
  pub within : applied ≤ length steps
  pub came : AreApplied (all_taken ring.closed (conn_trace conn)) (conn_trace conn) (take applied steps)
  -- no remaining operation was due before the last call
  pub left : AreCountsAscending accepted (drop applied steps)

abbrev pub IsServing : Submissions → Type 0
IsServing s = HasServedCalls s.conn s.reader s.calls s.steps.now s.applied s.accepted

-- Between two rounds no call can advance. Once the closing of the ring was taken, the last drain is done, and every
-- operation was applied.
pub record IsServed (s : Submissions) : Type 0 where
  pub serving : IsServing s
  pub settled : IsSettled (judge_context s.conn) (conn_trace s.conn) (map (λ call. call.1) s.conn.chain.row)
  pub finished : s.finished ≡ s.calls.closed
  pub all_came : s.finished ≡ true → s.applied ≡ length s.steps.now

-- what submissions preserve
pub record AreSameSubmissions (old new : Submissions) : Type 0 where
  pub conn : IsSameConnection old.conn new.conn
  pub heap : new.reader.heap ≡ old.reader.heap
  pub ring : new.calls.ring ≡ old.calls.ring
  pub ring_heap : new.calls.heap ≡ old.calls.heap
  pub steps : new.steps.now ≡ old.steps.now
