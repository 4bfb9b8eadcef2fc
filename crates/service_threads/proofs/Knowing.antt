-- The calls of a connection stay served if the service learns more of the application's stores.
use Rattle.std.proofs.Common.{◌≡◌, ◌≤◌, ℕ, List, map, take, sym, ap, subst, ◌∙◌}
use Rattle.std.specs.List.{AllZip}
use Rattle.mrpc_table.specs.declared.limits.TheConstants.{MAX_HEAP, MIN_HEAP}
use Rattle.shared_heap.specs.Fresh.{IsPrefix, CallLoads, AreFresh, Reading, word_of_load}
use Rattle.descriptor_ring.specs.Rings.{Receiving}
use Rattle.call_history.specs.Trace.{taken}
use Rattle.conn_core.specs.Connections.{conn_trace}
use Rattle.service_loop.specs.Calls.{HasAcceptedAll, HasLoads}
use Rattle.service_loop.specs.Serving.{IsServed}
use Rattle.service_loop.specs.ScheduledOps.{AreApplied, all_taken}
use Rattle.service_loop.specs.declared.submissions.Submissions.{Submissions}

pub served-knowing : (s : Submissions) (reader : Reading) (ring : Receiving) → IsServed s
    → reader.heap ≡ s.reader.heap → reader.loads ≡ s.reader.loads → IsPrefix reader.known s.reader.known
    → ring.heap ≡ s.calls.heap → ring.taken ≡ s.calls.taken → ring.closed ≡ s.calls.closed
    → ((calls : List CallLoads) (stores all : List (ℕ × ℕ)) → AreFresh calls stores → IsPrefix all stores
    → AreFresh calls all)
    → IsServed (record s { reader = reader; calls = ring })
served-knowing s reader ring h heap loads grows ring_heap took closed later =
    let serving = h.serving in
    record {
      serving = record {
        least_heap = subst (λ heap. MIN_HEAP ≤ heap.words) (sym heap) serving.least_heap;
        greatest_heap = subst (λ heap. heap.words ≤ MAX_HEAP) (sym heap) serving.greatest_heap;
        one_heap = ring_heap ∙ serving.one_heap ∙ sym heap;
        are_scheduled = serving.are_scheduled;
        loads = record {
          calls = serving.loads.calls;
          each = subst (λ heap. AllZip (HasLoads s.conn.table heap.words s.conn.limit) (taken (conn_trace s.conn))
              serving.loads.calls) (sym heap) serving.loads.each;
          all = ap (λ xs. map word_of_load xs) loads ∙ serving.loads.all;
          fresh = later serving.loads.calls s.reader.known reader.known serving.loads.fresh grows;
        };
        calls = subst (λ xs. HasAcceptedAll s.conn xs) (sym took) serving.calls;
        count = serving.count;
        within = serving.within;
        came = subst (λ x. AreApplied (all_taken x (conn_trace s.conn)) (conn_trace s.conn) (take s.applied s.steps.now))
            (sym closed) serving.came;
        left = serving.left;
      };
      settled = h.settled;
      finished = h.finished ∙ sym closed;
      all_came = h.all_came;
    }
