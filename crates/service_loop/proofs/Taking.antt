-- A descriptor that was taken, and its effect.
use Rattle.std.proofs.Common.{◌≡◌, ℕ, Bool, true, false, List, Ok, Err, OnOk, map, refl, sym, ◌∙◌, subst}
use Rattle.std.specs.Prelude.{Result}
use Rattle.mrpc_table.specs.declared.memory.Memory.{Memory}
use Rattle.shared_heap.specs.Fresh.{Reading}
use Rattle.descriptor_ring.specs.declared.descriptor.Descriptor.{Descriptor}
use Rattle.call_history.specs.Trace.{Trace}
use Rattle.call_history.specs.Positions.{IsSettled}
use Rattle.conn_core.specs.Connections.{Connection, conn_trace, judge_context}
use Rattle.service_loop.specs.Serving.{IsServed, IsServing, HasServedCalls}
use Rattle.service_loop.specs.ScheduledOps.{AreApplied, all_taken}
use Rattle.service_loop.specs.Within.{HasTakenLast}
use Rattle.service_loop.specs.declared.scheduled_op.ScheduledOp.{ScheduledOp}
use Rattle.service_loop.specs.declared.submissions.Submissions.{Submissions}
use Rattle.service_loop.proofs.Coming.{come-closing}
use Rattle.service_loop.proofs.Going.{serves-given-up}

-- the parts unchanged, apart from the ring
pub before-taken : (d : Descriptor) (s : Submissions) (h : HasTakenLast d s)
    → HasServedCalls s.conn s.reader h.earlier.calls s.steps.now s.applied s.accepted
before-taken d s h =
    let e : Submissions = h.earlier in
    subst (λ (c : Connection). HasServedCalls c s.reader e.calls s.steps.now s.applied s.accepted) (sym h.conn)
    (subst (λ (r : Reading). HasServedCalls e.conn r e.calls s.steps.now s.applied s.accepted) (sym h.reader)
    (subst (λ (xs : List ScheduledOp). HasServedCalls e.conn e.reader e.calls xs s.applied s.accepted) (sym h.steps)
    (subst (λ (n : ℕ). HasServedCalls e.conn e.reader e.calls e.steps.now n s.accepted) (sym h.applied)
    (subst (λ (n : ℕ). HasServedCalls e.conn e.reader e.calls e.steps.now e.applied n) (sym h.accepted) h.serving))))

pub given-up : (d : Descriptor) (s : Submissions) → HasTakenLast d s → s.conn.ended ≡ true → IsServing s
given-up d s h ended =
    serves-given-up s.conn s.reader h.earlier.calls s.calls s.steps.now s.applied s.accepted d ended h.taken h.closed
    h.ring_heap (before-taken d s h)

pub came-closed : (old new : Bool) (past : Trace) (steps : List ScheduledOp) → old ≡ false → new ≡ true
    → AreApplied (all_taken old past) past steps → AreApplied (all_taken new past) past steps
came-closed old new past steps unclosed closed h =
    subst (λ (b : Bool). AreApplied (all_taken b past) past steps) (sym closed)
    (come-closing past steps (subst (λ (b : Bool). AreApplied (all_taken b past) past steps) unclosed h))

pub untrue : (b : Bool) → (b ≡ true → false ≡ true) → b ≡ false
untrue true h = absurd (let wrong : false ≡ true = h refl in cc)
untrue false h = refl

-- a drain before the closing preserves the invariant between two rounds
pub served-open : (r : Result (Unit {0}) Memory) (s : Submissions) → OnOk r (IsServing s)
    → OnOk r (IsSettled (judge_context s.conn) (conn_trace s.conn) (map (λ (call : ℕ × ℕ). call.1) s.conn.chain.row))
    → s.finished ≡ false → s.calls.closed ≡ false → OnOk r (IsServed s)
served-open (Ok done) s serving settled unfinished unclosed = record {
  serving = serving;
  settled = settled;
  finished = unfinished ∙ sym unclosed;
  all_came = λ is. absurd (let wrong : true ≡ false = sym is ∙ unfinished in cc);
}
served-open (Err fault) s serving settled unfinished unclosed = tt
