use Rattle.std.proofs.Common.{◌∙◌, ap, refl, sym}
use Rattle.descriptor_ring.specs.Rings.{Receiving}
use Rattle.service_threads.proofs.reconciling.reconcile_parts.Goals as goal

pub unreachable-requires : goal.unreachable-requires
unreachable-requires c = c.in_default.not-Some c.requires.sent.0 c.requires.sent.1

pub fail_with-requires : goal.fail_with-requires
fail_with-requires c = (c.requires.met c.in-Some.sent c.in-Some.is).served

pub reconcile_calls-requires : goal.reconcile_calls-requires
reconcile_calls-requires c =
    let met = c.requires.met c.in-Some.sent c.in-Some.is in
    let fails = c.fail_with.ensures in record {
      served = fails.served;
      heap = met.heap ∙ sym fails.same.heap;
      last = met.last;
      ring = met.calls ∙ sym (ap (λ (r : Receiving). r.ring) fails.calls);
      closed = ap (λ (r : Receiving). r.closed) fails.calls ∙ met.calls_closed;
    }

pub reconcile_notices-requires : goal.reconcile_notices-requires
reconcile_notices-requires c =
    let met = c.requires.met c.in-Some.sent c.in-Some.is in record {
      none = (met.no_notices, met.no_blocks);
      notices_ring = met.notices;
      blocks_ring = met.blocks;
      notices_closed = met.took.notices;
      blocks_closed = met.took.blocks;
    }

pub reconcile_reclaims-requires : goal.reconcile_reclaims-requires
reconcile_reclaims-requires c =
    let met = c.requires.met c.in-Some.sent c.in-Some.is in
    record { ring = met.reclaims; closed = met.reclaims_closed }

pub returns : goal.returns
returns c = (
  c.in-Some.sent,
  c.in-Some.is,
  record {
    mid = c.fail_with.new.submissions;
    fails = c.fail_with.ensures;
    knows = c.reconcile_calls.ensures.knows;
    note = c.reconcile_calls.ensures.note;
    reader = refl;
    arrivals = refl;
    share = refl;
    notices = c.reconcile_notices.ensures.same_notices;
    told = c.reconcile_notices.ensures.notices;
    blocks = c.reconcile_notices.ensures.same_blocks;
    numbers = c.reconcile_notices.ensures.blocks;
    returned = c.reconcile_reclaims.ensures.taken;
    reclaiming = c.reconcile_reclaims.ensures.reclaiming;
  },
)
