use Rattle.std.proofs.Common.{arith, ap, length, length-append, ◌∙◌, [], ◌∷◌, ◌++◌, ◌≡◌}
use Rattle.std.proofs.lemmas.List.{length-map}
use Rattle.app_stub.specs.Serving.{submission_of}
use Rattle.app_stub.proofs.Served.{all_served_replies_few, all_served_stores_few, replies_further, stores_further}
use Rattle.app_stub.proofs.servers.serve_all.Goals as goal

pub serve-requires-clause-few_stores : goal.serve-requires-clause-few_stores
serve-requires-clause-few_stores g c κs within =
    omega (arith, ap length c.loop.invariant.10, all_served_stores_few c.args.program.now c.loop.delivery.notices.taken c.requires.program.stores)

pub serve-requires-clause-few_calls : goal.serve-requires-clause-few_calls
serve-requires-clause-few_calls g c κs within =
    omega (
      arith,
      length-map c.loop.outgoing.sender.sent submission_of,
      ap length c.loop.invariant.11,
      all_served_replies_few c.args.program.now 0 c.loop.delivery.notices.taken,
      c.in_ok-notice.ensures.few,
      ap length (rw c.in-Some-2.is at c.in_ok-notice.ensures.taken),
      length-append c.loop.delivery.notices.taken,
    )

pub loop-preserved : goal.loop-preserved
loop-preserved g c =
    let before = c.loop.invariant in
    let came = c.in_ok-notice.ensures in
    let served = c.in_ok-serve-in-Some-2.ensures in
    let given = c.in_ok-reclaim_block-in-Some-2.ensures in
    let notices = c.loop.delivery.notices.taken in
    let one_more : c.reclaim_block.new.self.notices.taken ≡ notices ++ c.in-Some-2.notice ∷ [] =
    ap (λ r. r.taken) given.notices ∙ (rw c.in-Some-2.is at came.taken) in (
      served.heap.0 ∙ before.0,
      served.heap.1 ∙ before.1,
      served.ring ∙ before.2,
      given.ring ∙ before.3,
      ap (λ r. r.ring) given.notices ∙ came.ring ∙ before.4,
      ap (λ r. r.heap) given.notices ∙ came.heap ∙ before.5,
      given.blocks ∙ before.6,
      given.paired,
      omega (arith, ap (λ r. length r.taken) given.notices, came.few),
      given.given [] before.9,
      stores_further c.args.program.now notices _ c.in-Some-2.notice _ _ one_more before.10 served.stores,
      replies_further c.args.program.now notices _ c.in-Some-2.notice _ _ _ one_more before.10 before.11 served.calls,
    )
