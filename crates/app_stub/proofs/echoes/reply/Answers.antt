use Rattle.std.proofs.Common.{◌-◌, ◌+◌, arith, ap, sym, subst, refl, ◌∙◌, length, length-append}
use Rattle.std.proofs.Math.Nat.{div-le_self}
use Rattle.shared_heap.specs.Fresh.{HeapId}
use Rattle.descriptor_ring.specs.Rings.{IsDescriptorOf}
use Rattle.graph_place.specs.Size.{tree_words}
use Rattle.app_stub.proofs.echoes.reply.Goals as goal

pub returns-in_err-place-clause-same : goal.returns-in_err-place-clause-same
returns-in_err-place-clause-same g c =
    let old = c.args.desk.now.writer in
    ((c.place.ensures.same_heap old (c.since_is_transitive.ensures.itself old)).heap, refl, refl)

pub send-requires-clause-of_heap : goal.send-requires-clause-of_heap
send-requires-clause-of_heap g c κs within =
    let old = c.args.desk.now.writer in
    let same = (c.place.ensures.same_heap old (c.since_is_transitive.ensures.itself old)).heap in
    subst (λ (h : HeapId). IsDescriptorOf h c.call-reply.result) (same ∙ sym c.requires.desk.heap_of) c.call-reply.ensures.of_heap

pub returns-in_err-send-clause-same : goal.returns-in_err-send-clause-same
returns-in_err-send-clause-same g c =
    let old = c.args.desk.now.writer in
    let same = (c.place.ensures.same_heap old (c.since_is_transitive.ensures.itself old)).heap in
    (ap (λ w. w.heap) c.call-reply.ensures.same ∙ same, refl, refl)

pub returns-clause-same : goal.returns-clause-same
returns-clause-same g c =
    let old = c.args.desk.now.writer in
    let same = (c.place.ensures.same_heap old (c.since_is_transitive.ensures.itself old)).heap in
    (ap (λ w. w.heap) c.call-reply.ensures.same ∙ same, refl, refl)

pub returns-clause-desk : goal.returns-clause-desk
returns-clause-desk g c =
    let before = c.requires.desk in
    let old = c.args.desk.now.writer in
    let same = ap (λ w. w.heap) c.call-reply.ensures.same ∙ (c.place.ensures.same_heap old (c.since_is_transitive.ensures.itself old)).heap in
    let words = ap (λ h. h.words) same in
    let stored = ap (λ w. w.stores) c.call-reply.ensures.same ∙ c.in_ok-place.ensures.stores in
    let placed = c.in_ok-place.ensures.stands.few in
    let message = ap (λ m. tree_words c.args.table.now m c.args.tree.now) c.message_of-message.ensures.place in
    record {
      heap_of = c.send.ensures.heap ∙ before.heap_of ∙ sym same;
      least_heap = omega (arith, words, before.least_heap);
      greatest_heap = omega (arith, words, before.greatest_heap);
      least_receive = before.least_receive;
      greatest_receive = before.greatest_receive;
      few_slices = before.few_slices;
      counted = omega (arith, before.counted, ap length c.in_ok-send.ensures.sent, length-append c.args.sender.now.sent);
      few = omega (
        arith,
        before.few,
        ap length stored,
        length-append c.args.desk.now.writer.stores c.in_ok-place.field-0.words,
        placed,
        message,
        c.requires.fits,
        div-le_self (old.heap.words - 2) (c.args.desk.now.ring + 2),
        before.greatest_heap,
      );
    }
