use Rattle.std.proofs.Common.{◌≡◌, ◌≢◌, All, ap, sym, ◌∙◌, subst, refl, List, [], ◌∷◌, ◌++◌}
use Rattle.receive_core.specs.Turns.{ReceiverState}
use Rattle.receive_heap.specs.declared.extents.Block.{Block}
use Rattle.message_delivery.proofs.Reclaiming.{HasJudged, HasJudgedEach, each-back, each-refused, each-same, err-of, judged-back, judged-not, judged-same, ok-of}
use Rattle.message_delivery.proofs.reclaims.Reclaims.reclaim.Goals as goal

pub loop-number-preserved-in_ok-push : goal.loop-number-preserved-in_ok-push
loop-number-preserved-in_ok-push g c = record {
  most = refl;
  judged =
      let held : c.reclaim.new.self ≡ c.loop-number.inbound =
      err-of c.reclaim.result (sym c.is_err.ensures.value ∙ c.if-is_err.true) c.reclaim.ensures.err in
      judged-not c.args.self.now c.loop-number.self _ c.args.inbound.now.heap.held c.reclaim.new.self.heap.held
      c.in-Some.number
      (subst (λ (b : List Block). HasJudged c.args.self.now c.loop-number.self c.args.inbound.now.heap.held b)
      (sym (ap (λ (i : ReceiverState). i.heap.held) held)) c.loop-number.invariant.judged)
      (λ numbers h. let k = c.in-Some.ensures.some numbers h in record {
        taken = k.taken;
        count = k.count;
        closed = k.closed;
      })
      (c.in_ok-push.ensures.items ∙ ap (λ xs. xs ++ c.in-Some.number ∷ []) c.next.ensures.not_held);
  each =
      let held : c.reclaim.new.self ≡ c.loop-number.inbound =
      err-of c.reclaim.result (sym c.is_err.ensures.value ∙ c.if-is_err.true) c.reclaim.ensures.err in
      let blocks = sym (ap (λ (i : ReceiverState). i.heap.held) held) in
      each-refused c.args.self.now c.loop-number.self _ c.args.inbound.now.heap.held c.reclaim.new.self.heap.held
      c.in-Some.number
      (subst (λ (b : List Block). HasJudgedEach c.args.self.now c.loop-number.self c.args.inbound.now.heap.held b)
      blocks c.loop-number.invariant.each)
      (λ numbers h. let k = c.in-Some.ensures.some numbers h in record {
        taken = k.taken;
        count = k.count;
        closed = k.closed;
      })
      (c.in_ok-push.ensures.items ∙ ap (λ xs. xs ++ c.in-Some.number ∷ []) c.next.ensures.not_held)
      (subst (All (λ (b : Block). b.number ≢ c.in-Some.number)) blocks
      (c.reclaim.ensures.not_held.0 (sym c.is_err.ensures.value ∙ c.if-is_err.true)));
  few = λ h. c.in-Some.ensures.judged.1;
  programmed = c.next.ensures.programmed ∙ c.loop-number.invariant.programmed;
  ring = c.next.ensures.ring ∙ c.loop-number.invariant.ring;
  life = λ T life h. c.reclaim.ensures.life T life (c.loop-number.invariant.life T life h);
  conn = c.reclaim.ensures.conn ∙ c.loop-number.invariant.conn;
  fed = c.reclaim.ensures.fed ∙ c.loop-number.invariant.fed;
  words = c.reclaim.ensures.size ∙ c.loop-number.invariant.words;
}

pub loop-number-preserved : goal.loop-number-preserved
loop-number-preserved g c = record {
  most = refl;
  judged = judged-back c.args.self.now c.loop-number.self c.next.new.self c.args.inbound.now.heap.held
      c.loop-number.inbound.heap.held c.reclaim.new.self.heap.held c.in-Some.number c.loop-number.invariant.judged
      c.in-Some.ensures.some c.next.ensures.not_held
      (ok-of c.reclaim.result (sym c.is_err.ensures.value ∙ c.if-is_err.false) c.reclaim.ensures.held);
  each = each-back c.args.self.now c.loop-number.self c.next.new.self c.args.inbound.now.heap.held
      c.loop-number.inbound.heap.held c.reclaim.new.self.heap.held c.in-Some.number c.loop-number.invariant.each
      c.in-Some.ensures.some c.next.ensures.not_held
      (ok-of c.reclaim.result (sym c.is_err.ensures.value ∙ c.if-is_err.false) c.reclaim.ensures.held);
  few = λ h. c.in-Some.ensures.judged.1;
  programmed = c.next.ensures.programmed ∙ c.loop-number.invariant.programmed;
  ring = c.next.ensures.ring ∙ c.loop-number.invariant.ring;
  life = λ T life h. c.reclaim.ensures.life T life (c.loop-number.invariant.life T life h);
  conn = c.reclaim.ensures.conn ∙ c.loop-number.invariant.conn;
  fed = c.reclaim.ensures.fed ∙ c.loop-number.invariant.fed;
  words = c.reclaim.ensures.size ∙ c.loop-number.invariant.words;
}

pub returns-then-not-was_closed-clause-reclaimed : goal.returns-then-not-was_closed-clause-reclaimed
returns-then-not-was_closed-clause-reclaimed g c =
    judged-same c.args.self.now c.loop-number.self c.next.new.self c.args.inbound.now.heap.held
    c.loop-number.inbound.heap.held c.loop-number.invariant.judged c.in_default.ensures.none c.next.ensures.not_held

pub returns-clause-reclaimed : goal.returns-clause-reclaimed
returns-clause-reclaimed g c =
    judged-same c.args.self.now c.loop-number.self c.next.new.self c.args.inbound.now.heap.held
    c.loop-number.inbound.heap.held c.loop-number.invariant.judged c.in_default.ensures.none c.next.ensures.not_held

pub returns-then-not-was_closed-clause-refused : goal.returns-then-not-was_closed-clause-refused
returns-then-not-was_closed-clause-refused g c =
    each-same c.args.self.now c.loop-number.self c.next.new.self c.args.inbound.now.heap.held
    c.loop-number.inbound.heap.held c.loop-number.invariant.each c.in_default.ensures.none c.next.ensures.not_held

pub returns-clause-refused : goal.returns-clause-refused
returns-clause-refused g c =
    each-same c.args.self.now c.loop-number.self c.next.new.self c.args.inbound.now.heap.held
    c.loop-number.inbound.heap.held c.loop-number.invariant.each c.in_default.ensures.none c.next.ensures.not_held
