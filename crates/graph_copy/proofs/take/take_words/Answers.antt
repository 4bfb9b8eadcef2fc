use Rattle.std.proofs.Common.{◌≡◌, ◌+◌, [], ◌∷◌, ◌++◌, length, sym, ap, subst, ◌∙◌, arith, append_assoc, length-append}
use Rattle.mrpc_base.specs.Heap.{AreLoads}
use Rattle.graph_copy.specs.Expected.{expected, next_word}
use Rattle.graph_copy.proofs.Leading.{at_some, stops_at_limit, stops_at_word, goes_on, after_more}
use Rattle.graph_copy.proofs.take.take_words.Goals as goal

pub returns-then-len-limit-clause-outcome : goal.returns-then-len-limit-clause-outcome
returns-then-len-limit-clause-outcome g c =
    let T = c.args.table.now in
    let word = at_some _ _ c.in_ok-next.field-0 c.in-Some.next c.in-Some.is c.in_ok-next.ensures.word in
    stops_at_limit T c.args.walk.now.size c.args.limit (expected T c.args.walk.now) (expected T c.loop-next.walk)
    (expected T c.next.new.self) c.loop-next.loads.items (next_word T c.next.new.self.bytes.items c.in-Some.next)
    c.loop-next.invariant.leads word (omega arith)

pub returns-in_err-reason-clause-changes : goal.returns-in_err-reason-clause-changes
returns-in_err-reason-clause-changes g c =
    let items : c.push_reserved.new.self.items ≡ c.loop-next.loads.items
    ++ (c.place-place.result, c.load-value.result) ∷ [] = c.push_reserved.ensures.items
    ∙ ap (λ xs. xs ++ (c.place-place.result, c.load-value.result) ∷ []) c.in_ok-reserve.ensures.items in
    subst (λ xs. AreLoads g.W.Words.after_load c.args.words.now xs c.load-value.new.self) (sym items)
    (after_more g.W.Words.after_load c.args.words.now c.loop-next.words c.load-value.new.self c.loop-next.loads.items
    c.place-place.result c.load-value.result c.loop-next.invariant.after c.load-value.ensures.changes)

pub returns-in-Some-2-clause-changes : goal.returns-in-Some-2-clause-changes
returns-in-Some-2-clause-changes g c =
    let items : c.push_reserved.new.self.items ≡ c.loop-next.loads.items
    ++ (c.place-place.result, c.load-value.result) ∷ [] = c.push_reserved.ensures.items
    ∙ ap (λ xs. xs ++ (c.place-place.result, c.load-value.result) ∷ []) c.in_ok-reserve.ensures.items in
    subst (λ xs. AreLoads g.W.Words.after_load c.args.words.now xs c.load-value.new.self) (sym items)
    (after_more g.W.Words.after_load c.args.words.now c.loop-next.words c.load-value.new.self c.loop-next.loads.items
    c.place-place.result c.load-value.result c.loop-next.invariant.after c.load-value.ensures.changes)

pub returns-in-Some-2-clause-outcome : goal.returns-in-Some-2-clause-outcome
returns-in-Some-2-clause-outcome g c =
    let T = c.args.table.now in
    let items : c.push_reserved.new.self.items ≡ c.loop-next.loads.items
    ++ (c.place-place.result, c.load-value.result) ∷ [] = c.push_reserved.ensures.items
    ∙ ap (λ xs. xs ++ (c.place-place.result, c.load-value.result) ∷ []) c.in_ok-reserve.ensures.items in
    let word = at_some _ _ c.in_ok-next.field-0 c.in-Some.next c.in-Some.is c.in_ok-next.ensures.word in
    stops_at_word T c.args.walk.now.size c.args.limit (expected T c.args.walk.now) (expected T c.loop-next.walk)
    (expected T c.next.new.self) c.loop-next.loads.items c.push_reserved.new.self.items
    (next_word T c.next.new.self.bytes.items c.in-Some.next)
    c.place-place.result c.load-value.result c.next.new.self c.follow.new.self c.in_ok-reason.field-0 c.in-Some-2.reason
    c.loop-next.invariant.leads word items (c.place-place.ensures T c.next.new.self.bytes.items) c.load-value.type_inv
    (omega (arith, c.len.ensures, c.if-len-limit.false)) c.in-Some-2.is
    (c.in_ok-next.ensures.size ∙ c.loop-next.invariant.same) c.in_ok-reason.ensures.follows

pub loop-next-preserved : goal.loop-next-preserved
loop-next-preserved g c =
    let T = c.args.table.now in
    let items : c.push_reserved.new.self.items ≡ c.loop-next.loads.items
    ++ (c.place-place.result, c.load-value.result) ∷ [] = c.push_reserved.ensures.items
    ∙ ap (λ xs. xs ++ (c.place-place.result, c.load-value.result) ∷ []) c.in_ok-reserve.ensures.items in
    let word = at_some _ _ c.in_ok-next.field-0 c.in-Some.next c.in-Some.is c.in_ok-next.ensures.word in
    let on = goes_on T c.args.walk.now.size (expected T c.args.walk.now) (expected T c.loop-next.walk)
    c.loop-next.loads.items c.push_reserved.new.self.items
    (next_word T c.next.new.self.bytes.items c.in-Some.next)
    c.place-place.result c.load-value.result c.next.new.self c.follow.new.self c.in_ok-reason.field-0
    c.loop-next.invariant.leads c.loop-next.invariant.fits word items
    (c.place-place.ensures T c.next.new.self.bytes.items) c.load-value.type_inv c.in_default-2.is
    (c.in_ok-next.ensures.size ∙ c.loop-next.invariant.same) c.in_ok-reason.ensures.follows in
    let count : length c.push_reserved.new.self.items ≡ length c.loop-next.loads.items + 1 =
    omega (
      arith,
      ap length items,
      length-append c.loop-next.loads.items ((c.place-place.result, c.load-value.result) ∷ []),
    ) in
    record {
      leads = on.leads;
      fits = on.fits;
      same = c.in_ok-reason.ensures.size ∙ c.in_ok-next.ensures.size ∙ c.loop-next.invariant.same;
      size = c.load-value.ensures.size ∙ c.loop-next.invariant.size;
      adds = c.load-value.ensures.loaded ∙ ap (λ xs. xs ++ (c.place-place.result, c.load-value.result) ∷ [])
          c.loop-next.invariant.adds ∙ append_assoc (g.W.Words.loads c.args.words.now) c.loop-next.loads.items
          ((c.place-place.result, c.load-value.result) ∷ []) ∙ ap (λ xs. g.W.Words.loads c.args.words.now ++ xs)
          (sym items);
      after = subst (λ xs. AreLoads g.W.Words.after_load c.args.words.now xs c.load-value.new.self) (sym items)
          (after_more g.W.Words.after_load c.args.words.now c.loop-next.words c.load-value.new.self
          c.loop-next.loads.items c.place-place.result c.load-value.result c.loop-next.invariant.after
          c.load-value.ensures.changes);
      room = omega (arith, count, c.loop-next.invariant.room, c.load-value.ensures.lowered);
      few = omega (arith, count, c.len.ensures);
    }
