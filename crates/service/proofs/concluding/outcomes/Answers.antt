use Rattle.std.proofs.Common.{◌≡◌, List, [], ◌∷◌, ◌++◌, ◌+◌, ◌∙◌, ap, append_assoc, append-nil, arith, length, map, sym}
use Rattle.std.specs.Vec.Iter.{into_iter_items, into_iter_len}
use Rattle.tenant_quota.specs.Drawing.{Drawing}
use Rattle.service_threads.specs.declared.reconciling.ReconciledConnection.{ReconciledConnection}
use Rattle.service.specs.Concluding.{unmatched_of, outcomes_of}
use Rattle.service.proofs.Ending.{at-end, empty-list}
use Rattle.service.proofs.concluding.outcomes.Goals as goal

pub loop-one-init : goal.loop-one-init
loop-one-init g c = (
  sym (ap (λ xs. xs ++ outcomes_of (into_iter_items c.into_iter-rest.result) (into_iter_items c.into_iter-met.result))
      c.in_ok-conns.ensures.items
      ∙ ap (λ xs. outcomes_of xs (into_iter_items c.into_iter-met.result)) c.into_iter-rest.ensures.rest
      ∙ ap (λ xs. outcomes_of c.args.standings.items xs) c.into_iter-met.ensures.rest),
  sym (ap (λ xs. unmatched_of xs (into_iter_items c.into_iter-met.result)) c.into_iter-rest.ensures.rest
      ∙ ap (λ xs. unmatched_of c.args.standings.items xs) c.into_iter-met.ensures.rest),
  ap (λ (xs : List (List Drawing)). xs ++ map (λ (m : ReconciledConnection g.row.L.Denot). m.seats)
      (into_iter_items c.into_iter-met.result)) c.requires
      ∙ ap (λ xs. map (λ (m : ReconciledConnection g.row.L.Denot). m.seats) xs) c.into_iter-met.ensures.rest,
)

pub loop-one-smaller : goal.loop-one-smaller
loop-one-smaller g c =
    let less : length (into_iter_items c.loop-one.rest) ≡ length (c.in-Some.one ∷ into_iter_items c.next.new.self) =
    ap length c.in-Some.ensures.items in
    omega (arith, less)

pub loop-one-preserved : goal.loop-one-preserved
loop-one-preserved g c =
    let rest = into_iter_items c.next.new.self in
    let met = into_iter_items c.outcome_of.new.met in (
      c.loop-one.invariant.0
          ∙ ap (λ xs. c.loop-one.conns.items ++ outcomes_of xs (into_iter_items c.loop-one.met)) c.in-Some.ensures.items
          ∙ ap (λ xs. c.loop-one.conns.items ++ xs) (c.in_ok-conn.ensures.conn rest)
          ∙ sym (append_assoc c.loop-one.conns.items (c.in_ok-conn.conn ∷ []) (outcomes_of rest met))
          ∙ ap (λ xs. xs ++ outcomes_of rest met) (sym c.in_ok-push.ensures.items),
      c.loop-one.invariant.1
          ∙ ap (λ xs. unmatched_of xs (into_iter_items c.loop-one.met)) c.in-Some.ensures.items
          ∙ c.in_ok-conn.ensures.left rest,
      c.in_ok-conn.ensures.seats ∙ c.loop-one.invariant.2,
    )

pub returns : goal.returns
returns g c =
    let ends = at-end c.next.result
    ((into_iter_len c.loop-one.rest ≡ 0) × (into_iter_len c.next.new.self ≡ 0))
    (λ x. (into_iter_items c.loop-one.rest ≡ x ∷ into_iter_items c.next.new.self)
    × (into_iter_len c.next.new.self + 1 ≡ into_iter_len c.loop-one.rest))
    c.in_default.not-Some c.next.ensures.cases in
    let none : into_iter_items c.loop-one.rest ≡ [] =
    empty-list (into_iter_items c.loop-one.rest) (sym c.loop-one.rest.rest.ok.0 ∙ ends.0) in
    let met = into_iter_items c.loop-one.met in record {
      conns = sym (c.loop-one.invariant.0 ∙ ap (λ xs. c.loop-one.conns.items ++ outcomes_of xs met) none
          ∙ append-nil c.loop-one.conns.items);
      seats = ap (λ xs. c.loop-one.others.items ++ map (λ (m : ReconciledConnection g.row.L.Denot). m.seats) xs)
          (c.loop-one.invariant.1 ∙ ap (λ xs. unmatched_of xs met) none)
          ∙ c.loop-one.invariant.2;
    }
