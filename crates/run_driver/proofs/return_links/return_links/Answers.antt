use Rattle.std.proofs.Common.{◌≡◌, ◌++◌, [], ◌∷◌, length, map, refl, sym, ap, ◌∙◌, append_assoc, append-nil, length-append, arith, rules}
use Rattle.std.proofs.lemmas.List.Sorted.{IsPermutation-cons, IsPermutation-refl, IsPermutation-trans}
use Rattle.run_driver.specs.Running.{numbered_link}
use Rattle.run_driver.proofs.return_links.return_links.Goals as goal

pub loop-one-init : goal.loop-one-init
loop-one-init g c = (
  [],
  sym (append-nil c.args.conns.items),
  IsPermutation-refl (g.F.Fabric.back c.args.fabric.now),
  omega arith,
  refl,
)

pub keep-requires : goal.keep-requires
keep-requires g c =
    let so = c.loop-one.invariant in
    omega (
      arith,
      c.requires,
      ap length so.1,
      length-append c.loop-one.left.items so.0,
      ap length c.in-Some.ensures.items,
      length-append c.pop.new.self.items (c.in-Some.one ∷ []),
      so.3,
    )

pub loop-one-preserved : goal.loop-one-preserved
loop-one-preserved g c =
    let so = c.loop-one.invariant in
    let one = c.in-Some.one in
    let more = c.pop.new.self.items in
    let first = g.F.Fabric.back c.args.fabric.now in (
      one ∷ so.0,
      so.1 ∙ ap (λ l. l ++ so.0) c.in-Some.ensures.items ∙ append_assoc more (one ∷ []) so.0,
      IsPermutation-trans (g.F.Fabric.back c.keep.new.self) (numbered_link one ∷ g.F.Fabric.back c.loop-one.fabric)
          (numbered_link one ∷ (map numbered_link so.0 ++ first)) c.keep.ensures.back
          (IsPermutation-cons (numbered_link one) (g.F.Fabric.back c.loop-one.fabric) (map numbered_link so.0 ++ first) so.2),
      omega (arith, c.keep.ensures.away, so.3),
      c.keep.ensures.same_faults ∙ so.4,
    )

pub returns-clause-back : goal.returns-clause-back
returns-clause-back g c =
    let so = c.loop-one.invariant in
    let none : c.loop-one.left.items ≡ [] = search rules in
    let all : c.args.conns.items ≡ so.0 = so.1 ∙ ap (λ l. l ++ so.0) none in
    rw all so.2

pub returns-clause-away : goal.returns-clause-away
returns-clause-away g c =
    let so = c.loop-one.invariant in
    let none : c.loop-one.left.items ≡ [] = search rules in
    let all : c.args.conns.items ≡ so.0 = so.1 ∙ ap (λ l. l ++ so.0) none in
    omega (arith, ap length all, so.3)

pub returns-clause-failures : goal.returns-clause-failures
returns-clause-failures g c = c.loop-one.invariant.4
