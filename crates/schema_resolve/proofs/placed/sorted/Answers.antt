use Rattle.std.proofs.Common.{◌≡◌, length, sym, subst, arith, ℕ, List, get_or}
use Rattle.schema_resolve.proofs.Orders.{AreKnown, known_none, known_more, order_of}
use Rattle.schema_resolve.proofs.placed.sorted.Goals as goal

pub loop-i-init : goal.loop-i-init
loop-i-init c = known_none _ _ c.in_ok-pairs.ensures.items

pub loop-i-preserved : goal.loop-i-preserved
loop-i-preserved c =
    let P : List ℕ → Type 0 = λ name. name ≡ get_or c.args.names.now c.loop-i.i name in
    known_more c.args.names.now c.loop-i.i c.as_slice.result c.loop-i.pairs.items c.push.new.self.items (omega arith)
    (subst P (sym c.as_slice.ensures) c.index-names-i.is) c.in_ok-push.ensures.items c.loop-i.invariant

pub returns : goal.returns
returns c =
    let e : c.loop-i.i ≡ length c.args.names.now = omega arith in
    order_of c.args.names.now c.loop-i.pairs.items c.sort.new.self.items c.requires
    (subst (λ (n : ℕ). AreKnown c.args.names.now n c.loop-i.pairs.items) e c.loop-i.invariant)
    c.in_ok-sort.ensures.permutation c.in_ok-sort.ensures.sorted
