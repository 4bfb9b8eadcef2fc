use Rattle.std.proofs.Common.{◌<◌, ap, arith}
use Rattle.std.specs.Arc.{arc_value}
use Rattle.atomic_table.specs.Seated.{TableId}
use Rattle.shared_heap.proofs.Steps.{stores_as}
use Rattle.shared_heap.proofs.writer.WriterStores.store.Goals as goal

pub store-requires : goal.store-requires
store-requires c =
    let i = c.self.invariant in
    let t = (arc_value c.self.inside.words).shared in
    let p : c.args.place < c.self.inside.seat.table_id.words = rw (← c.self.view_is) at c.requires.in_heap in
    let words = ap (λ (z : TableId). z.words) i.of_table in
    let inside : c.args.place < t.key = omega (arith, p, i.sized) in
    rw c.deref.ensures (i.of_table, omega (arith, p, words), stores_as t.key t.table_id.slots _ _ _ c.args.place c.args.value i.keeps inside)
