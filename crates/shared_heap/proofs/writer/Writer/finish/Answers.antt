use Rattle.std.proofs.Common.{◌≡◌, true, ap, arith}
use Rattle.std.specs.Arc.{arc_value}
use Rattle.atomic_table.specs.Seated.{TableId}
use Rattle.shared_heap.specs.Rule.{Seated}
use Rattle.shared_heap.proofs.Steps.{ends_it}
use Rattle.shared_heap.proofs.writer.Writer.finish.Goals as goal

pub split_seat-last-requires : goal.split_seat-last-requires
split_seat-last-requires c =
    let i = c.self.invariant in
    let t = (arc_value c.self.inside.words).shared in
    let words = ap (λ (z : TableId). z.words) i.of_table in
    let may : c.self.inside.seat.me.0.writes ≡ true = ap (λ (m : Seated). m.0.writes) i.keeps in
    rw c.deref.ensures (i.of_table, omega (arith, i.some_words, words), ends_it t.key _ _ may)
