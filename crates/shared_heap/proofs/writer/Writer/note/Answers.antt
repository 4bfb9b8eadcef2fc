use Rattle.std.proofs.Common.{ap, arith}
use Rattle.std.specs.Arc.{arc_value}
use Rattle.atomic_table.specs.Seated.{TableId}
use Rattle.shared_heap.proofs.Steps.{splits_it}
use Rattle.shared_heap.proofs.writer.Writer.note.Goals as goal

pub split_seat-seat-requires : goal.split_seat-seat-requires
split_seat-seat-requires c =
    let i = c.self.invariant in
    let t = (arc_value c.self.inside.words).shared in
    let words = ap (λ (z : TableId). z.words) i.of_table in
    rw c.deref.ensures (i.of_table, omega (arith, i.some_words, words), splits_it t.key _ _)
