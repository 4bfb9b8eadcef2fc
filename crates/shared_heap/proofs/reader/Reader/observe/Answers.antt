use Rattle.std.proofs.Common.{◌≡◌, sym, ap, ◌∙◌, subst, arith}
use Rattle.std.specs.Arc.{arc_value}
use Rattle.atomic_table.specs.Seated.{TableId}
use Rattle.shared_heap.specs.Rule.{Seated, HasLearned}
use Rattle.shared_heap.proofs.Steps.{settles_it, splits_it, joins_it}
use Rattle.shared_heap.proofs.Freshness.{numbered_later}
use Rattle.shared_heap.proofs.reader.Reader.observe.Goals as goal

pub split_seat-theirs-requires : goal.split_seat-theirs-requires
split_seat-theirs-requires c =
    let i = c.self.invariant in
    let t = (arc_value c.self.inside.words).shared in
    let one_heap : c.note.inside.seat.table_id ≡ c.self.inside.seat.table_id = rw (← c.self.view_is, ← c.note.view_is) at c.requires in
    let words = ap (λ (z : TableId). z.words) i.of_table in
    rw c.deref.ensures (one_heap ∙ i.of_table, omega (arith, i.some_words, words), splits_it t.key _ _)

pub join_seat-requires : goal.join_seat-requires
join_seat-requires c =
    let i = c.self.invariant in
    let t = (arc_value c.self.inside.words).shared in
    let k = c.split_seat-theirs.ensures in
    let one_heap : c.note.inside.seat.table_id ≡ c.self.inside.seat.table_id = rw (← c.self.view_is, ← c.note.view_is) at c.requires in
    let words = ap (λ (z : TableId). z.words) i.of_table in
    rw c.deref.ensures (i.of_table, k.3 ∙ one_heap ∙ i.of_table, ap (λ (m : Seated). m.1) k.4, omega (arith, i.some_words, words), joins_it t.key _ _ _ _)

pub load-requires : goal.load-requires
load-requires c =
    let i = c.self.invariant in
    let t = (arc_value c.self.inside.words).shared in
    let j = c.join_seat.ensures in
    let words = ap (λ (z : TableId). z.words) i.of_table in
    rw c.deref.ensures (j.0 ∙ i.of_table, omega (arith, i.some_words, words), settles_it t.key t.table_id.slots _ c.join_seat.new.seat.me 0)

pub invariant_of-self : goal.invariant_of-self
invariant_of-self c =
    let i = c.self.invariant in
    let j = c.join_seat.ensures in
    let same = c.load.ensures.0 ∙ j.0 in
    let words = ap (λ (z : TableId). z.words) same in
    let l = c.load.ensures.2 in
    record {
      of_table = same ∙ i.of_table;
      sized = i.sized ∙ sym words;
      some_words = omega (arith, i.some_words, words);
      empty = l.slots ∙ ap (λ (m : Seated). m.1) j.2 ∙ i.empty;
      numbered = rw (l.loads, ap (λ (m : Seated). m.0.loads) j.2) (numbered_later _ _ _ (subst (λ (m : Seated). HasLearned m.0 c.load.new.seat.me.0) j.2 l.learns).known i.numbered);
    }
