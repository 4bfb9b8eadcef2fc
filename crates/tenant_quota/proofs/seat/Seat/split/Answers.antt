use Rattle.std.proofs.Common.{◌≤◌, sym, ap, ◌∙◌, arith}
use Rattle.std.specs.Arc.{arc_value}
use Rattle.atomic_table.specs.Seated.{TableId}
use Rattle.tenant_quota.specs.Rule.{Seated}
use Rattle.tenant_quota.proofs.Steps.{settles_it, splits_it}
use Rattle.tenant_quota.proofs.seat.Seat.split.Goals as goal

pub split_seat-seat-requires : goal.split_seat-seat-requires
split_seat-seat-requires c =
    let i = c.self.invariant in
    let t = (arc_value c.self.inside.words).shared in
    let two : 2 ≤ c.self.inside.seat.me.0.share = rw (← c.self.view_is) at c.requires in
    let words = ap (λ (z : TableId). z.words) i.of_table in
    rw c.deref.ensures (i.of_table, omega (arith, i.some_windows, words), splits_it t.key _ _ two)

pub load-requires : goal.load-requires
load-requires c =
    let i = c.self.invariant in
    let t = (arc_value c.self.inside.words).shared in
    let j = c.split_seat-seat.ensures in
    let words = ap (λ (z : TableId). z.words) i.of_table in
    rw c.deref.ensures (j.0 ∙ i.of_table, omega (arith, i.some_windows, words), settles_it t.key t.table_id.slots _ 0 c.split_seat-seat.new.seat.me)

pub invariant_of-self : goal.invariant_of-self
invariant_of-self c =
    let i = c.self.invariant in
    let j = c.split_seat-seat.ensures in
    let same = c.load.ensures.0 ∙ j.0 in
    let words = ap (λ (z : TableId). z.words) same in
    let l = c.load.ensures.2 in
    let two : 2 ≤ c.self.inside.seat.me.0.share = rw (← c.self.view_is) at c.requires in
    let me = l.same ∙ j.2 in
    let share = ap (λ (m : Seated). m.0.share) me in
    record {
      of_table = same ∙ i.of_table;
      sized = i.sized ∙ sym words;
      some_windows = omega (arith, i.some_windows, words);
      knows = ap (λ (m : Seated). m.0.windows) me ∙ i.knows ∙ sym words;
      empty = ap (λ (m : Seated). m.1) me ∙ i.empty;
      shares = omega (arith, two, share);
      once = l.once;
    }
