use Rattle.std.proofs.Common.{◌<◌, ap, arith}
use Rattle.std.specs.Arc.{arc_value}
use Rattle.atomic_table.specs.Seated.{TableId}
use Rattle.tenant_quota.proofs.Steps.{draws_it}
use Rattle.tenant_quota.proofs.seat.Seat.draw.Goals as goal

pub fetch_add-requires : goal.fetch_add-requires
fetch_add-requires c =
    let i = c.self.invariant in
    let t = (arc_value c.self.inside.words).shared in
    let p : c.args.window < c.self.inside.seat.table_id.words = rw (← c.self.view_is) at c.requires in
    let words = ap (λ (z : TableId). z.words) i.of_table in
    let inside : c.args.window < t.key = omega (arith, p, i.sized) in
    rw c.deref.ensures (i.of_table, omega (arith, p, words), draws_it t.key t.table_id.slots c.self.inside.seat.id c.args.window c.self.inside.seat.me i.shares inside)
