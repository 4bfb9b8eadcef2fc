use Rattle.std.proofs.Common.{sym, subst, arith}
use Rattle.std.specs.Prelude.{All}
use Rattle.std.specs.List.{AllZip}
use Rattle.crossbeam_queue.specs.Passes.{view}
use Rattle.worker_pool.specs.Later.{IsLater}
use Rattle.worker_pool.proofs.Orders.{all_of_items, as_many, every_permutation, in_place}
use Rattle.worker_pool.proofs.worker.Worker.into_items.Goals as goal

pub put_items-requires-clause-room : goal.put_items-requires-clause-room
put_items-requires-clause-room g c =
    let n = as_many (view c.args.self.pass).firsts c.args.self.kept.items c.by_number.result.items c.requires.once c.by_number.ensures.same in
    let room = c.requires.room in
    omega (arith, n, room)

pub returns-clause-each : goal.returns-clause-each
returns-clause-each g c =
    let place = in_place g.T.PoolItem.since (view c.args.self.pass).firsts c.args.self.kept.items
    c.by_number.result.items c.requires.once c.by_number.ensures.same c.by_number.ensures.order
    c.requires.worker.ones in
    subst (λ items. AllZip (IsLater g.T.PoolItem.since) (view c.args.self.pass).firsts items) (sym c.put_items.ensures) place

pub returns-clause-over : goal.returns-clause-over
returns-clause-over g c on =
    let ends = every_permutation (λ x. g.T.PoolItem.over x.item.value) c.args.self.kept.items c.by_number.result.items c.by_number.ensures.same (c.requires.worker.ends on) in
    subst (λ items. All g.T.PoolItem.over items) (sym c.put_items.ensures) (all_of_items g.T.PoolItem.over c.by_number.result.items ends)
