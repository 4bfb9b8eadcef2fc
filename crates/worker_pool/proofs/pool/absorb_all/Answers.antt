use Rattle.std.proofs.Common.{rules}
use Rattle.std.proofs.lemmas.List.Elements.{All-pop}
use Rattle.crossbeam_queue.specs.Passes.{view}
use Rattle.worker_pool.specs.Workers.{HasEnded, IsOfRun}
use Rattle.worker_pool.proofs.pool.absorb_all.Goals as goal

pub absorb-requires-clause-other_worker : goal.absorb-requires-clause-other_worker
absorb-requires-clause-other_worker g c =
    let i = c.loop-worker.invariant in
    let ends = All-pop (HasEnded g.T.PoolItem.since g.T.PoolItem.over (g.S.StopFlag.may_be_set c.args._stop.now))
    c.loop-worker.ended.items c.pop.new.self.items c.pop.result c.pop.ensures.items i.7 in
    let last = rw c.in-Some.is at ends.1 in
    last.keeps

pub loop-worker-preserved : goal.loop-worker-preserved
loop-worker-preserved g c =
    let i = c.loop-worker.invariant in
    let runs = All-pop (IsOfRun c.args.line.now (view c.args.all.now.pass).firsts) c.loop-worker.ended.items c.pop.new.self.items c.pop.result c.pop.ensures.items i.6 in
    let ends = All-pop (HasEnded g.T.PoolItem.since g.T.PoolItem.over (g.S.StopFlag.may_be_set c.args._stop.now))
    c.loop-worker.ended.items c.pop.new.self.items c.pop.result c.pop.ensures.items i.7 in (
      search rules,
      search rules,
      search rules,
      search rules,
      search rules,
      search rules,
      runs.0,
      ends.0,
    )
