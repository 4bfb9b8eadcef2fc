use Rattle.std.proofs.Common.{◌≡◌, sym, ◌∙◌}
use Rattle.crossbeam_queue.specs.Passes.{view}
use Rattle.worker_pool.proofs.pool.run.Goals as goal

pub absorb_all-requires-clause-of_run : goal.absorb_all-requires-clause-of_run
absorb_all-requires-clause-of_run g c κs within =
    let same : (view c.start.new.pass).firsts ≡ (view c.enter_all.new.pass).firsts = c.start.ensures.firsts in
    c.in_ok-ended.ensures.of_run (view c.start.new.pass).firsts (λ k d lt. c.in_ok-jobs.ensures.know k d lt ∙ sym same)
