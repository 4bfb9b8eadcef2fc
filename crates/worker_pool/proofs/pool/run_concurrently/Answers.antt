use Rattle.std.proofs.Common.{◌≡◌, ◌<◌, length, rules, slice_index_or, subst, arith}
use Rattle.std.specs.Prelude.{Result, Ok, Err, IfOk}
use Rattle.crossbeam_queue.specs.Passes.{view}
use Rattle.worker_pool.specs.Workers.{IsOfRun, Knows}
use Rattle.worker_pool.proofs.pool.run_concurrently.Goals as goal

if_ok_both : {A E : Type 0} (r : Result A E) (P Q R : A → Type 0) → ((a : A) → P a → Q a → R a) → IfOk r P → IfOk r Q → IfOk r R
if_ok_both (Ok a) P Q R step p q = step a p q
if_ok_both (Err e) P Q R step p q = tt

pub returns-clause-of_run : goal.returns-clause-of_run
returns-clause-of_run g c firsts know =
    if_ok_both c.map_vec.result _ _ _
    (λ ended len each k d lt.
    let within : k < length c.args.jobs.items = omega (arith, lt, len) in
    let gives = (each k d within).1 in
    let knows : (view gives.job.pass).firsts ≡ firsts = subst (Knows firsts) (gives.job_is d) (know k d within) in
    let met = gives.call.met in
    let of_run : IsOfRun c.args.line.now (view gives.job.pass).firsts (slice_index_or ended.items k d) = search rules in
    subst (λ l. IsOfRun c.args.line.now l (slice_index_or ended.items k d)) knows of_run)
    c.map_vec.ensures.len c.map_vec.ensures.each
