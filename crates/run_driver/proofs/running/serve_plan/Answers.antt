use Rattle.std.proofs.Common.{ℕ, List, subst}
use Rattle.std.proofs.lemmas.Result.{IfOk-weaker}
use Rattle.run_driver.specs.Running.{HasRun}
use Rattle.run_driver.proofs.running.serve_plan.Goals as goal

pub returns-clause-ran : goal.returns-clause-ran
returns-clause-ran g c =
    IfOk-weaker c.serve_or_count.result _ _ (λ ran told.
    subst (λ (text : List ℕ). HasRun g.C.Clock g.F.L.Link g.F.Fabric.pair c.args.plan.now c.args.clock.now
    (g.F.Fabric.back c.args.fabric.now) (g.F.Fabric.back c.serve_or_count.new.fabric) text ran.totals ran.failed) told.1 told.2)
    c.serve_or_count.ensures.ran
