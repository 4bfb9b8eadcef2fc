use Rattle.std.proofs.Common.{◌≡◌, sym, subst}
use Rattle.std.proofs.lemmas.Result.{IfOk-weaker}
use Rattle.run_plan.specs.Plans.{IsPlan}
use Rattle.run_plan.specs.declared.plan.Plan.{Plan}
use Rattle.drill.specs.Drill.{drill}
use Rattle.drill.proofs.Promises.{promises}
use Rattle.drill.proofs.plan.drill_plan.Goals as goal

pub returns-clause-sound : goal.returns-clause-sound
returns-clause-sound c =
    IfOk-weaker c.plan.result (λ (p : Plan). p ≡ drill c.args.calls) IsPlan
    (λ p is. subst IsPlan (sym is) (promises c.args.calls c.requires)) c.plan.ensures
