use Rattle.std.proofs.Common.{inl, inr, refl}
use Rattle.mrpc_top.specs.Runs.HasStoppedRun.{in_telling, silent}
use Rattle.mrpc_top.proofs.RunAnswers.{nothing-told, tells-drill, tells-scenario}
use Rattle.mrpc_top.proofs.run.run_and_report.Goals as goal

pub returns-in-Ok-clause-cut_short : goal.returns-in-Ok-clause-cut_short
returns-in-Ok-clause-cut_short g c left left' says e =
    elim e [
      | inl memory ↦ absurd (c.write_report-status.ensures.memory memory)
      | inr failed ↦
          in_telling _ _
          (tells-scenario _ _ _ _ _ _ c.args.running left c.args.plan.now _ _ _ refl _ c.in-Scenario.is says
          c.in-Ok.ensures.ran) (c.write_report-status.ensures.front failed)
    ]

pub returns-in-Ok-count_plan-clause-done : goal.returns-in-Ok-count_plan-clause-done
returns-in-Ok-count_plan-clause-done g c left says done =
    let told = c.write_drill_line-status.ensures.done done in
    let ran = c.in-Ok-count_plan.ensures.ran in
    record {
      told = told.1.0;
      may = tells-drill _ _ _ _ _ _ c.args.running left c.args.plan.now _ _ _ told.0 _ ran.0 told.1.0
          c.totals_are_counts.ensures.sums c.drills_add_up.ensures.none_stands c.drills_add_up.ensures.all_went
          c.drills_are_bound.ensures.took c.in-Drill.is says ran.1 told.1.1;
      written = told.1.2;
    }

pub returns-in-Ok-count_plan-clause-link : goal.returns-in-Ok-count_plan-clause-link
returns-in-Ok-count_plan-clause-link g c left says failed =
    let told = c.write_drill_line-status.ensures.link failed in
    let ran = c.in-Ok-count_plan.ensures.ran in
    record {
      told = told.1.0;
      may = tells-drill _ _ _ _ _ _ c.args.running left c.args.plan.now _ _ _ told.0 _ ran.0 told.1.0
          c.totals_are_counts.ensures.sums c.drills_add_up.ensures.none_stands c.drills_add_up.ensures.all_went
          c.drills_are_bound.ensures.took c.in-Drill.is says ran.1 told.1.1;
      written = told.1.2;
    }

pub returns-in-Ok-count_plan-clause-cut_short : goal.returns-in-Ok-count_plan-clause-cut_short
returns-in-Ok-count_plan-clause-cut_short g c left left' says e =
    let ran = c.in-Ok-count_plan.ensures.ran in
    elim e [
      | inl memory ↦ silent (nothing-told g.K.Sink.written c.args.out.now c.write_drill_line-status.new.out (c.write_drill_line-status.ensures.silent memory))
      | inr failed ↦
          let front = c.write_drill_line-status.ensures.front failed in
          in_telling _ front.0
          (tells-drill _ _ _ _ _ _ c.args.running left c.args.plan.now _ _ _ refl _ ran.0 front.0
          c.totals_are_counts.ensures.sums c.drills_add_up.ensures.none_stands c.drills_add_up.ensures.all_went
          c.drills_are_bound.ensures.took c.in-Drill.is says ran.1 front.1) front.2
    ]
