use Rattle.mrpc_top.proofs.run.run_named.Goals as goal

pub returns-in-Scenario-clause-cut_short : goal.returns-in-Scenario-clause-cut_short
returns-in-Scenario-clause-cut_short g c e = rw c.in-Scenario.is (c.run_input.ensures.cut_short e)

pub returns-in-Drill-clause-cut_short : goal.returns-in-Drill-clause-cut_short
returns-in-Drill-clause-cut_short g c e = rw c.in-Drill.is (c.run_drill.ensures.cut_short _ _ e)
