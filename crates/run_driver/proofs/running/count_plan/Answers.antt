use Rattle.run_driver.proofs.running.count_plan.Goals as goal

pub returns-clause-ran : goal.returns-clause-ran
returns-clause-ran g c = let told = c.in_ok-_parts.ensures.ran in (told.0, told.2)
