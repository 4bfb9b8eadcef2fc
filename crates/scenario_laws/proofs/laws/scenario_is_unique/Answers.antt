use Rattle.scenario_laws.proofs.OnePlan.{OneLaws, text_one}
use Rattle.scenario_laws.proofs.laws.scenario_is_unique.Goals as goal

pub returns-clause-one_plan : goal.returns-clause-one_plan
returns-clause-one_plan c = λ text plan other is are.
    let laws : OneLaws = record {
      meaning = c.meanings_or_reason.ensures.one;
      table = c.schema_table_is_unique.ensures;
      declaration = c.declaration_is_unique.ensures;
      stays = c.change_preserves_chain.ensures;
    } in
    text_one laws text plan other is are (c.parsed_plan_is_valid.ensures.sound text plan is) (c.parsed_plan_is_valid.ensures.sound text other are)

pub returns-clause-one_fault : goal.returns-clause-one_fault
returns-clause-one_fault c = λ text a b q r one other. c.fault_is_unique.ensures text a b q r one other

pub returns-clause-never_both : goal.returns-clause-never_both
returns-clause-never_both c = λ text plan at reason is fault. c.plan_excludes_fault.ensures text plan at reason is fault
