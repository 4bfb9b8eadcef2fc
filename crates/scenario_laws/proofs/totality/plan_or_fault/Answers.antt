use Rattle.scenario_laws.proofs.Whole.{Laws, never_neither_of}
use Rattle.scenario_laws.proofs.totality.plan_or_fault.Goals as goal

pub returns : goal.returns
returns c =
    let laws : Laws = record {
      judge = c.meanings_or_reason.ensures.either;
      access = c.text_or_fault.ensures.either;
      redact = c.text_or_fault-2.ensures.either;
    } in
    record { never_neither = λ text no_plan no_fault. never_neither_of laws text no_plan no_fault }
