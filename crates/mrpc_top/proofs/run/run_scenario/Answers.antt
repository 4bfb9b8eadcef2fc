use Rattle.std.proofs.Common.{◌∙◌, ap}
use Rattle.mrpc_top.specs.Runs.HasStoppedRun.{in_fault, silent}
use Rattle.scenario.specs.Reasons.{number_of_entry, scenario_reason_word}
use Rattle.mrpc_top.proofs.KnownBytes.{appends-nothing}
use Rattle.mrpc_top.proofs.RunAnswers.{not_faulty, refuses-scenario}
use Rattle.mrpc_top.proofs.run.run_scenario.Goals as goal

pub returns-in-Ok-clause-done : goal.returns-in-Ok-clause-done
returns-in-Ok-clause-done g c left input done =
    c.run_and_report-status.ensures.done left (c.args.text.now, input, c.in-Ok.ensures.read) done

pub returns-in-Ok-clause-link : goal.returns-in-Ok-clause-link
returns-in-Ok-clause-link g c left input failed =
    c.run_and_report-status.ensures.link left (c.args.text.now, input, c.in-Ok.ensures.read) failed

pub returns-in-Ok-clause-refused : goal.returns-in-Ok-clause-refused
returns-in-Ok-clause-refused g c at reason fault =
    absurd (c.scenario_is_unique.ensures.never_both c.args.text.now c.in-Ok.plan at reason c.in-Ok.ensures.read fault)

pub returns-in-Ok-clause-cut_short : goal.returns-in-Ok-clause-cut_short
returns-in-Ok-clause-cut_short g c left left' input e =
    c.run_and_report-status.ensures.cut_short left left' (c.args.text.now, input, c.in-Ok.ensures.read) e

pub returns-in-Ok-clause-unopened : goal.returns-in-Ok-clause-unopened
returns-in-Ok-clause-unopened g c e = ((c.in-Ok.plan, c.in-Ok.ensures.read), c.run_and_report-status.ensures.unopened e)

pub returns-in-Err-At-clause-faulty : goal.returns-in-Err-At-clause-faulty
returns-in-Err-At-clause-faulty g c left left' input faulty =
    let first = rw c.in-Err-At.field-0-is at c.in-Err-At.ensures.read in
    record {
      told = _;
      may = refuses-scenario left left' _ _ _ _ _ input first (c.number.ensures ∙ ap number_of_entry c.in-Err-At.entry-is)
          (c.as_bytes.ensures.value ∙ c.word.ensures ∙ ap scenario_reason_word c.in-Err-At.reason-is);
      written = c.write_fault.ensures.written faulty;
    }

pub returns-in-Err-At-clause-cut_short : goal.returns-in-Err-At-clause-cut_short
returns-in-Err-At-clause-cut_short g c left left' input e =
    let first = rw c.in-Err-At.field-0-is at c.in-Err-At.ensures.read in
    in_fault _ (refuses-scenario left left' _ _ _ _ _ input first (c.number.ensures ∙ ap number_of_entry c.in-Err-At.entry-is)
    (c.as_bytes.ensures.value ∙ c.word.ensures ∙ ap scenario_reason_word c.in-Err-At.reason-is))
    (c.write_fault.ensures.front (not_faulty c.write_fault.result e))

pub returns-in-Err-Memory-clause-cut_short : goal.returns-in-Err-Memory-clause-cut_short
returns-in-Err-Memory-clause-cut_short g c left left' input e = silent (appends-nothing _)
