use Rattle.mrpc_top.specs.Runs.HasStoppedRun.{silent}
use Rattle.mrpc_top.proofs.KnownBytes.{appends-nothing}
use Rattle.mrpc_top.proofs.run.run_drill.Goals as goal

pub returns-in-Ok-clause-done : goal.returns-in-Ok-clause-done
returns-in-Ok-clause-done g c left done = c.run_and_report-status.ensures.done left c.in-Ok.ensures.plan done

pub returns-in-Ok-clause-link : goal.returns-in-Ok-clause-link
returns-in-Ok-clause-link g c left failed = c.run_and_report-status.ensures.link left c.in-Ok.ensures.plan failed

pub returns-in-Ok-clause-cut_short : goal.returns-in-Ok-clause-cut_short
returns-in-Ok-clause-cut_short g c left left' e = c.run_and_report-status.ensures.cut_short left left' c.in-Ok.ensures.plan e

pub returns-in-Err-clause-cut_short : goal.returns-in-Err-clause-cut_short
returns-in-Err-clause-cut_short g c left left' e = silent (appends-nothing _)
