use Rattle.std.proofs.Common.{inl, inr}
use Rattle.mrpc_top.proofs.command.replay.Goals as goal

pub returns-in-Err-Memory-clause-stopped : goal.returns-in-Err-Memory-clause-stopped
returns-in-Err-Memory-clause-stopped g c e =
    let is = c.in-Err-Memory.is in
    let field = c.in-Err-Memory.field-0-is in
    c.run_script.ensures.stopped (inl cc)

pub returns-in-Err-Out-clause-stopped : goal.returns-in-Err-Out-clause-stopped
returns-in-Err-Out-clause-stopped g c e =
    let is = c.in-Err-Out.is in
    let field = c.in-Err-Out.field-0-is in
    c.run_script.ensures.stopped (inr cc)
