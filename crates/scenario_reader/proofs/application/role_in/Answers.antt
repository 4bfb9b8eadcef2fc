use Rattle.std.proofs.Common.{sym, ap, subst}
use Rattle.std.specs.Prelude.{map}
use Rattle.scenario.specs.Lines.{program_role}
use Rattle.scenario.specs.Reasons.{IsFirstScenarioReason}
use Rattle.scenario_lines.specs.declared.form.ProgramRole.TheVariants.{Client, Server}
use Rattle.scenario_reader.specs.Joining.{HasProgramFault}
use Rattle.scenario_reader.proofs.Program.{role_first, role_free}
use Rattle.scenario_reader.proofs.application.role_in.Goals as goal

pub returns-in-Ok : goal.returns-in-Ok
returns-in-Ok c =
    let texts = map (λ t. t.now) c.args.lines.now in
    let says = rw c.in-Ok.is at c.in_ok-program-in-Client.ensures in (
      role_free c.meanings_or_reason.ensures.not_both c.meanings_or_reason.ensures.one Client c.args.heap texts c.args.role
          (ap program_role c.in-Client.is) c.in-Ok.program says,
      (c.in-Client.is, says.said),
    )

pub returns-in-Err : goal.returns-in-Err
returns-in-Err c =
    let texts = map (λ t. t.now) c.args.lines.now in
    let first = rw c.in-Err.is at c.in_ok-program-in-Client.ensures in
    subst (IsFirstScenarioReason (HasProgramFault c.args.role c.args.heap texts)) (sym c.reason_of_line.ensures)
    (role_first c.meanings_or_reason.ensures.not_both c.meanings_or_reason.ensures.one Client c.args.heap texts c.args.role
    (ap program_role c.in-Client.is) c.in-Err.reason first)

pub returns-in-Ok-2 : goal.returns-in-Ok-2
returns-in-Ok-2 c =
    let texts = map (λ t. t.now) c.args.lines.now in
    let says = rw c.in-Ok-2.is at c.in_ok-program-in-Server.ensures in (
      role_free c.meanings_or_reason.ensures.not_both c.meanings_or_reason.ensures.one Server c.args.heap texts c.args.role
          (ap program_role c.in-Server.is) c.in-Ok-2.program says,
      (c.in-Server.is, says.said),
    )

pub returns-in-Err-2 : goal.returns-in-Err-2
returns-in-Err-2 c =
    let texts = map (λ t. t.now) c.args.lines.now in
    let first = rw c.in-Err-2.is at c.in_ok-program-in-Server.ensures in
    subst (IsFirstScenarioReason (HasProgramFault c.args.role c.args.heap texts)) (sym c.reason_of_line-in-Err-2.ensures)
    (role_first c.meanings_or_reason.ensures.not_both c.meanings_or_reason.ensures.one Server c.args.heap texts c.args.role
    (ap program_role c.in-Server.is) c.in-Err-2.reason first)
