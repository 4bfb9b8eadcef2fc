use Rattle.std.proofs.Common.{◌≡◌, ◌≤◌, length, take}
use Rattle.app_program.specs.Programs.{program_reclaims}
use Rattle.service_wiring.proofs.programs.reclaims_in.Given as goal

abbrev pub invariant-loop-line : goal.invariant-loop-line
invariant-loop-line l =
    (l.count ≡ length (program_reclaims (take l.line-index l.lines))) × (l.count ≤ l.line-index)
