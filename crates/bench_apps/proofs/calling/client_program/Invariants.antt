use Rattle.std.proofs.Common.{◌≡◌, ◌≤◌, ◌*◌, All, length}
use Rattle.app_program.specs.Programs.{IsClientLine, program_stores}
use Rattle.bench_apps.proofs.calling.client_program.Given as goal

abbrev pub invariant-loop-number : goal.invariant-loop-number
invariant-loop-number l =
    All (IsClientLine 1024) l.program × (length l.program ≡ 2 * l.number) × (length (program_stores l.program) ≤ 2 * l.number)
