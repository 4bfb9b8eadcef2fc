use Rattle.std.proofs.Common.{◌≡◌, ◌++◌, take}
use Rattle.app_program.specs.Programs.{program_stores}
use Rattle.app_stub.proofs.servers.store_lines.Given as goal

abbrev pub invariant-loop-line : goal.invariant-loop-line
invariant-loop-line l =
    (l.writer.heap ≡ l.initial.writer.heap)
    × (l.writer.stores ≡ l.initial.writer.stores ++ program_stores (take l.line-index l.line-items))
