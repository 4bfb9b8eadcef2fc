use Rattle.std.proofs.Common.{◌≡◌, ◌+◌, ◌*◌, ◌++◌, length}
use Rattle.app_program.specs.Programs.{repeated_stores}
use Rattle.app_stub.proofs.lines.spin.Given as goal

abbrev pub invariant-loop : goal.invariant-loop
invariant-loop l =
    (l.writer.heap ≡ l.initial.writer.heap)
    × (l.writer.stores ≡ l.initial.writer.stores ++ repeated_stores l.counter (l.place, l.first) (l.place, l.second))
    × (length l.writer.stores ≡ length l.initial.writer.stores + 2 * l.counter)
