use Rattle.std.proofs.Common.{◌≡◌, take}
use Rattle.std.specs.List.{concat}
use Rattle.std.specs.Io.KnownBytes.{Appends}
use Rattle.mrpc_top.proofs.run.write_parts.Given as goal

abbrev pub invariant-loop-part : goal.invariant-loop-part
invariant-loop-part g l =
    Appends (g.K.Sink.written l.fn.out) (g.K.Sink.written l.out) (concat (take l.part-index l.parts))
    × (g.K.Sink.failures l.out ≡ g.K.Sink.failures l.fn.out)
