use Rattle.std.proofs.Common.{◌≡◌, ◌++◌, take}
use Rattle.std.specs.List.{flat_map}
use Rattle.diagnostics.specs.Snippets.{printable}
use Rattle.diagnostics.proofs.snippet.append_printable.Given as goal

abbrev pub invariant-loop-byte : goal.invariant-loop-byte
invariant-loop-byte l = l.out ≡ l.fn.out ++ flat_map (printable l.fn.is_utf8) (take l.byte-index l.fn.bytes)
