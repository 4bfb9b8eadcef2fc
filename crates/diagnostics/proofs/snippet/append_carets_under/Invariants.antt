use Rattle.std.proofs.Common.{◌≡◌, ◌++◌, take}
use Rattle.std.specs.List.{flat_map}
use Rattle.diagnostics.specs.Snippets.{carets_under}
use Rattle.diagnostics.proofs.snippet.append_carets_under.Given as goal

abbrev pub invariant-loop-byte : goal.invariant-loop-byte
invariant-loop-byte l = l.out ≡ l.fn.out ++ flat_map (carets_under l.fn.mark l.fn.is_utf8) (take l.byte-index l.fn.bytes)
