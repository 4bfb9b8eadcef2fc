-- There is no closing quote up to this offset.
use Rattle.std.proofs.Common.{◌≡◌, ◌≤◌, ◌-◌, ◌+◌, length, drop}
use Rattle.std.specs.Prelude.{option_map}
use Rattle.proto_lexer.specs.Scanning.{quoted_len}
use Rattle.proto_lexer.proofs.scan.quoted_len.Given as goal

abbrev pub invariant-loop-i : goal.invariant-loop-i
invariant-loop-i l = record { within : l.i ≤ length l.bytes; same : quoted_len l.quote l.bytes ≡ option_map (λ n. n + l.i) (quoted_len l.quote (drop l.i l.bytes)) }

abbrev pub decreases-loop-i : goal.decreases-loop-i
decreases-loop-i l = length l.bytes - l.i
