-- All bytes so far pass.
use Rattle.std.proofs.Common.{◌≡◌, ◌≤◌, ◌-◌, ◌+◌, length, drop}
use Rattle.std.specs.List.{prefix_len}
use Rattle.mrpc_table.specs.Names.{is_name_byte}
use Rattle.proto_lexer.proofs.scan.name_len.Given as goal

abbrev pub invariant-loop-i : goal.invariant-loop-i
invariant-loop-i l = record { within : l.i ≤ length l.bytes; same : l.i + prefix_len is_name_byte (drop l.i l.bytes) ≡ prefix_len is_name_byte l.bytes }

abbrev pub decreases-loop-i : goal.decreases-loop-i
decreases-loop-i l = length l.bytes - l.i
