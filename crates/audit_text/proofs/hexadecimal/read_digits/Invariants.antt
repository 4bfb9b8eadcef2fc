-- The digits of the bytes in the row, and then the remainder.
use Rattle.std.proofs.Common.{◌≡◌, ◌+◌, ◌*◌, ◌≤◌, ◌++◌, length, take}
use Rattle.hex.specs.Hex.{IsBytes, encode_lower}
use Rattle.audit_text.proofs.hexadecimal.read_digits.Given as goal

abbrev pub invariant-loop-byte : goal.invariant-loop-byte
invariant-loop-byte l = record {
  parts : l.fn.word ≡ encode_lower (take l.count l.row) ++ l.left;
  bytes : IsBytes (take l.count l.row);
  within : l.count ≤ length l.row;
  room : 2 * l.count + length l.left ≤ 2 * length l.row;
}

abbrev pub decreases-loop-byte : goal.decreases-loop-byte
decreases-loop-byte l = length l.left
