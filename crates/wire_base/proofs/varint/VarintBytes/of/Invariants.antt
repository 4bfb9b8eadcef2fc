use Rattle.std.proofs.Common.{◌≡◌, ◌-◌, ◌*◌, ◌^◌, ◌≤◌, ◌++◌, length, take}
use Rattle.wire_base.specs.Encoding.{groups}
use Rattle.wire_base.proofs.varint.VarintBytes.of.Given as goal

abbrev pub invariant-loop-place : goal.invariant-loop-place
invariant-loop-place l = record {
  sized : length l.bytes ≡ 10;
  small : l.rest * 128 ^ l.place ≤ l.v;
  spelled : take l.place l.bytes ++ groups (9 - l.place) l.rest ≡ groups 9 l.v;
}
