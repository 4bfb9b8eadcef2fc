use Rattle.std.proofs.Common.{◌≡◌, ◌%◌, ◌^◌, ◌≤◌, All}
use Rattle.std.specs.List.{slice_range}
use Rattle.wire_base.specs.Records.{group_sum}
use Rattle.wire_base.proofs.varint.read_long.Given as goal

abbrev pub invariant-loop-place : goal.invariant-loop-place
invariant-loop-place l = record {
  top : All (λ b. 128 ≤ b) (slice_range l.bytes l.at l.place);
  value : l.value ≡ group_sum (slice_range l.bytes l.at l.place) % 2 ^ 64;
}
