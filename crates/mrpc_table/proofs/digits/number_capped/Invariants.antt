-- The value of the digits so far, unless it exceeds the cap.
use Rattle.std.proofs.Common.{◌≡◌, ◌≤◌, ◌<◌, ◌^◌, min, take}
use Rattle.std.specs.Str.Parse.{digits_value}
use Rattle.mrpc_table.proofs.digits.number_capped.Given as goal

abbrev pub invariant-loop-digit : goal.invariant-loop-digit
invariant-loop-digit l = record { small : l.number ≤ 2 ^ 64; value : 0 < l.base → l.number ≡ min (digits_value l.base (take l.digit-index l.digits)) (2 ^ 64) }
