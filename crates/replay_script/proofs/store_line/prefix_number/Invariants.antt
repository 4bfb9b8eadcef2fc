-- The digits so far, and the number that they spell.
use Rattle.std.proofs.Common.{◌≡◌, ◌-◌, ◌<◌, ◌≤◌, ◌^◌, true, get_or, length, take}
use Rattle.std.specs.Char.{is_ascii_digit}
use Rattle.std.specs.List.{list_all}
use Rattle.std.specs.Str.Parse.{digits_value}
use Rattle.replay_script.proofs.store_line.prefix_number.Given as goal

abbrev pub invariant-loop-count : goal.invariant-loop-count
invariant-loop-count l = record {
  digits : list_all is_ascii_digit (take l.count l.text) ≡ true;
  value : l.number ≡ digits_value 10 (take l.count l.text);
  small : l.number < 10 ^ l.count;
  few : l.count ≤ 19;
  within : l.count ≤ length l.text;
  most_few : l.most ≤ 19;
  most_within : l.most ≤ length l.text;
  some : 1 ≤ l.count;
  alone : get_or l.text 0 0 ≡ 48 → l.most ≡ 1;
  up_to : l.count ≤ l.most;
}

abbrev pub decreases-loop-count : goal.decreases-loop-count
decreases-loop-count l = l.most - l.count
