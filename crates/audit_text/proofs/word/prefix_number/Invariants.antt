-- The digits so far, and the number that they spell.
use Rattle.std.proofs.Common.{◌≡◌, ◌-◌, ◌<◌, ◌≤◌, ◌^◌, true, length, take}
use Rattle.std.specs.Char.{is_ascii_digit}
use Rattle.std.specs.List.{list_all}
use Rattle.std.specs.Str.Parse.{digits_value}
use Rattle.audit_text.proofs.word.prefix_number.Given as goal

abbrev pub invariant-loop-count : goal.invariant-loop-count
invariant-loop-count l = record {
  digits : list_all is_ascii_digit (take l.count l.text) ≡ true;
  value : l.number ≡ digits_value 10 (take l.count l.text);
  small : l.number < 10 ^ l.count;
  few : l.count ≤ 19;
  within : l.count ≤ length l.text;
  most_few : l.most ≤ 19;
  most_within : l.most ≤ length l.text;
}

abbrev pub decreases-loop-count : goal.decreases-loop-count
decreases-loop-count l = l.most - l.count
