-- The bytes so far are hexadecimal digits, and spell this number.
use Rattle.std.proofs.Common.{◌≡◌, true, take}
use Rattle.std.specs.List.{list_all}
use Rattle.std.specs.Str.Parse.{digits_value}
use Rattle.script_grammar.specs.Values.{is_hexadecimal}
use Rattle.script_grammar.proofs.value.hexadecimal.Given as goal

abbrev pub invariant-loop-digit : goal.invariant-loop-digit
invariant-loop-digit l = record {
  digits : list_all is_hexadecimal (take l.digit-index l.digits) ≡ true;
  word : l.word ≡ digits_value 16 (take l.digit-index l.digits);
}
