-- The lines so far are the rules so far, and none is at fault.
use Rattle.policy_access.specs.Names.{AreKnownNames}
use Rattle.policy_access.specs.Reading.{AreRead, names_of_rules}
use Rattle.policy_access.proofs.read.read_rules.Given as goal

abbrev pub invariant-loop-place : goal.invariant-loop-place
invariant-loop-place l = record {
  read : AreRead l.table l.lines l.place l.so_far.rules.items;
  names : AreKnownNames l.so_far.names (names_of_rules l.so_far.rules.items);
}
