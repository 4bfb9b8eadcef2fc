-- The words are equal exactly if their remainders are.
use Rattle.std.proofs.Common.{◌≡◌, ◌-◌, drop, length}
use Rattle.std.specs.Str.{bytes_eq}
use Rattle.audit_text.proofs.word.is_word.Given as goal

abbrev pub invariant-loop-place : goal.invariant-loop-place
invariant-loop-place l = bytes_eq (drop l.place l.word) (drop l.place l.expected) ≡ bytes_eq l.word l.expected

abbrev pub decreases-loop-place : goal.decreases-loop-place
decreases-loop-place l = length l.expected - l.place
