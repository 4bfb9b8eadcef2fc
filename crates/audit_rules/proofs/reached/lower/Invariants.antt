-- the numbers so far are lowered, and the others are unchanged
use Rattle.std.proofs.Common.{◌≡◌, length, map, take, drop, min}
use Rattle.std.specs.VecDeque.{deque_capacity}
use Rattle.audit_rules.proofs.reached.lower.Given as goal

abbrev pub invariant-loop-place : goal.invariant-loop-place
invariant-loop-place l = record {
  changed : take l.place l.numbers.items ≡ map (λ n. min n l.at) (take l.place l.initial.numbers.items);
  others : drop l.place l.numbers.items ≡ drop l.place l.initial.numbers.items;
  many : length l.numbers.items ≡ length l.initial.numbers.items;
  count : l.many ≡ length l.initial.numbers.items;
  capacity : deque_capacity l.numbers ≡ deque_capacity l.initial.numbers;
}
