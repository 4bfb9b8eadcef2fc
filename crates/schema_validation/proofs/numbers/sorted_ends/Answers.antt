use Rattle.std.proofs.Common.{ℕ, rules}
use Rattle.std.proofs.lemmas.List.Sorted.{IsNonDecreasingBy-from_sort_by_key}
use Rattle.schema_validation.specs.Ranges.{IsEndsOf}
use Rattle.schema_validation.proofs.Places.{those_moved}
use Rattle.schema_validation.proofs.numbers.sorted_ends.Goals as goal

pub returns : goal.returns
returns c = record {
  those = those_moved IsEndsOf c.args.ranges.now _ _ c.in_ok-sort_by_key.ensures.permutation c.in_ok-sorted.ensures;
  ascend = IsNonDecreasingBy-from_sort_by_key (λ (e : ℕ × ℕ). e.0) _ c.in_ok-sort_by_key.ensures.sorted
      (λ a r q k. search rules);
}
