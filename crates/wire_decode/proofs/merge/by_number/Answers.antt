use Rattle.std.proofs.Common.{rules}
use Rattle.std.proofs.lemmas.List.Sorted.{answers_always, IsNonDecreasingBy-from_sort_by_key}
use Rattle.wire_decode.proofs.Sorting.{never-fall, sorted-contents}
use Rattle.wire_decode.proofs.merge.by_number.Goals as goal

pub returns-clause-sorted : goal.returns-clause-sorted
returns-clause-sorted c = never-fall c.sort_by_key.new.self.items (IsNonDecreasingBy-from_sort_by_key (λ p. p.0) _ c.in_ok-sort_by_key.ensures.sorted (λ a r q k. search rules))

pub returns-clause-same : goal.returns-clause-same
returns-clause-same c = sorted-contents c.args.raw.items c.sort_by_key.new.self.items (c.in_ok-sort_by_key.ensures.stable (λ p. p.0) (answers_always _ _ _ (λ f a r g h. search rules)))
