use Rattle.std.proofs.Common.{rules}
use Rattle.std.proofs.lemmas.List.Sorted.{answers_always, IsNonDecreasingBy-from_sort_by_key}
use Rattle.graph_copy.proofs.Sorting.{sorted-inserted}
use Rattle.graph_copy.proofs.order.in_order.Goals as goal

pub returns : goal.returns
returns c =
    let rises = IsNonDecreasingBy-from_sort_by_key (λ p. p.0) _ c.in_ok-sort_by_key.ensures.sorted (λ a r q k. search rules) in
    let stable = c.in_ok-sort_by_key.ensures.stable (λ p. p.0) (answers_always _ _ _ (λ f a r g h. search rules)) in
    sorted-inserted c.args.fields.items c.reverse.new.self.items c.sort_by_key.new.self.items c.reverse.ensures.items rises stable
