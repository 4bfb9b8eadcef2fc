use Rattle.std.proofs.Common.{nat_lt, arith, rules}
use Rattle.std.proofs.lemmas.Bool.Decides.{nat_tests}
use Rattle.std.proofs.lemmas.List.Sorted.{IsPartitionPoint-from_clause}
use Rattle.receive_heap.proofs.Joins.{parted}
use Rattle.receive_heap.proofs.holes.index_of.Goals as goal

pub returns-clause-before : goal.returns-clause-before
returns-clause-before c =
    let point = IsPartitionPoint-from_clause (λ p. nat_lt p.at c.args.at) _ _ c.partition_point.ensures.partitioned (parted _ c.args.at c.requires.apart) (λ a r q k. search rules) in
    λ k d low h. let test = point.0 k d low h in grind (arith, nat_tests)

pub returns-clause-behind : goal.returns-clause-behind
returns-clause-behind c =
    let point = IsPartitionPoint-from_clause (λ p. nat_lt p.at c.args.at) _ _ c.partition_point.ensures.partitioned (parted _ c.args.at c.requires.apart) (λ a r q k. search rules) in
    λ k d low h. let test = point.1 k d low h in grind (arith, nat_tests)
