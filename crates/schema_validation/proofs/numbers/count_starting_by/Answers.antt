use Rattle.std.proofs.Common.{ℕ, leb, arith, rules}
use Rattle.std.proofs.lemmas.Bool.Decides.{nat_tests}
use Rattle.std.proofs.lemmas.List.Sorted.{IsPartitionPoint-from_clause, IsPartitionedBy-leb}
use Rattle.schema_validation.proofs.numbers.count_starting_by.Goals as goal

pub returns-clause-parts : goal.returns-clause-parts
returns-clause-parts c sorted =
    let point = IsPartitionPoint-from_clause (λ (e : ℕ × ℕ). leb e.0 c.args.place) _ _
    c.partition_point.ensures.partitioned (IsPartitionedBy-leb (λ (e : ℕ × ℕ). e.0) _ c.args.place sorted)
    (λ a r q k. search rules) in (
      λ k d low h. let test = point.0 k d low h in grind (arith, nat_tests),
      λ k d low h. let test = point.1 k d low h in grind (arith, nat_tests),
    )
