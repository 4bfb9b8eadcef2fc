use Rattle.std.proofs.Common.{ℤ, ℕ, List, int_lt, arith, rules}
use Rattle.std.proofs.lemmas.Int.{ints}
use Rattle.std.proofs.lemmas.List.Sorted.{IsPartitionPoint-from_clause}
use Rattle.text_format.proofs.SortedNames.{parted}
use Rattle.std.specs.Int.{w64, cast_signed}
use Rattle.text_format.proofs.enum_values.first_from.Goals as goal

pub returns-clause-before : goal.returns-clause-before
returns-clause-before c =
    let point = IsPartitionPoint-from_clause (λ (v : ℤ × List ℕ). int_lt v.0 (cast_signed w64 c.args.word)) _ _ c.partition_point.ensures.partitioned
    (parted _ (cast_signed w64 c.args.word) c.requires) (λ a r q k. search rules) in
    λ k d low h. let test = point.0 k d low h in grind (arith, ints)

pub returns-clause-behind : goal.returns-clause-behind
returns-clause-behind c =
    let point = IsPartitionPoint-from_clause (λ (v : ℤ × List ℕ). int_lt v.0 (cast_signed w64 c.args.word)) _ _ c.partition_point.ensures.partitioned
    (parted _ (cast_signed w64 c.args.word) c.requires) (λ a r q k. search rules) in
    λ k d low h. let test = point.1 k d low h in grind (arith, ints)
