-- There is a value 0 if there is one among the remaining values.
use Rattle.std.proofs.Common.{◌≡◌, drop}
use Rattle.std.specs.Prelude.{pos}
use Rattle.std.specs.List.{list_any}
use Rattle.std.specs.Ordering.{int_eq}
use Rattle.table_text.proofs.draft.has_zero.Given as goal

abbrev pub invariant-loop-value : goal.invariant-loop-value
invariant-loop-value l = list_any (λ v. int_eq v.0 (pos 0)) l.values ≡ list_any (λ v. int_eq v.0 (pos 0)) (drop l.value-index l.values)
