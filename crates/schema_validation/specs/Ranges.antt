-- The code's own: numbers by their positions, counted from -2^64.
use Rattle.std.specs.Prelude.{◌≡◌, ℕ, ℤ, pos, ◌+ℤ◌, ◌^◌, ◌≤◌, max, List, [], ◌∷◌, Option, Some, None, Contains}
use Rattle.std.specs.List.Sorted.{IsNonDecreasingBy}
use Rattle.proto_ast.specs.declared.file.Number.{Number}
use Rattle.proto_ast.specs.declared.file.Range.{Range}
use Rattle.schema_validation.specs.Types.{signed_value}
use Rattle.schema_validation.specs.Correspondence.{AreCorresponding}
use Rattle.schema_validation.specs.Members.{IsReserved}
use Rattle.schema_validation.specs.declared.numbers.Reserved.{Reserved}

abbrev pub IsPositionOf : ℕ → ℤ → Type 0
IsPositionOf place n = pos place ≡ n +ℤ pos (2 ^ 64)

-- `max` is past every number
abbrev pub IsLastPosition : Option Number → ℕ → Type 0
IsLastPosition None place = place ≡ 2 ^ 65
IsLastPosition (Some n) place = IsPositionOf place (signed_value n)

-- the positions of the first and the last number of a range
pub record IsEndsOf (r : Range) (ends : ℕ × ℕ) : Type 0 where
  pub first : IsPositionOf ends.0 (signed_value r.first)
  pub last : IsLastPosition r.last ends.1

pub record IsInSome (ends : List (ℕ × ℕ)) (place : ℕ) : Type 0 where
  pub one : ℕ × ℕ
  pub among : Contains ends one
  pub at_least : one.0 ≤ place
  pub at_most : place ≤ one.1

-- each last position is replaced by the largest one up to there, and at least `least`
abbrev pub extended_from : ℕ → List (ℕ × ℕ) → List (ℕ × ℕ)
extended_from least [] = []
extended_from least (e ∷ es) = (e.0, max least e.1) ∷ extended_from (max least e.1) es

-- by ascending first position
pub record AreSortedEnds (ranges : List Range) (ends : List (ℕ × ℕ)) : Type 0 where
  pub those : AreCorresponding IsEndsOf ranges ends
  pub ascend : IsNonDecreasingBy {X = ℕ × ℕ} (λ e. e.0) ends

-- by ascending first position, each extended to the largest last position so far: the same numbers are covered
pub record HasReservedRanges (ranges : List Range) (kept : Reserved) : Type 0 where
  pub firsts : IsNonDecreasingBy {X = ℕ × ℕ} (λ e. e.0) kept.ranges.items
  pub lasts : IsNonDecreasingBy {X = ℕ × ℕ} (λ e. e.1) kept.ranges.items
  pub all_in : (place : ℕ) (n : ℤ) → IsPositionOf place n → place ≤ 2 ^ 65 → IsReserved ranges n
      → IsInSome kept.ranges.items place
  pub none_else : (place : ℕ) (n : ℤ) → IsPositionOf place n → IsInSome kept.ranges.items place → IsReserved ranges n
