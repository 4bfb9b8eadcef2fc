-- The code's own: the order of the numbers of fields.
use Rattle.std.specs.Prelude.{ℕ, ◌≤◌}
use Rattle.mrpc_table.specs.Node.{Node, AreNumbersAscending, no_fields, field}

-- each number is above the previous one
abbrev pub HasAscendingNumbers : Node → Type 0
HasAscendingNumbers no_fields = Unit {0}
HasAscendingNumbers (field number content others) = AreNumbersAscending number others

-- no number is below the previous one, nor the first below `last`
abbrev pub AreNumbersSortedFrom : ℕ → Node → Type 0
AreNumbersSortedFrom last no_fields = Unit {0}
AreNumbersSortedFrom last (field number content others) = (last ≤ number) × AreNumbersSortedFrom number others

-- no number is above this one
abbrev pub AreNumbersAtMost : ℕ → Node → Type 0
AreNumbersAtMost most no_fields = Unit {0}
AreNumbersAtMost most (field number content others) = (number ≤ most) × AreNumbersAtMost most others
