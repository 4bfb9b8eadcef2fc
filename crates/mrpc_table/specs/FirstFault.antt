-- The first fault of a text in lines, for any relation of reasons to lines.
use Rattle.std.specs.Prelude.{ℕ, ◌-◌, ◌+◌, ◌<◌}

-- A line, counted from 1, is the first at fault, and this is its first reason. `IsAgainst i q` means that the line at
-- index i, counted from 0, has the reason q. If a line has several reasons, the one with the least rank in the order
-- counts.
pub record IsFirstFault {Reason : Type 0} (IsAgainst : ℕ → Reason → Type 0) (order_of : Reason → ℕ) (line : ℕ)
    (reason : Reason) : Type 0 where
  pub counted : 0 < line
  pub here : IsAgainst (line - 1) reason
  pub first_reason : (other : Reason) → order_of other < order_of reason → IsAgainst (line - 1) other → ⊥
  pub none_before : (i : ℕ) (other : Reason) → i + 1 < line → IsAgainst i other → ⊥
