-- The condition on a graph that its writer no longer modifies.
use Rattle.std.specs.Prelude.{◌≡◌, ℕ, List, All, take, drop}
use Rattle.mrpc_base.specs.Heap.{word_after}
use Rattle.graph_form.specs.Placed.{Placed, loads}
use Rattle.shared_heap.specs.Fresh.{HasNoStoreTo}

-- the words of a placed tree are in a heap after the first `after` stores of a list, and no later store goes to any
-- of them
pub record IsUnmodifiedSince (stores : List (ℕ × ℕ)) (after : ℕ) (P : Placed) : Type 0 where
  pub stands : All (λ word. word.1 ≡ word_after (take after stores) word.0) (loads P)
  pub untouched : All (λ word. HasNoStoreTo word.0 (drop after stores)) (loads P)
