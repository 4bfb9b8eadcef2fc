-- Which word of a graph is loaded next. It is the first of the expected words; the words that a loaded word leads to
-- come before all others.
use Rattle.std.specs.Prelude.{◌≡◌, ℕ, ◌<◌, ◌^◌, List, [], ◌∷◌, ◌++◌}
use Rattle.mrpc_table.specs.declared.table.Table.{Table}
use Rattle.graph_form.specs.Roles.{Expected, expected_after}
use Rattle.graph_form.specs.Placed.{IsValidWord}

-- Under these expected words, the loads were made and all are valid. Now the words `next` are expected.
abbrev pub AreExpectedAfter : Table → ℕ → Expected → List (ℕ × ℕ) → Expected → Type 0
AreExpectedAfter T H es [] next = es ≡ next
AreExpectedAfter T H [] (load ∷ loads) next = ⊥
AreExpectedAfter T H (e ∷ es) (load ∷ loads) next =
    (load.0 ≡ e.1) × (load.1 < 2 ^ 64) × IsValidWord T H e.0 load.1
    × AreExpectedAfter T H (expected_after T e.0 load.0 load.1 ++ es) loads next
