-- The tickets of a source that returns one drawn elsewhere: the code's own. No public clause cites this module.
use Rattle.std.specs.Prelude.{ℕ, Bool, true, false, List, [], ◌∷◌, ◌++◌, ◌==◌}

-- one more ticket, if a draw is of this tenant and this window
abbrev pub with_draw : (of_tenant of_window : Bool) → ℕ → List ℕ → List ℕ
with_draw true true ticket tickets = tickets ++ ticket ∷ []
with_draw true false ticket tickets = tickets
with_draw false of_window ticket tickets = tickets

-- the tickets in a window of a tenant, if each draw returned the same ticket; the latest draw comes first
abbrev pub tickets_of_draws : (ticket : ℕ) → List (ℕ × ℕ) → (tenant window : ℕ) → List ℕ
tickets_of_draws ticket [] tenant window = []
tickets_of_draws ticket (draw ∷ draws) tenant window =
    with_draw (draw.0 == tenant) (draw.1 == window) ticket (tickets_of_draws ticket draws tenant window)
