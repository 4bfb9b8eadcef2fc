-- The tickets that were drawn on all connections (this project's own).
use Rattle.std.specs.Prelude.{◌≡◌, ℕ, List, [], ◌∷◌, ◌++◌, length}
use Rattle.std.specs.List.{range_with_len}
use Rattle.call_history.specs.Legal.{History, trace_of}
use Rattle.call_history.specs.Tickets.{tickets_drawn_by}

-- the tickets of a tenant's window that were drawn after a history, in order
abbrev pub tickets_after : (tenant window : ℕ) → History → History → List ℕ
tickets_after tenant window before [] = []
tickets_after tenant window before (x ∷ h) =
    tickets_drawn_by tenant window x.what (trace_of x.conn before) ++ tickets_after tenant window (before ++ x ∷ []) h

abbrev pub tickets : (tenant window : ℕ) → History → List ℕ
tickets tenant window h = tickets_after tenant window [] h

-- the tickets of each tenant's window are 0, 1, 2 and so on, in order
abbrev pub AreConsecutive : History → Type 0
AreConsecutive h = (tenant window : ℕ)
    → tickets tenant window h ≡ range_with_len 0 (length (tickets tenant window h))
