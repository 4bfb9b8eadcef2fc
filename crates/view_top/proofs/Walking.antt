-- Events of a row, from the last one back.
use Rattle.std.proofs.Common.{◌≡◌, ℕ, List, drop}
use Rattle.view_top.specs.Rows.{Bar, end_from, bars_from}
use Rattle.view_top.specs.DrawingData.{line_events}
use Rattle.view_top.specs.Ends.{end_in}
use Rattle.view_top.specs.declared.line.Event.{Event}
use Rattle.view_top.specs.declared.part.End.{End as TheEnd}

-- what is known after an index, before the event there is taken
pub record Behind (last : ℕ) (es : List Event) (at : ℕ) (ends : List (ℕ × TheEnd)) (bars : List Bar) : Type 0 where
  pub ends_are : (n : ℕ) → end_in last ends n ≡ end_from n at (line_events (drop at es))
  pub bars_are : bars ≡ bars_from at (line_events (drop at es))
