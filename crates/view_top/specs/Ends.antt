-- The code's own: the ends of calls by their number, as the reader of a row keeps them.
use Rattle.std.specs.Prelude.{ℕ, List, Option, Some, None}
use Rattle.std.specs.Option.{option_map_or}
use Rattle.std.specs.BTreeMap.{is_at}
use Rattle.std.specs.Map.{lookup}
use Rattle.std.specs.Ordering.{nat_cmp}
use Rattle.view_top.specs.Lines.{LineEvent, took}
use Rattle.view_top.specs.Rows.{Bar, End, stands}
use Rattle.view_top.specs.DrawingData.{end_view}
use Rattle.view_top.specs.declared.part.End.{End as TheEnd}

-- the end of a call; if no end of it is kept, it is pending up to the end of its row
abbrev pub end_in : (last : ℕ) → List (ℕ × TheEnd) → (seq : ℕ) → End
end_in last ends seq = option_map_or end_view (lookup (is_at (nat_cmp seq)) ends) (record { to = last; fate = stands })

-- the bar of a call that is accepted at an index
abbrev pub bar_in : (last : ℕ) → List (ℕ × TheEnd) → (at : ℕ) → LineEvent → Option Bar
bar_in last ends at (took seq method) = Some (record {
  seq = seq;
  method = method;
  from = at;
  end = end_in last ends seq;
})
bar_in last ends at _ = None
