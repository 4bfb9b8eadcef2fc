-- The content of the rows of a drawing.
use Rattle.std.specs.Prelude.{◌≡◌, ◌≢◌, ℕ, ◌+◌, ◌<◌, ◌==◌, Bool, true, false, List, [], ◌∷◌, length, Option, Some, None, if◌then◌else◌}
use Rattle.std.specs.List.{AllByRecursion, cons_option}
use Rattle.view_top.specs.Lines.{LineEvent, took, sent, refused, operation, moment, ConnLineEvent}

-- positions in a row are indices of events

-- a line across a row: an operator's operation, or a timestamp
pub record Tick : Type 0 where
  pub at : ℕ
  pub words : List ℕ
  pub is_step : Bool

-- the outcome of a call
pub data CallOutcome : Type 0 where
  was_sent : CallOutcome
  was_refused : (cause : List ℕ) → CallOutcome
  stands : CallOutcome

pub record End : Type 0 where
  pub to : ℕ
  pub fate : CallOutcome

-- a call, from the line that accepts it
pub record Bar : Type 0 where
  pub seq : ℕ
  pub method : ℕ
  pub from : ℕ
  pub end : End

pub record TimelineRow : Type 0 where
  pub conn : ℕ
  pub happenings : ℕ
  pub marks : List Tick
  pub bars : List Bar

abbrev pub tick_at : ℕ → LineEvent → Option Tick
tick_at at (operation words) = Some (record { at = at; words = words; is_step = true })
tick_at at (moment words) = Some (record { at = at; words = words; is_step = false })
tick_at at _ = None

-- the ticks of events, from an index
abbrev pub ticks_from : ℕ → List LineEvent → List Tick
ticks_from at [] = []
ticks_from at (w ∷ ws) = cons_option (tick_at at w) (ticks_from (at + 1) ws)

-- the outcome of a call with this number in this event, if it ends it
abbrev pub outcome_here : (seq : ℕ) → LineEvent → Option CallOutcome
outcome_here seq (sent n) = if n == seq then Some was_sent else None
outcome_here seq (refused n cause) = if n == seq then Some (was_refused cause) else None
outcome_here seq _ = None

abbrev pub first_end : ℕ → Option CallOutcome → End → End
first_end at (Some fate) later = record { to = at; fate = fate }
first_end at None later = later

-- the end of a call with this number that was accepted before this index: in the first line that sends or
-- refuses it; if there is none, it is pending up to the end of the row
abbrev pub end_from : (seq : ℕ) → ℕ → List LineEvent → End
end_from seq at [] = record { to = at; fate = stands }
end_from seq at (w ∷ ws) = first_end at (outcome_here seq w) (end_from seq (at + 1) ws)

abbrev pub bar_at : ℕ → LineEvent → List LineEvent → Option Bar
bar_at at (took seq method) behind =
    Some (record { seq = seq; method = method; from = at; end = end_from seq (at + 1) behind })
bar_at at _ behind = None

-- the calls accepted by events from an index on, one for each such event
abbrev pub bars_from : ℕ → List LineEvent → List Bar
bars_from at [] = []
bars_from at (w ∷ ws) = cons_option (bar_at at w ws) (bars_from (at + 1) ws)

-- the events of a connection, in order
abbrev pub of_connection : (conn : ℕ) → List ConnLineEvent → List LineEvent
of_connection conn [] = []
of_connection conn (h ∷ hs) = if h.conn == conn then h.what ∷ of_connection conn hs else of_connection conn hs

-- the row of a connection with these events
abbrev pub row_of : (conn : ℕ) → List LineEvent → TimelineRow
row_of conn ws = record { conn = conn; happenings = length ws; marks = ticks_from 0 ws; bars = bars_from 0 ws }

-- the rows are in ascending order of their connections
abbrev pub AreAscendingRows : List TimelineRow → Type 0
AreAscendingRows [] = Unit {0}
AreAscendingRows (row ∷ rows) = AllByRecursion (λ r. row.conn < r.conn) rows × AreAscendingRows rows

-- the rows of events: one for each connection that has an event, in ascending order
pub record AreRows (hs : List ConnLineEvent) (rows : List TimelineRow) : Type 0 where
  pub rise : AreAscendingRows rows
  pub each : AllByRecursion (λ r. (r ≡ row_of r.conn (of_connection r.conn hs)) × (0 < r.happenings)) rows
  pub others : (conn : ℕ) → AllByRecursion (λ r. r.conn ≢ conn) rows → of_connection conn hs ≡ []
