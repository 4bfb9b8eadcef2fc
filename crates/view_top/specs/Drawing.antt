-- How rows are written: one SVG, with a group for each row. All numbers are pixels.
use Rattle.std.specs.Prelude.{ℕ, ◌+◌, ◌-◌, ◌*◌, ◌%◌, max, Bool, true, false, List, [], ◌∷◌, ◌++◌, codes, length}
use Rattle.view_top.specs.SvgPieces.{text, number, quote, svg}
use Rattle.view_top.specs.Rows.{Tick, CallOutcome, was_sent, was_refused, stands, Bar, TimelineRow}
use Rattle.view_top.specs.declared.limits.TheConstants.{LEFT, STEP, RIGHT, ABOVE, LABEL, LABELS, LANE}

-- ---- offsets

-- the horizontal offset of an event in a row
abbrev pub x_of : ℕ → ℕ
x_of at = LEFT + at * STEP

-- the vertical offset of a bar in a row
abbrev pub y_of : ℕ → ℕ
y_of lane = ABOVE + lane * LANE

-- the vertical offset of a tick's words, by the number of ticks before it
abbrev pub label_y : ℕ → ℕ
label_y label = LABEL + label % LABELS * LABEL

abbrev pub height_of : TimelineRow → ℕ
height_of row = y_of (length row.bars + 1)

-- ---- ticks

abbrev pub tick_word : Bool → List ℕ
tick_word true = codes "step"
tick_word false = codes "moment"

abbrev pub unit_of : Bool → List ℕ
unit_of true = []
unit_of false = codes " ms"

-- the words, and a line from them down to the end of the row
unfoldable pub tick_text : (below label : ℕ) → Tick → List ℕ
tick_text below label m = svg (
    text (codes "<line class=\"") ∷ text (tick_word m.is_step) ∷ text (codes "\" x1=\"") ∷ number (x_of m.at)
    ∷ text (codes "\" y1=\"") ∷ number (label_y label) ∷ text (codes "\" x2=\"") ∷ number (x_of m.at)
    ∷ text (codes "\" y2=\"") ∷ number below ∷ text (codes "\"/>\n<text class=\"") ∷ text (tick_word m.is_step)
    ∷ text (codes "\" x=\"") ∷ number (x_of m.at + 3) ∷ text (codes "\" y=\"") ∷ number (label_y label)
    ∷ text (codes "\">") ∷ quote m.words ∷ text (unit_of m.is_step) ∷ text (codes "</text>\n") ∷ [])

abbrev pub ticks_text : (below label : ℕ) → List Tick → List ℕ
ticks_text below label [] = []
ticks_text below label (m ∷ ms) = tick_text below label m ++ ticks_text below (label + 1) ms

-- ---- calls

abbrev pub outcome_word : CallOutcome → List ℕ
outcome_word was_sent = codes "sent"
outcome_word (was_refused cause) = codes "refused"
outcome_word stands = codes "stands"

-- the bar of a call, from its acceptance to its end, with its number and a tooltip
unfoldable pub rect_text : (lane : ℕ) → Bar → List ℕ
rect_text lane b = svg (
    text (codes "<rect class=\"") ∷ text (outcome_word b.end.fate) ∷ text (codes "\" x=\"") ∷ number (x_of b.from)
    ∷ text (codes "\" y=\"") ∷ number (y_of lane) ∷ text (codes "\" width=\"") ∷ number ((b.end.to - b.from) * STEP)
    ∷ text (codes "\" height=\"14\"><title>call ") ∷ number b.seq ∷ text (codes " of method ") ∷ number b.method
    ∷ text (codes ", ") ∷ text (outcome_word b.end.fate) ∷ text (codes "</title></rect>\n<text x=\"")
    ∷ number (x_of b.from + 4) ∷ text (codes "\" y=\"") ∷ number (y_of lane + 11) ∷ text (codes "\">")
    ∷ number b.seq ∷ text (codes "</text>\n") ∷ [])

-- the cause after a call that was refused
unfoldable pub cause_text : (x y : ℕ) → CallOutcome → List ℕ
cause_text x y (was_refused cause) = svg (
    text (codes "<text x=\"") ∷ number (x + 4) ∷ text (codes "\" y=\"") ∷ number (y + 11) ∷ text (codes "\">")
    ∷ quote cause ∷ text (codes "</text>\n") ∷ [])
cause_text x y _ = []

abbrev pub bar_text : (lane : ℕ) → Bar → List ℕ
bar_text lane b = rect_text lane b ++ cause_text (x_of b.end.to) (y_of lane) b.end.fate

-- each bar is below the previous one
abbrev pub bars_text : (lane : ℕ) → List Bar → List ℕ
bars_text lane [] = []
bars_text lane (b ∷ bs) = bar_text lane b ++ bars_text (lane + 1) bs

-- ---- rows

unfoldable pub head_text : (top conn : ℕ) → List ℕ
head_text top conn = svg (
    text (codes "<g transform=\"translate(0,") ∷ number top
    ∷ text (codes ")\">\n<text x=\"8\" y=\"57\">connection ") ∷ number conn ∷ text (codes "</text>\n") ∷ [])

unfoldable pub foot_text : List ℕ
foot_text = svg (text (codes "</g>\n") ∷ [])

abbrev pub row_text : (top : ℕ) → TimelineRow → List ℕ
row_text top row =
    head_text top row.conn ++ (ticks_text (y_of (length row.bars)) 0 row.marks ++ (bars_text 0 row.bars ++ foot_text))

-- each row is below the previous one
abbrev pub rows_text : (top : ℕ) → List TimelineRow → List ℕ
rows_text top [] = []
rows_text top (row ∷ rows) = row_text top row ++ rows_text (top + height_of row) rows

-- ---- the whole

abbrev pub total_height : List TimelineRow → ℕ
total_height [] = 0
total_height (row ∷ rows) = height_of row + total_height rows

abbrev pub longest : List TimelineRow → ℕ
longest [] = 0
longest (row ∷ rows) = max row.happenings (longest rows)

-- the first lines of the drawing, with its size and the style of the shapes
unfoldable pub svg_opening : (width height : ℕ) → List ℕ
svg_opening width height = svg (
    text (codes "<svg xmlns=\"http://www.w3.org/2000/svg\" font-family=\"monospace\" font-size=\"11\" width=\"")
    ∷ number width ∷ text (codes "\" height=\"") ∷ number height
    ∷ text (codes "\">\n<style>.sent{fill:#9fd6a8;stroke:#2f7d3b}.refused{fill:#f2b8b5;stroke:#b02020}")
    ∷ text (codes ".stands{fill:none;stroke:#555555;stroke-dasharray:4,2}")
    ∷ text (codes "line.step{stroke:#1f5fbf}text.step{fill:#1f5fbf}")
    ∷ text (codes "line.moment{stroke:#999999;stroke-dasharray:2,2}text.moment{fill:#777777}")
    ∷ text (codes "</style>\n<rect width=\"100%\" height=\"100%\" fill=\"#ffffff\"/>\n") ∷ [])

unfoldable pub svg_closing : List ℕ
svg_closing = svg (text (codes "</svg>\n") ∷ [])

abbrev pub drawing : List TimelineRow → List ℕ
drawing rows = svg_opening (x_of (longest rows) + RIGHT) (total_height rows) ++ (rows_text 0 rows ++ svg_closing)
