-- The views of an input, and their output.
use Rattle.std.specs.Prelude.{◌≡◌, ℕ, ◌⊎◌, List, [], ◌∷◌, codes, map, Option, String, string_bytes}
use Rattle.std.specs.declared.alloc.Global.{Global}
use Rattle.std.specs.Io.KnownBytes.{Appends}
use Rattle.view_top.specs.FaultLines.{fault_line}
use Rattle.frame_view.specs.Written.{HasViewedText, HasViewedToFault}
use Rattle.script_view.specs.Scripts.{IsScriptOf, HasStop}
use Rattle.view_top.specs.Drawing.{drawing}
use Rattle.view_top.specs.Lines.{events_of_text}
use Rattle.view_top.specs.Plain.{IsPlain}
use Rattle.view_top.specs.Rows.{AreRows, TimelineRow}
use Rattle.mrpc_base.specs.WholeInput.{IsInput, HasReadPast}
use Rattle.mrpc_base.specs.declared.whole_input.TheConstants.{MAX_INPUT}
use Rattle.view_top.specs.declared.view.ViewKind.{ViewKind}
use Rattle.view_top.specs.declared.view.ViewKind.TheVariants.{Frames, Script, Timeline}

-- the word of a view
abbrev pub view_word : ViewKind → List ℕ
view_word Frames = codes "frames"
view_word Script = codes "script"
view_word Timeline = codes "timeline"

-- the words are the word of the view alone
abbrev pub IsNamedView : List (String Global) → ViewKind → Type 0
IsNamedView words view = map string_bytes words ≡ view_word view ∷ []

abbrev pub IsView : List (String Global) → Type 0
IsView words = (view : ViewKind) × IsNamedView words view

-- the view of a text was written: its frames, the script that sends them, or the drawing of its events
abbrev pub IsViewOutput : ViewKind → List ℕ → Option (List ℕ) → Option (List ℕ) → Type 0
IsViewOutput Frames text out out' = HasViewedText text out out'
IsViewOutput Script text out out' = (script : List ℕ) × IsScriptOf text script × Appends out out' script
IsViewOutput Timeline text out out' = (rows : List TimelineRow) × AreRows (events_of_text text) rows
    × IsPlain (drawing rows)
    × Appends out out' (drawing rows)

-- a text has a first fault at a line or an offset, and the view of what precedes it was written; every text
-- has a drawing
abbrev pub IsViewToFault : ViewKind → List ℕ → Option (List ℕ) → Option (List ℕ) → ℕ → List ℕ → Type 0
IsViewToFault Frames text out out' place word = HasViewedToFault text out out' place word
IsViewToFault Script text out out' place word = HasStop text place word × Appends out out' []
IsViewToFault Timeline text out out' place word = ⊥

-- and the fault's line was written after that
abbrev pub HasRejectedView : ViewKind → List ℕ → Option (List ℕ) → Option (List ℕ) → Type 0
HasRejectedView view text out out' = (mid : Option (List ℕ)) × (place : ℕ) × (word : List ℕ)
    × IsViewToFault view text out mid place word × Appends mid out' (fault_line place word)

abbrev pub IsViewed : ViewKind → Option (List ℕ) → Option (List ℕ) → Option (List ℕ) → Type 0
IsViewed view left out out' = (text : List ℕ) × IsInput left text × IsViewOutput view text out out'

-- an input is too long, or its text has a fault
abbrev pub IsRejectedInput : ViewKind → Option (List ℕ) → Option (List ℕ) → Option (List ℕ) → Option (List ℕ) → Type 0
IsRejectedInput view left left' out out' =
    (HasReadPast MAX_INPUT left left' × Appends out out' (fault_line MAX_INPUT (codes "Input")))
    ⊎ ((text : List ℕ) × IsInput left text × HasRejectedView view text out out')
