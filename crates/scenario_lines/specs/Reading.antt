-- The state of a reader of a program (this project's own).
use Rattle.std.specs.Prelude.{◌≡◌, ℕ, ◌<◌, ◌≤◌, List, length, Contains, Option, Some, None}
use Rattle.std.specs.List.{list_any}
use Rattle.app_program.specs.Programs.{program_stores}
use Rattle.app_program.specs.declared.program.TheConstants.{MAX_STORES}
use Rattle.scenario_lines.specs.Lines.{IsProgramLineFault}
use Rattle.scenario_lines.specs.Programs.{AreValidLineMeanings, ends_in_reply, is_reply}
use Rattle.scenario_lines.specs.Reasons.{IsFirstLineReason}
use Rattle.scenario_lines.specs.declared.form.ProgramRole.{ProgramRole}
use Rattle.scenario_lines.specs.declared.program.ProgramReader.{ProgramReader}
use Rattle.scenario_lines.specs.declared.reason.LineReason.{LineReason}

-- the first of the reasons that hold, or none
abbrev pub IsFirstSoFar : (LineReason → Type 0) → Option LineReason → Type 0
IsFirstSoFar Stands None = (reason : LineReason) → Stands reason → ⊥
IsFirstSoFar Stands (Some reason) = IsFirstLineReason Stands reason

abbrev pub IsFaultSoFar : ProgramRole → ℕ → List (List ℕ) → LineReason → Type 0
IsFaultSoFar r heap texts reason = (text : List ℕ) × Contains texts text × IsProgramLineFault r heap text reason

-- the reader of a program of a role, for a heap with this many words, has read these lines
pub record HasRead (r : ProgramRole) (heap : ℕ) (texts : List (List ℕ)) (reader : ProgramReader) : Type 0 where
  pub of_role : reader.role ≡ r
  pub of_heap : reader.heap ≡ heap
  pub said : AreValidLineMeanings r heap texts reader.lines
  pub first : IsFirstSoFar (IsFaultSoFar r heap texts) reader.first
  pub counted : reader.stores ≤ MAX_STORES → reader.stores ≡ length (program_stores reader.lines)
  pub many : MAX_STORES < reader.stores → MAX_STORES < length (program_stores reader.lines)
  pub replied : reader.replied ≡ list_any is_reply texts
  pub ends : reader.ends ≡ ends_in_reply texts
