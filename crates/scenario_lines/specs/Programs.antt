-- What the lines of a program mean together, and their faults (this project's own).
use Rattle.std.specs.Prelude.{◌≡◌, ◌⊎◌, ℕ, ◌<◌, ◌≤◌, Bool, true, false, ◌&&◌, not, List, [], ◌∷◌, length, Contains}
use Rattle.std.specs.Str.{bytes_eq}
use Rattle.mrpc_table.specs.Lines.{words_of}
use Rattle.app_program.specs.Programs.{program_stores}
use Rattle.app_program.specs.declared.program.ProgramLine.{ProgramLine}
use Rattle.app_program.specs.declared.program.TheConstants.{MAX_LINES, MAX_REQUEST_STORES, MAX_STORES}
use Rattle.scenario_lines.specs.Forms.{first_word}
use Rattle.scenario_lines.specs.Lines.{IsProgramLineFault, IsProgramLineMeaning, first_word_of}
use Rattle.scenario_lines.specs.declared.form.ProgramForm.TheVariants.{Reply}
use Rattle.scenario_lines.specs.declared.form.ProgramRole.{ProgramRole}
use Rattle.scenario_lines.specs.declared.form.ProgramRole.TheVariants.{Client, Server}
use Rattle.scenario_lines.specs.declared.reason.LineReason.{LineReason}
use Rattle.scenario_lines.specs.declared.reason.LineReason.TheVariants.{Number, Word}

-- the relation holds between the items of two lists, item by item
abbrev pub Each : {X Y : Type 0} → (X → Y → Type 0) → List X → List Y → Type 0
Each R [] [] = Unit {0}
Each R (x ∷ xs) (y ∷ ys) = R x y × Each R xs ys
Each R _ _ = ⊥

-- what the lines without a fault mean, in order
abbrev pub AreValidLineMeanings : ProgramRole → ℕ → List (List ℕ) → List ProgramLine → Type 0
AreValidLineMeanings r heap [] said = said ≡ []
AreValidLineMeanings r heap (text ∷ texts) said =
    ((line : ProgramLine) × (rest : List ProgramLine) × IsProgramLineMeaning r heap text line × (said ≡ line ∷ rest)
    × AreValidLineMeanings r heap texts rest)
    ⊎ (((reason : LineReason) × IsProgramLineFault r heap text reason) × AreValidLineMeanings r heap texts said)

-- the maximum number of stores of a program; of a server's, for each request
abbrev pub most_stores : ProgramRole → ℕ
most_stores Client = MAX_STORES
most_stores Server = MAX_REQUEST_STORES

-- the line has the form of a reply
abbrev pub is_reply : List ℕ → Bool
is_reply text = bytes_eq (first_word_of (words_of text)) (first_word Reply)

-- the last line has the form of a reply, and no other
abbrev pub ends_in_reply : List (List ℕ) → Bool
ends_in_reply [] = false
ends_in_reply (text ∷ []) = is_reply text
ends_in_reply (text ∷ texts) = not (is_reply text) && ends_in_reply texts

-- the lines are a program of a role, for a heap with this many words
pub record IsProgramMeaning (r : ProgramRole) (heap : ℕ) (texts : List (List ℕ)) (lines : List ProgramLine) : Type 0 where
  pub said : Each (IsProgramLineMeaning r heap) texts lines
  pub stores : length (program_stores lines) ≤ most_stores r
  pub few : length lines ≤ MAX_LINES
  pub reply : r ≡ Server → ends_in_reply texts ≡ true

-- the lines have a fault with this reason as a program of a role, for a heap with this many words
pub data IsProgramFault (r : ProgramRole) (heap : ℕ) (texts : List (List ℕ)) (reason : LineReason) : Type 0 where
  in_line : (text : List ℕ) → Contains texts text → IsProgramLineFault r heap text reason → IsProgramFault r heap texts reason
  -- faulty lines have no meaning, so they aren't counted
  too_many_stores : (said : List ProgramLine) → AreValidLineMeanings r heap texts said → most_stores r < length (program_stores said)
      → reason ≡ Number → IsProgramFault r heap texts reason
  too_many_lines : (said : List ProgramLine) → AreValidLineMeanings r heap texts said → MAX_LINES < length said → reason ≡ Number
      → IsProgramFault r heap texts reason
  no_reply : r ≡ Server → ends_in_reply texts ≡ false → reason ≡ Word → IsProgramFault r heap texts reason
