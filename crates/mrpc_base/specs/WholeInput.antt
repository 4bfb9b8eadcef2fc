-- The results of reading an input.
use Rattle.std.specs.Prelude.{◌≡◌, ℕ, ◌+◌, ◌≤◌, List, length, Option, None, Some}
use Rattle.std.specs.Io.KnownBytes.{Consumes}
use Rattle.mrpc_base.specs.declared.whole_input.TheConstants.{MAX_INPUT}
use Rattle.mrpc_base.specs.declared.whole_input.InputResult.{InputResult}
use Rattle.mrpc_base.specs.declared.whole_input.InputResult.TheVariants.{Whole}

-- P holds of the bytes of an input that was read to its end
abbrev pub OnWhole : InputResult → (List ℕ → Type 0) → Type 0
OnWhole (Whole text) P = P text.items
OnWhole _ P = Unit {0}

-- the text is all that a source had left to read, if the source reveals that
abbrev pub IsAllOf : Option (List ℕ) → List ℕ → Type 0
IsAllOf None text = Unit {0}
IsAllOf (Some bytes) text = bytes ≡ text

-- the text is all that the source had left to read, if it reveals that, and is within the limit of an input
pub record IsInput (left : Option (List ℕ)) (text : List ℕ) : Type 0 where
  pub all : IsAllOf left text
  pub short : length text ≤ MAX_INPUT

-- one byte past the limit was read
abbrev pub HasReadPast : ℕ → Option (List ℕ) → Option (List ℕ) → Type 0
HasReadPast limit old new = (front : List ℕ) × (length front ≡ limit + 1) × Consumes old new front
