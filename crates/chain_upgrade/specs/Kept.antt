-- The code's own: the invariant of a chain's fields. No public clause cites this module.
use Rattle.std.specs.Prelude.{ℕ, zero, suc, ◌≤◌, List, [], ◌∷◌, length, remove}
use Rattle.engine_core.specs.Engines.{EngineParts}
use Rattle.engine_core.specs.Marks.{PendingCall}
use Rattle.engine_core.specs.Working.{HasOnlyMarksOf}
use Rattle.engine_core.specs.declared.outcome.Outcome.{Outcome}
use Rattle.engine_core.specs.declared.outcome.Outcome.TheVariants as outcomes
use Rattle.chain_upgrade.specs.declared.turned.Turned.{Turned}
use Rattle.chain_upgrade.specs.declared.turned.Turned.TheVariants as turns
use Rattle.chain_upgrade.specs.Chains.{ArePendingOn}
use Rattle.chain_upgrade.specs.Cuts.{IsFalling, IsShort}

pub record IsKept (engines : List EngineParts) (room attached : ℕ) (calls : List PendingCall)
    (cuts : List ℕ) : Type 0 where
  pub stands : ArePendingOn engines attached calls
  pub falls : IsFalling (length calls) cuts
  pub short : IsShort (length engines) cuts
  -- the engines have room for eight
  pub room_for : 8 ≤ room

-- except for the first `first` ones, the calls of a row have marks of these engines alone
abbrev pub HasOnlyMarksInSuffix : List EngineParts → ℕ → List PendingCall → Type 0
HasOnlyMarksInSuffix engines first [] = Unit {0}
HasOnlyMarksInSuffix engines zero (s ∷ calls) = HasOnlyMarksOf engines s × HasOnlyMarksInSuffix engines zero calls
HasOnlyMarksInSuffix engines (suc first) (s ∷ calls) = HasOnlyMarksInSuffix engines first calls

-- the calls after a turn of the one at an index: a refused one is removed
abbrev pub remaining_calls : Outcome → ℕ → List PendingCall → List PendingCall
remaining_calls (outcomes.Refused noted why) place calls = remove calls place
remaining_calls _ place calls = calls

-- the result of an outcome for the call with a number
abbrev pub turned_as : ℕ → Outcome → Turned
turned_as seq (outcomes.Passed noted) = turns.Moved seq noted
turned_as seq (outcomes.Held level cost) = turns.Held seq level cost
turned_as seq (outcomes.Refused noted why) = turns.Refused seq noted why
turned_as seq outcomes.Redacted = turns.Redacted seq
