-- The code's own: the judgement of the lines so far.
use Rattle.std.specs.Prelude.{◌≡◌, ℕ, ◌+◌, ◌⊎◌, List, [], ◌∷◌, ◌++◌, length}
use Rattle.mrpc_table.specs.declared.table.Table.{Table}
use Rattle.call_history.specs.Legal.{History, IsLegal, trace_of}
use Rattle.call_history.specs.declared.happening.ConnectionEvent.{ConnectionEvent}
use Rattle.audit_rules.specs.BrokenRules.{IsFirstBrokenRule}
use Rattle.audit_rules.specs.declared.rule.Rule.TheVariants.{Stands}
use Rattle.audit_check.specs.Checking.{AreLegalPrefixes, IsFirstObligation, MayBeListed, StandsLine, context_on}
use Rattle.audit_check.specs.States.{IsListing, KnowsAll}
use Rattle.audit_check.specs.declared.connections.Checkers.{Checkers}
use Rattle.audit_check.specs.declared.listing.PendingListing.{PendingListing}
use Rattle.audit_check.specs.declared.stage.Illegal.{Illegal}
use Rattle.audit_check.specs.declared.stage.Stage.{Stage}
use Rattle.audit_check.specs.declared.stage.Stage.TheVariants as stages

-- an event breaks a rule
pub record HasBrokenRule (T : Table) (limit : ℕ) (h : History) (i : Illegal) : Type 0 where
  pub before : History
  pub after : History
  pub next : ConnectionEvent
  pub history : h ≡ before ++ next ∷ after
  pub prefixes : AreLegalPrefixes T limit before
  pub breaks : IsFirstBrokenRule (context_on T limit next.conn) (trace_of next.conn before) next.what i.rule
  pub counted : i.line ≡ length before + 1

-- there is an obligation
pub record HasUnmetObligation (T : Table) (limit : ℕ) (h : History) (i : Illegal) : Type 0 where
  pub prefixes : AreLegalPrefixes T limit h
  pub first : IsFirstObligation h i.rule
  pub counted : i.line ≡ length h + 1

-- the line of a pending call can't follow
pub record IsMisplaced (T : Table) (limit : ℕ) (h : History) (told : List StandsLine) (i : Illegal) : Type 0 where
  pub legal : IsLegal T limit h
  pub front : List StandsLine
  pub back : List StandsLine
  pub next : StandsLine
  pub lines : told ≡ front ++ next ∷ back
  pub begin : MayBeListed T limit h front
  pub ends : MayBeListed T limit h (front ++ next ∷ []) → ⊥
  pub counted : i.line ≡ length h + length front + 1
  pub rule : i.rule ≡ Stands

-- what is illegal, whichever lines of pending calls follow
abbrev pub IsIllegalAt : Table → ℕ → History → List StandsLine → Illegal → Type 0
IsIllegalAt T limit h told i = HasBrokenRule T limit h i ⊎ HasUnmetObligation T limit h i ⊎ IsMisplaced T limit h told i

pub record IsEventStage (T : Table) (limit : ℕ) (h : History) (told : List StandsLine) (c : Checkers) : Type 0 where
  pub untold : told ≡ []
  pub knows : KnowsAll T h c
  pub same_limit : c.limit ≡ limit
  pub prefixes : AreLegalPrefixes T limit h

pub record IsListingStage (T : Table) (limit : ℕ) (h : History) (told : List StandsLine) (row : PendingListing)
    : Type 0 where
  pub some_listed : told ≡ [] → ⊥
  pub legal : IsLegal T limit h
  pub is_row : IsListing T limit h told row

abbrev pub IsStage : Table → ℕ → History → List StandsLine → Stage → Type 0
IsStage T limit h told (stages.Events connections) = IsEventStage T limit h told connections
IsStage T limit h told (stages.Listing row) = IsListingStage T limit h told row
IsStage T limit h told (stages.Illegal i) = HasBrokenRule T limit h i ⊎ ((told ≡ [] → ⊥) × IsIllegalAt T limit h told i)
