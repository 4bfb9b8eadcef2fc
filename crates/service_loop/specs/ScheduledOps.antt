-- When the operations of operators are applied to the chain of a connection (this project's own).
use Rattle.std.specs.Prelude.{◌≡◌, ◌⊎◌, ℕ, ◌<◌, ◌≤◌, ◌^◌, List, [], ◌∷◌, ◌++◌, length, map, All, Option, Some, None, Bool, true, false}
use Rattle.std.specs.List.{AllZip}
use Rattle.engine_core.specs.Chains.{Chain, HasChanged, changed}
use Rattle.engine_core.specs.Policies.{IsPolicy, KnowsTenantOf}
use Rattle.engine_core.specs.declared.op.Op.{Op as Step}
use Rattle.call_history.specs.Trace.{Trace, empty_chain, taken}
use Rattle.call_history.specs.declared.happening.Happening.TheVariants.{Op}
use Rattle.conn_core.specs.ConnectionSteps.{IfPolicy}
use Rattle.service_loop.specs.declared.scheduled_op.ScheduledOp.{ScheduledOp}

-- ---- scheduled operations

-- the chain refuses none of the operations, one after another
abbrev pub HasNoRefusal : Chain → List Step → Type 0
HasNoRefusal before [] = Unit {0}
HasNoRefusal before (step ∷ steps) = HasChanged before step (changed step before)
    × HasNoRefusal (changed step before) steps

-- the counts of operations never decrease, and each is at least this
abbrev pub AreCountsAscending : ℕ → List ScheduledOp → Type 0
AreCountsAscending least [] = Unit {0}
AreCountsAscending least (due ∷ steps) = (least ≤ due.count) × AreCountsAscending due.count steps

-- the scheduled operations of a connection: their counts don't decrease, the chain refuses none, and the numbers of
-- their policies are in range
pub record AreScheduledOps (steps : List ScheduledOp) : Type 0 where
  pub ascend : AreCountsAscending 0 steps
  pub refuses_none : HasNoRefusal empty_chain (map (λ due. due.step) steps)
  pub policies : All (λ due. IfPolicy due.step IsPolicy) steps
  pub few : length steps < 2 ^ 31

-- the tenants of all quotas among the policies of the operations are known
abbrev pub KnowTenants : (ℕ → Type 0) → List ScheduledOp → Type 0
KnowTenants Knows steps = All (λ due. IfPolicy due.step (KnowsTenantOf Knows)) steps

-- ---- applied operations

-- the operations applied, in order, each with the number of calls taken before it
abbrev pub applied_ops : Trace → List (Step × ℕ)
applied_ops [] = []
applied_ops (Op step ∷ past) = applied_ops past ++ (step, length (taken past)) ∷ []
applied_ops (_ ∷ past) = applied_ops past

-- An operation with a count was applied when as many calls were taken as its count, or as the final number of calls, if
-- that is known and lower.
abbrev pub IsInPlace : Option ℕ → ℕ → ℕ → Type 0
IsInPlace None count taken = taken ≡ count
IsInPlace (Some all) count taken = (taken ≡ count) ⊎ ((taken ≡ all) × (all < count))

-- an operation that was scheduled was applied, in its place
pub record IsApplied (all : Option ℕ) (came : Step × ℕ) (due : ScheduledOp) : Type 0 where
  pub step : came.0 ≡ due.step
  pub place : IsInPlace all due.count came.1

-- exactly these operations were applied, in order, each in its place
abbrev pub AreApplied : Option ℕ → Trace → List ScheduledOp → Type 0
AreApplied all past steps = AllZip (IsApplied all) (applied_ops past) steps

-- the final number of calls, once no more follow
abbrev pub all_taken : Bool → Trace → Option ℕ
all_taken false past = None
all_taken true past = Some (length (taken past))
