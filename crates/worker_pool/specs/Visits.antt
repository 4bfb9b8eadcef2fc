-- The effect of a visit on an item.
use Rattle.std.specs.Prelude.{◌≡◌}
use Rattle.std.specs.Borrow.{MutBor}
use Rattle.worker_pool.specs.declared.pool_item.VisitResult.{VisitResult}
use Rattle.worker_pool.specs.declared.pool_item.VisitResult.TheVariants.{Over}

-- the item is still later than each state that it was later than; and if the visit returned `Over`, it is finished
pub record IsItemAfterVisit {T : Type 0} (since : T → T → Type 0) (over : T → Type 0) (old : T) (came : VisitResult) (new : T) : Type 0
  where
    pub same_item : (first : T) → since first old → since first new
    pub ends : came ≡ Over → over new

-- each visit that a closure may make has this effect
abbrev pub EachVisitPreserves : {T : Type 0} → (T → T → Type 0) → (T → Type 0) → (MutBor T → VisitResult → MutBor T → Type 0) → Type 0
EachVisitPreserves {T} since over visits =
    (item : MutBor T) (came : VisitResult) (later : MutBor T) → visits item came later
    → IsItemAfterVisit since over item.now came later.now
