-- The code's own: what a worker holds and keeps.
use Rattle.std.specs.Prelude.{◌≡◌, ◌≤◌, List, Option, false, true, length}
use Rattle.std.specs.Vec.{vec_capacity}
use Rattle.crossbeam_queue.specs.Passes.{Pass, IsPassOf, IsSamePass, ruled_capacity, view}
use Rattle.crossbeam_queue.specs.declared.array_queue.Doing.{Doing}
use Rattle.crossbeam_queue.specs.declared.array_queue.Slotted.{Slotted}
use Rattle.worker_pool.specs.declared.pass_view.PassView.{PassView}
use Rattle.worker_pool.specs.declared.pass_view.NumberedItem.{NumberedItem}
use Rattle.worker_pool.specs.declared.worker.Worker.{Worker}
use Rattle.worker_pool.specs.declared.limits.TheConstants.{MAX_POOL_ITEMS}
use Rattle.worker_pool.specs.Rule.{EachHas, IsLaterItem, numbers_of}

-- the queue of a pool of such items
abbrev pub PoolQueueOf : Type 0 → Type 0 → Type 0 → Type 0
PoolQueueOf T Q A = Slotted (Option (NumberedItem T)) (Doing (NumberedItem T) (PassView T)) Q A

module _ {T : Type 0} where
  -- a pass of a pool's queue
  pub record IsPoolPass {Q A : Type 0} (q : PoolQueueOf T Q A) (p : Pass (NumberedItem T) (PassView T)) : Type 0 where
    pub of_queue : IsPassOf q p
    pub places : ruled_capacity q ≡ MAX_POOL_ITEMS

  -- A worker keeps the items that it holds, in the order in which it took them, and has room for all items. Each is a
  -- later state of an original one, and is finished unless the worker was stopped.
  pub record IsWorker (since : T → T → Type 0) (over : T → Type 0) (w : Worker T) : Type 0 where
    pub held : (view w.pass).held ≡ numbers_of w.kept.items
    pub room : length (view w.pass).firsts ≤ vec_capacity w.kept
    pub ones : EachHas (IsLaterItem since (view w.pass).firsts) w.kept.items
    pub ends : w.stopped ≡ false → EachHas (λ x. over x.item.value) w.kept.items

  -- a later state of a worker: it has the same pass, with as many parts, and knows the same original items
  pub record IsLaterWorker (old new : Worker T) : Type 0 where
    pub pass : IsSamePass old.pass new.pass
    pub parts : (view new.pass).parts ≡ (view old.pass).parts
    pub firsts : (view new.pass).firsts ≡ (view old.pass).firsts

  -- a worker whose pass knows these original items
  abbrev pub Knows : List T → Worker T → Type 0
  Knows firsts w = (view w.pass).firsts ≡ firsts

  -- a worker of this queue that hasn't started, with one part
  pub record IsFresh {Q A : Type 0} (since : T → T → Type 0) (over : T → Type 0)
      (q : PoolQueueOf T Q A) (w : Worker T) : Type 0 where
    pub line : IsPoolPass q w.pass
    pub part : (view w.pass).parts ≡ 1
    pub keeps : IsWorker since over w
    pub on : w.stopped ≡ false

  -- a worker of this queue, with one part, which knows these items
  pub record IsOfRun {Q A : Type 0} (q : PoolQueueOf T Q A) (firsts : List T) (w : Worker T) : Type 0 where
    pub line : IsPoolPass q w.pass
    pub part : (view w.pass).parts ≡ 1
    pub knows : Knows firsts w

  -- a worker that has ended; it was stopped only with this cause
  pub record HasEnded (since : T → T → Type 0) (over : T → Type 0) (Cause : Type 0) (w : Worker T) : Type 0 where
    pub keeps : IsWorker since over w
    pub cause : w.stopped ≡ true → Cause
