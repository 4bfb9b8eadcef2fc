-- The rule of a pool's queue: where each item is.
use Rattle.std.specs.Prelude.{◌≡◌, ℕ, ◌+◌, ◌-◌, ◌<◌, ◌≤◌, ◌==◌, count_by, List, [], ◌∷◌, ◌++◌, ⊤, map, length, take, slice_get, IsSomeAnd, sum_by, flat_map, IsPermutation}
use Rattle.std.specs.List.{range_with_len}
use mathlib.Core.Option.{some}
use lib.ListN.{get_elem?}
use Rattle.worker_pool.specs.declared.pass_view.PassView.{PassView}
use Rattle.worker_pool.specs.declared.pass_view.NumberedItem.{NumberedItem}
use Rattle.worker_pool.specs.declared.limits.TheConstants.{MAX_POOL_ITEMS}
use Rattle.worker_pool.specs.Later.{IsLater}

-- the total number of parts of all passes; a pass with all of them knows where every item is
abbrev pub all_parts : ℕ
all_parts = 1024

-- a list without its last element
abbrev pub without_last : {X : Type 0} → List X → List X
without_last xs = take (length xs - 1) xs

-- the number of occurrences of a number in a list
abbrev pub occurrences : ℕ → List ℕ → ℕ
occurrences number numbers = count_by (λ n. n == number) numbers

-- each element of a list has a property
abbrev pub EachHas : {X : Type 0} → (X → Type 0) → List X → Type 0
EachHas P [] = ⊤
EachHas P (x ∷ xs) = P x × EachHas P xs

module _ {T : Type 0} where
  abbrev pub hand : ℕ → List ℕ → List T → PassView T
  hand parts held firsts = record { parts = parts; held = held; firsts = firsts }

  -- the numbers of some items, in order
  abbrev pub numbers_of : List (NumberedItem T) → List ℕ
  numbers_of items = map (λ x. x.number) items

  -- the numbers of the items that are out of the queue
  abbrev pub numbers_out : List (PassView T) → List ℕ
  numbers_out views = flat_map (λ v. v.held) views

  -- the numbers from 0, as many as there are items in the run, occur once each
  abbrev pub AreAllOnce : List T → List ℕ → Type 0
  AreAllOnce firsts numbers = IsPermutation (range_with_len 0 (length firsts)) numbers

  -- the item's number is that of an item of the run, and the item is a later state of that one
  abbrev pub IsLaterItem : (T → T → Type 0) → List T → NumberedItem T → Type 0
  IsLaterItem since firsts x = IsSomeAnd (slice_get firsts x.number) (λ first. IsLater since first x.item.value)

  -- a pass with a part knows the run's original items, and one without holds nothing
  pub record IsViewOfPool (firsts : List T) (v : PassView T) : Type 0 where
    pub knows : 0 < v.parts → v.firsts ≡ firsts
    pub idle : v.parts ≡ 0 → v.held ≡ []

  -- each number occurs once, in the queue or in one pass, and each item in the queue is a later state of the original
  -- one with its number
  pub record IsPooled (since : T → T → Type 0) (items : List (NumberedItem T)) (views : List (PassView T)) : Type 0 where
    pub firsts : List T
    pub once : AreAllOnce firsts (numbers_out views ++ numbers_of items)
    pub queued : EachHas (IsLaterItem since firsts) items
    pub few : length firsts ≤ MAX_POOL_ITEMS
    pub parts : sum_by (λ v. v.parts) views ≡ all_parts
    pub passes : (pass : ℕ) (v : PassView T) → get_elem? views pass ≡ some v → IsViewOfPool firsts v

  -- a pass knows that what it holds and what the queue holds are together no more than all items
  abbrev pub KnowsRoom : PassView T → List (NumberedItem T) → Type 0
  KnowsRoom v items = (length v.held + length items ≤ length v.firsts) × (length v.firsts ≤ MAX_POOL_ITEMS)

  -- a pass with all parts knows that what it holds and what the queue holds are together all items, each once
  abbrev pub KnowsAllItems : PassView T → List (NumberedItem T) → Type 0
  KnowsAllItems v items = v.parts ≡ all_parts → AreAllOnce v.firsts (v.held ++ numbers_of items)

  -- an item has come into the hand
  pub record IsTakeStep (since : T → T → Type 0) (v : PassView T) (x : NumberedItem T) (w : PassView T) : Type 0 where
    pub view : w ≡ hand v.parts (v.held ++ x.number ∷ []) v.firsts
    pub one : IsLaterItem since v.firsts x
    pub few : length w.held ≤ length v.firsts
