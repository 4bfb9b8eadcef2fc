-- The layout of blocks and holes in a heap of words (this project's own).
use Rattle.std.specs.Prelude.{◌≡◌, ℕ, ◌+◌, ◌<◌, ◌≤◌, ◌⊎◌, ◌&&◌, Bool, nat_le, nat_lt, List, ◌∷◌, ◌++◌, All, map, Result, Ok, Err}
use Rattle.std.specs.List.{Any, AllPairs, count_by}
use Rattle.std.specs.List.Sorted.{IsStrictlyIncreasing}
use Rattle.receive_heap.specs.declared.holes.PlaceRange.{PlaceRange}
use Rattle.receive_heap.specs.declared.extents.Block.{Block}
use Rattle.receive_heap.specs.declared.extents.TakeFault.{TakeFault}
use Rattle.receive_heap.specs.declared.extents.TakeFault.TheVariants.{NoHole, Memory}

-- the words of a heap, its holes by place, its held blocks by number, and the number of the next block
pub record Layout : Type 0 where
  pub words : ℕ
  pub holes : List PlaceRange
  pub held : List Block
  pub next : ℕ

-- whether a place is one of the `words` places from `at` on
abbrev pub has_place : ℕ → ℕ → ℕ → Bool
has_place at words place = nat_le at place && nat_lt place (at + words)

-- how many of the holes and held blocks have a place
abbrev pub owners_of : Layout → ℕ → ℕ
owners_of layout place = count_by (λ hole. has_place hole.at hole.words place) layout.holes
    + count_by (λ block. has_place block.at block.words place) layout.held

-- each place from 1 on is in exactly one hole or held block, and they have no other place
pub record IsPartition (layout : Layout) : Type 0 where
  pub inside : (place : ℕ) → 1 ≤ place → place < layout.words → owners_of layout place ≡ 1
  pub outside : (place : ℕ) → (place < 1) ⊎ (layout.words ≤ place) → owners_of layout place ≡ 0

-- the holes are ordered by place, and no two touch
abbrev pub AreSeparate : List PlaceRange → Type 0
AreSeparate holes = AllPairs (λ hole later. hole.at + hole.words < later.at) holes

-- the first hole with at least this many words starts at this place
pub record IsFirstFit (holes : List PlaceRange) (words at : ℕ) : Type 0 where
  pub before : List PlaceRange
  pub hole : PlaceRange
  pub after : List PlaceRange
  pub is : holes ≡ before ++ hole ∷ after
  pub too_small : All (λ small. small.words < words) before
  pub fits : words ≤ hole.words
  pub at_front : at ≡ hole.at

-- no hole has more words, and some hole has this many, or it is 0
pub record IsLargest (holes : List PlaceRange) (words : ℕ) : Type 0 where
  pub most : All (λ hole. hole.words ≤ words) holes
  pub reached : Any (λ hole. hole.words ≡ words) holes ⊎ (words ≡ 0)

-- the error that no hole is large enough
abbrev pub IsNoHole : Result Block TakeFault → Type 0
IsNoHole (Ok _) = ⊥
IsNoHole (Err (NoHole _ _)) = Unit {0}
IsNoHole (Err Memory) = ⊥

-- the fields of that error: the requested words, and those of the largest hole
abbrev pub HasLargest : List PlaceRange → ℕ → TakeFault → Type 0
HasLargest holes words (NoHole need largest) = (need ≡ words) × IsLargest holes largest
HasLargest holes words Memory = Unit {0}

-- the new list of blocks is the old one without the block of this number
pub record IsWithout (number : ℕ) (old new : List Block) : Type 0 where
  pub before : List Block
  pub block : Block
  pub after : List Block
  pub was : old ≡ before ++ block ∷ after
  pub has : block.number ≡ number
  pub is : new ≡ before ++ after

-- the invariant of a heap: held blocks and holes partition the places, no two holes touch, and the numbers of
-- the held blocks increase and are below the next one
pub record IsPartitioned (layout : Layout) : Type 0 where
  pub partition : IsPartition layout
  pub apart : AreSeparate layout.holes
  pub hole_words : All (λ hole. 1 ≤ hole.words) layout.holes
  pub block_words : All (λ block. 1 ≤ block.words) layout.held
  pub numbers : IsStrictlyIncreasing (map (λ block. block.number) layout.held)
  pub numbered : All (λ block. (1 ≤ block.number) × (block.number < layout.next)) layout.held

-- the held blocks of a heap determine its holes
abbrev pub AreHolesDetermined : Type 0
AreHolesDetermined = (one other : Layout) → IsPartitioned one → IsPartitioned other → one.words ≡ other.words
    → one.held ≡ other.held → one.holes ≡ other.holes
