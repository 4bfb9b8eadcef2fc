-- What a heap holds where a message was placed.
use Rattle.std.specs.Prelude.{◌≡◌, ℕ, ◌+◌, ◌<◌, ◌≤◌, List, map, All, length}
use Rattle.mrpc_table.specs.Node.{Node}
use Rattle.mrpc_table.specs.Valid.{AreDistinct}
use Rattle.mrpc_table.specs.declared.table.Table.{Table}
use Rattle.graph_form.specs.Placed.{Placed}
use Rattle.graph_form.specs.Forgotten.{tree_of}
use Rattle.graph_form.specs.Stored.{AreWordsOf}
use Rattle.graph_form.specs.declared.placed.Placed.{Placed as PlacedWords}

-- the places of words
abbrev pub places : List (ℕ × ℕ) → List ℕ
places words = map (λ word. word.0) words

-- each word lies in the `words` places from `at`
abbrev pub AreWithin : ℕ → ℕ → List (ℕ × ℕ) → Type 0
AreWithin at words xs = All (λ word. (at ≤ word.0) × (word.0 < at + words)) xs

-- no two words have the same place
abbrev pub HaveDistinctPlaces : List (ℕ × ℕ) → Type 0
HaveDistinctPlaces xs = AreDistinct (places xs)

-- A message lies in words of a heap of `words` words. They are what a copy from `at` loads, in that order: the node
-- first, then each content. They belong to a sound placed tree, whose tree is this one. All lie in the `span` places
-- from `at`, at distinct places.
pub record IsPlacedIn (T : Table) (words msg : ℕ) (t : Node) (at span : ℕ) (placed : PlacedWords) : Type 0 where
  pub tree : Placed
  pub loaded : AreWordsOf T words msg tree placed
  pub means : tree_of T msg tree ≡ t
  pub address : placed.address ≡ at
  pub within : AreWithin at span placed.words
  pub apart : HaveDistinctPlaces placed.words
  pub few : length placed.words ≤ span
