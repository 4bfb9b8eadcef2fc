-- What the result of a copy means for the loads that it made.
use Rattle.std.specs.Prelude.{◌≡◌, ℕ, List, length, drop}
use Rattle.mrpc_base.specs.Heap.{AreLoads}
use Rattle.mrpc_table.specs.Node.{Node}
use Rattle.mrpc_table.specs.declared.table.Table.{Table}
use Rattle.graph_form.specs.Placed.{Placed, IsSound, loads}
use Rattle.graph_form.specs.Forgotten.{tree_of}

-- the loads that were made since an earlier state, given all loads then and now
abbrev pub loads_since : List (ℕ × ℕ) → List (ℕ × ℕ) → List (ℕ × ℕ)
loads_since before now = drop (length before) now

-- Room was made, and then these loads, one after the other, each with the change that a load makes. Nothing else
-- changed.
pub record HasOnlyLoaded {W : Type 0} (after_room : W → W → Type 0) (after_load : W → ℕ → ℕ → W → Type 0)
    (old : W) (own : List (ℕ × ℕ)) (new : W) : Type 0 where
  pub roomed : W
  pub room : after_room old roomed
  pub loads : AreLoads after_load roomed own new

-- the loads are those of a sound placed tree of the message at the address, each made once, and this is its tree
pub record IsCopied (T : Table) (H msg address : ℕ) (own : List (ℕ × ℕ)) (tree : Node) : Type 0 where
  pub placed : Placed
  pub sound : IsSound T H msg address placed
  pub loads_are : own ≡ loads placed
  pub tree_is : tree ≡ tree_of T msg placed
