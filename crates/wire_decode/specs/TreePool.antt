-- The kept vectors of trees that are no longer needed, each by its capacity.
use Rattle.std.specs.Prelude.{ℕ, ◌≤◌, List, [], length, map, All, Vec, vec_capacity}
use Rattle.wire_decode.specs.declared.tree_pool.TheConstants.{MAX_KEPT, MAX_ROOM, MAX_RUN_ROOM}

pub record PoolState : Type 0 where
  pub fields : List ℕ
  pub lists : List ℕ
  pub entries : List ℕ
  pub runs : List ℕ

abbrev pub empty_pool : PoolState
empty_pool = record { fields = []; lists = []; entries = []; runs = [] }

-- at most `MAX_KEPT` vectors, each of a capacity within the limit
pub record AreWithinLimits (capacities : List ℕ) (most : ℕ) : Type 0 where
  pub few : length capacities ≤ MAX_KEPT
  pub small : All (λ room. room ≤ most) capacities

-- the limits of the pool
pub record IsBounded (kept : PoolState) : Type 0 where
  pub fields : AreWithinLimits kept.fields MAX_ROOM
  pub lists : AreWithinLimits kept.lists MAX_ROOM
  pub entries : AreWithinLimits kept.entries MAX_ROOM
  pub runs : AreWithinLimits kept.runs MAX_RUN_ROOM

-- the capacity of each vector
abbrev pub capacities : {X Z : Type 0} → List (Vec X Z) → List ℕ
capacities vectors = map vec_capacity vectors

-- the pool of these vectors
abbrev pub pool_of : {F L E R Z : Type 0} → List (Vec F Z) → List (Vec L Z) → List (Vec E Z) → List (Vec R Z) → PoolState
pool_of fields lists entries runs = record {
  fields = capacities fields;
  lists = capacities lists;
  entries = capacities entries;
  runs = capacities runs;
}
