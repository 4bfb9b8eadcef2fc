-- The weights of connections: valid lists, and the first fault of any other (this project's own).
use Rattle.std.specs.Prelude.{◌≡◌, ℕ, ◌==◌, List, ◌∷◌, ◌++◌, map, find, All, Contains, nat_eq, Option, unwrap_or, option_map, ◌⊎◌}
use Rattle.std.specs.List.{IsDistinct}
use Rattle.std.specs.List.Sorted.{IsNonDecreasingBy}
use Rattle.qos_order.specs.declared.weights.Weight.{Weight}
use Rattle.qos_order.specs.declared.weights.WeightFault.{WeightFault}
use Rattle.qos_order.specs.declared.weights.WeightFault.TheVariants.{Range, Twice, Memory}
use Rattle.qos_order.specs.Account.{IsWeight}

-- the connections of a list of weights
abbrev pub conns_of_weights : List Weight → List ℕ
conns_of_weights weights = map (λ w. w.conn) weights

-- the entries are ordered by number
abbrev pub AreSortedByConn : List Weight → Type 0
AreSortedByConn weights = IsNonDecreasingBy (λ w. w.conn) weights

-- each weight is 1 to 100, and no connection is listed twice
pub record AreValidWeights (weights : List Weight) : Type 0 where
  pub ranged : All (λ w. IsWeight w.weight) weights
  pub once : IsDistinct nat_eq (conns_of_weights weights)

-- an entry that follows these entries has this fault; a weight out of range comes before a repeated number
abbrev pub IsAtFault : List Weight → Weight → WeightFault → Type 0
IsAtFault before entry (Range conn) = (conn ≡ entry.conn) × (¬ IsWeight entry.weight)
IsAtFault before entry (Twice conn) = (conn ≡ entry.conn) × IsWeight entry.weight × Contains (conns_of_weights before) conn
IsAtFault before entry Memory = ⊥

-- the first fault of a list: that of an entry whose preceding entries are valid
pub record IsFirstFault (weights : List Weight) (fault : WeightFault) : Type 0 where
  pub before : List Weight
  pub entry : Weight
  pub after : List Weight
  pub is : weights ≡ before ++ entry ∷ after
  pub sound : AreValidWeights before
  pub there : IsAtFault before entry fault

-- the entry of a connection
abbrev pub weight_entry : List Weight → ℕ → Option Weight
weight_entry weights conn = find (λ w. w.conn == conn) weights

-- the weight of a connection; 1 if it isn't listed
abbrev pub weight_of : List Weight → ℕ → ℕ
weight_of weights conn = unwrap_or (option_map (λ w. w.weight) (weight_entry weights conn)) 1

-- a list has at most one first fault
abbrev pub HasAtMostOneFault : Type 0
HasAtMostOneFault = (weights : List Weight) (fault other : WeightFault) → IsFirstFault weights fault
    → IsFirstFault weights other → fault ≡ other

-- a valid list has no fault
abbrev pub HasNoFaultIfValid : Type 0
HasNoFaultIfValid = (weights : List Weight) (fault : WeightFault) → AreValidWeights weights → IsFirstFault weights fault → ⊥

-- a list is valid or has a first fault
abbrev pub IsValidOrFaulty : Type 0
IsValidOrFaulty = (weights : List Weight) → AreValidWeights weights ⊎ ((fault : WeightFault) × IsFirstFault weights fault)

-- a valid list, ordered by number
pub record AreValidSortedWeights (weights : List Weight) : Type 0 where
  pub sound : AreValidWeights weights
  pub ascends : AreSortedByConn weights
