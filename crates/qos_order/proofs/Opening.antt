-- The wheel of a valid list.
use Rattle.std.proofs.Common.{◌≡◌, ℕ, zero, suc, ◌<◌, length, arith, ◌==◌, List, [], ◌∷◌, map, get_or, option_map, refl, ap, ◌∙◌, inl, inr}
use Rattle.std.specs.List.{find}
use Rattle.std.specs.List.Sorted.{IsPermutation}
use Rattle.std.proofs.lemmas.List.Elements.{All-map, Contains-get_or}
use Rattle.std.proofs.lemmas.List.Sorted.{All-permutation, Contains-permutation, IsPermutation-map}
use Rattle.qos_order.proofs.Balance.{new_balanced}
use Rattle.qos_order.proofs.Keyed.{bool_cases, find-moved, keyed-moved}
use Rattle.qos_order.specs.Account.{IsBalanced, IsWeight}
use Rattle.qos_order.specs.Weights.{AreSortedByConn, AreValidWeights, conns_of_weights, weight_entry}
use Rattle.qos_order.specs.Wheel.{IsWheel, AreEntriesSorted, listed_conns, new_wheel_entry}
use Rattle.qos_order.specs.declared.wheel_entry.WheelEntry.{WheelEntry}
use Rattle.qos_order.specs.declared.weights.Weight.{Weight}

numbers-opened : (weights : List Weight) → listed_conns (map new_wheel_entry weights) ≡ conns_of_weights weights
numbers-opened [] = refl
numbers-opened (w ∷ weights) = ap (λ ns. w.conn ∷ ns) (numbers-opened weights)

find-opened : (weights : List Weight) (n : ℕ) → find (λ s. s.conn == n) (map new_wheel_entry weights) ≡ option_map new_wheel_entry (find (λ w. w.conn == n) weights)
find-opened [] n = refl
find-opened (w ∷ weights) n = elim (bool_cases (w.conn == n)) [ inl same ↦ rw same refl | inr other ↦ rw other (find-opened weights n) ]

-- what is listed under a number is the entry of the list
pub seat_opened : (weights sorted : List Weight) (n : ℕ) → AreValidWeights weights → IsPermutation weights sorted
    → find (λ s. s.conn == n) (map new_wheel_entry sorted) ≡ option_map new_wheel_entry (weight_entry weights n)
seat_opened weights sorted n sound moved = find-opened sorted n ∙ ap (option_map new_wheel_entry) (find-moved (λ w. w.conn) weights sorted n moved sound.once)

pub opened_wheel : (weights sorted : List Weight) → AreValidWeights weights → IsPermutation weights sorted → IsWheel (record { listed = map new_wheel_entry sorted; order = conns_of_weights weights })
opened_wheel weights sorted sound moved = record {
  listed_once = rw (numbers-opened sorted) (keyed-moved (λ w. w.conn) weights sorted moved sound.once);
  on_once = sound.once;
  known = rw (numbers-opened sorted) (λ k d within. Contains-permutation (conns_of_weights weights) (conns_of_weights sorted)
      (get_or (conns_of_weights weights) k d) (IsPermutation-map (λ w. w.conn) weights sorted moved)
      (Contains-get_or (conns_of_weights weights) k d within));
  weights = All-map (λ s. IsWeight s.weight) new_wheel_entry sorted (All-permutation (λ w. IsWeight w.weight) weights sorted moved sound.ranged);
  balanced = All-map (λ s. IsBalanced s.weight s.account) new_wheel_entry sorted (λ k d within. new_balanced (get_or sorted k d).weight);
}

pub opened_ascends : (sorted : List Weight) → AreSortedByConn sorted → AreEntriesSorted (map new_wheel_entry sorted)
opened_ascends sorted up i j d le within =
    let long : length (map new_wheel_entry sorted) ≡ length sorted = length-map new_wheel_entry sorted in
    let none : Weight = record { conn = 0; weight = 0 } in
    let at_i = get_opened sorted i d none (omega arith) in
    let at_j = get_opened sorted j d none (omega arith) in
    rw (at_i, at_j) (up i j none le (omega arith))
  where
    length-map : (f : Weight → WheelEntry) (ws : List Weight) → length (map f ws) ≡ length ws
    length-map f [] = refl
    length-map f (w ∷ ws) = ap suc (length-map f ws)

    get_opened : (ws : List Weight) (i : ℕ) (d : WheelEntry) (e : Weight) → i < length ws → get_or (map new_wheel_entry ws) i d ≡ new_wheel_entry (get_or ws i e)
    get_opened [] i d e within = absurd (omega arith)
    get_opened (w ∷ ws) zero d e within = refl
    get_opened (w ∷ ws) (suc i) d e within = get_opened ws i d e (omega arith)
