-- What a turn does to each connection of a wheel.
use Rattle.std.proofs.Common.{◌≡◌, ◌≢◌, ℕ, zero, suc, ◌<◌, ◌==◌, nat_eq, if◌then◌else◌, List, [], ◌∷◌, ◌++◌, length}
use Rattle.std.proofs.Common.{get_or, set, Some, option_map, slice_get, take, drop, refl, ap, sym, ◌∙◌, arith, inl}
use Rattle.std.proofs.Common.{inr, subst}
use Rattle.std.specs.List.{find, Contains, All, IsDistinct}
use Rattle.std.proofs.lemmas.Bool.{eqb-true, eqb-false, eq-eqb, ne_eqb}
use Rattle.std.proofs.Math.Seq.{take-append_seam}
use Rattle.std.proofs.lemmas.Cmp.{nat_eq_equiv}
use Rattle.std.proofs.lemmas.List.Elements.{All-map, All-tail, All-head}
use Rattle.std.proofs.lemmas.List.Sorted.{All-permutation, IsPermutation-sym, IsPermutation-to_front}
use Rattle.std.proofs.lemmas.Map.Keys.{IsDistinct-IsPermutation, IsDistinct-tail}
use Rattle.qos_order.proofs.Balance.{visited_balanced}
use Rattle.std.specs.Option.{IsSomeAnd}
use Rattle.qos_order.proofs.Keyed.{bool_cases, find-at, find-contained, first_apart, get-map, keyed-tail, keys_have, length-keys}
use Rattle.qos_order.specs.Account.{IsWithinGrant, IsBalanced, IsWeight, Visit, granted}
use Rattle.qos_order.specs.Wheel.{IsWheelVisit, IsWheel, AreEntriesSorted, WheelVisit, AllWheelVisitsBalance, WheelState, first_grant, listed_after, listed_conns, wheel_entry, entry_after_visit, rotated}
use Rattle.qos_order.specs.declared.wheel_entry.WheelEntry.{WheelEntry}

-- a listed connection after a visit of one of them
abbrev pub seat_after : ℕ → Visit → WheelEntry → WheelEntry
seat_after conn visit s = if s.conn == conn then entry_after_visit visit s else s

conn-seat_after : (conn : ℕ) (visit : Visit) (s : WheelEntry) → (seat_after conn visit s).conn ≡ s.conn
conn-seat_after conn visit s = elim (bool_cases (s.conn == conn)) [ inl same ↦ rw same refl | inr other ↦ rw other refl ]

weight-seat_after : (conn : ℕ) (visit : Visit) (s : WheelEntry) → (seat_after conn visit s).weight ≡ s.weight
weight-seat_after conn visit s = elim (bool_cases (s.conn == conn)) [ inl same ↦ rw same refl | inr other ↦ rw other refl ]

pub numbers-listed_after : (conn : ℕ) (visit : Visit) (seats : List WheelEntry) → listed_conns (listed_after conn visit seats) ≡ listed_conns seats
numbers-listed_after conn visit [] = refl
numbers-listed_after conn visit (s ∷ seats) = let head = conn-seat_after conn visit s in let tail = numbers-listed_after conn visit seats in cc

-- what is listed under a number after a visit
pub find-listed_after : (conn : ℕ) (visit : Visit) (seats : List WheelEntry) (n : ℕ)
    → find (λ s. s.conn == n) (listed_after conn visit seats) ≡ option_map (seat_after conn visit)
    (find (λ s. s.conn == n) seats)
find-listed_after conn visit [] n = refl
find-listed_after conn visit (s ∷ seats) n = elim (bool_cases (s.conn == n)) [
  | inl same ↦ rw (conn-seat_after conn visit s, same) refl
  | inr other ↦ rw (conn-seat_after conn visit s, other) (find-listed_after conn visit seats n)
]

-- what is found under a number has that number
pub conn-found : (seats : List WheelEntry) (n : ℕ) (s : WheelEntry) → find (λ s. s.conn == n) seats ≡ Some s → s.conn ≡ n
conn-found [] n s found = cc
conn-found (r ∷ seats) n s found = elim (bool_cases (r.conn == n)) [
  | inl same ↦ let e : Some r ≡ Some s = rw same at found in let f : r ≡ s = cc in ap (λ (x : WheelEntry). x.conn) (sym f) ∙ eqb-true r.conn n same
  | inr other ↦ conn-found seats n s (rw other at found)
]

-- a visit of a connection outside this list doesn't change it
others_stay : (conn : ℕ) (visit : Visit) (seats : List WheelEntry)
    → ((k : ℕ) (d : WheelEntry) → k < length seats → (get_or seats k d).conn ≢ conn) → listed_after conn visit seats ≡ seats
others_stay conn visit [] none = refl
others_stay conn visit (s ∷ seats) none = rw (ne_eqb s.conn conn (none 0 s (omega arith))) (ap (λ r. s ∷ r) (others_stay conn visit seats (λ k d within. none (suc k) d (omega arith))))

-- a write at the index of the connection is the visit
pub set-visited : (conn : ℕ) (visit : Visit) (seats : List WheelEntry) (place : ℕ) (d : WheelEntry)
    → IsDistinct nat_eq (listed_conns seats) → place < length seats → (get_or seats place d).conn ≡ conn
    → set seats place (entry_after_visit visit (get_or seats place d)) ≡ listed_after conn visit seats
set-visited conn visit [] place d once within is = absurd (omega arith)
set-visited conn visit (s ∷ seats) zero d once within is =
    rw (eq-eqb s.conn conn is) (ap (λ r. entry_after_visit visit s ∷ r) (sym (others_stay conn visit seats (λ k e there same.
    eqb-false s.conn (get_or seats k e).conn (first_apart (λ (x : WheelEntry). x.conn) s seats k e once there) (is ∙ sym same)))))
set-visited conn visit (s ∷ seats) (suc place) d once within is =
    let apart = first_apart (λ (x : WheelEntry). x.conn) s seats place d once (omega arith) in
    rw (rw is at apart) (ap (λ r. s ∷ r) (set-visited conn visit seats place d (keyed-tail (λ (x : WheelEntry). x.conn) s seats once) (omega arith) is))

-- a visit of a listed connection within its grant keeps each account balanced
seat_after_balanced : (seats : List WheelEntry) (conn : ℕ) (visit : Visit) (k : ℕ) (d : WheelEntry) → IsDistinct nat_eq (listed_conns seats) → All (λ s. IsBalanced s.weight s.account) seats
    → ((s : WheelEntry) → find (λ s. s.conn == conn) seats ≡ Some s → IsWithinGrant (granted s.weight s.account.kept) visit) → k < length seats
    → IsBalanced (seat_after conn visit (get_or seats k d)).weight (seat_after conn visit (get_or seats k d)).account
seat_after_balanced seats conn visit k d once balanced fits within = elim (bool_cases ((get_or seats k d).conn == conn)) [
  | inl same ↦ rw same (visited_balanced (get_or seats k d).weight (get_or seats k d).account visit (balanced k d within)
      (fits (get_or seats k d) (find-at (λ (s : WheelEntry). s.conn) seats conn k d once within (eqb-true (get_or seats k d).conn conn same))))
  | inr other ↦ rw other (balanced k d within)
]

-- the wheel after a turn of its first connection
pub turned_is : (wheel : WheelState) (turn : WheelVisit) (first : ℕ) (others : List ℕ) → wheel.order ≡ first ∷ others
    → rotated wheel turn ≡ record { listed = listed_after first turn.visit wheel.listed; order = if turn.leaves then others else others ++ first ∷ [] }
turned_is wheel turn first others is = rw is refl

-- the grant of the first connection is that of what is listed under its number
pub grant_of_first : (wheel : WheelState) (first : ℕ) (others : List ℕ) (s : WheelEntry) → wheel.order ≡ first ∷ others
    → wheel_entry wheel first ≡ Some s → first_grant wheel ≡ granted s.weight s.account.kept
grant_of_first wheel first others s is there = rw (is, there) refl

after_turn : (wheel : WheelState) (turn : WheelVisit) (first : ℕ) (others : List ℕ) → wheel.order ≡ first ∷ others → IsWheel wheel → IsWithinGrant (first_grant wheel) turn.visit
    → IsWheel (record { listed = listed_after first turn.visit wheel.listed; order = if turn.leaves then others else others ++ first ∷ [] })
after_turn wheel turn first others is sound fits = record {
  listed_once = rw (numbers-listed_after first turn.visit wheel.listed) sound.listed_once;
  on_once = elim (bool_cases turn.leaves) [
    | inl leaves ↦ rw leaves (IsDistinct-tail nat_eq first others (rw is at sound.on_once))
    | inr stays ↦ rw stays (IsDistinct-IsPermutation nat_eq (nat_eq_equiv).symm (first ∷ others)
        (others ++ first ∷ []) (IsPermutation-sym (others ++ first ∷ []) (first ∷ others)
        (IsPermutation-to_front others first)) (rw is at sound.on_once))
  ];
  known = rw (numbers-listed_after first turn.visit wheel.listed) (elim (bool_cases turn.leaves) [
    | inl leaves ↦ rw leaves (All-tail (Contains (listed_conns wheel.listed)) first others (rw is at sound.known))
    | inr stays ↦ rw stays (All-permutation (Contains (listed_conns wheel.listed)) (first ∷ others)
        (others ++ first ∷ []) (IsPermutation-sym (others ++ first ∷ []) (first ∷ others)
        (IsPermutation-to_front others first)) (rw is at sound.known))
  ]);
  weights = All-map (λ s. IsWeight s.weight) (seat_after first turn.visit) wheel.listed
      (λ k d within. rw (weight-seat_after first turn.visit (get_or wheel.listed k d)) (sound.weights k d within));
  balanced = All-map (λ s. IsBalanced s.weight s.account) (seat_after first turn.visit) wheel.listed (λ k d within.
      seat_after_balanced wheel.listed first turn.visit k d sound.listed_once sound.balanced (λ s there. rw (grant_of_first wheel first others s is there) at fits) within);
}

pub wheel_turned : (wheel : WheelState) (turn : WheelVisit) → IsWheel wheel → IsWheelVisit wheel turn → IsWheel (rotated wheel turn)
wheel_turned wheel turn sound is_turn = by_order wheel turn wheel.order refl sound is_turn
  where
    by_order : (wheel : WheelState) (turn : WheelVisit) (order : List ℕ) → wheel.order ≡ order → IsWheel wheel → IsWheelVisit wheel turn → IsWheel (rotated wheel turn)
    by_order wheel turn [] is sound is_turn = absurd (is_turn.some is)
    by_order wheel turn (first ∷ others) is sound is_turn = rw (turned_is wheel turn first others is) (after_turn wheel turn first others is sound is_turn.fits)

pub turns_balance : AllWheelVisitsBalance
turns_balance wheel [] sound turns = sound
turns_balance wheel (turn ∷ rest) sound turns = turns_balance (rotated wheel turn) rest (wheel_turned wheel turn sound turns.0) turns.1

order_is : (order : List ℕ) (conn : ℕ) → Some conn ≡ slice_get order 0 → order ≡ conn ∷ drop 1 order
order_is [] conn first = cc
order_is (n ∷ ns) conn first = let same : conn ≡ n = cc in ap (λ m. m ∷ ns) (sym same)

-- the fields of a wheel after a visit are those of the wheel after the turn
pub visited_wheel : (wheel : WheelState) (turn : WheelVisit) (conn : ℕ) (seats : List WheelEntry) (order : List ℕ)
    → Some conn ≡ slice_get wheel.order 0 → seats ≡ listed_after conn turn.visit wheel.listed
    → order ≡ (if turn.leaves then drop 1 wheel.order else drop 1 wheel.order ++ take 1 wheel.order) → record { listed = seats; order = order } ≡ rotated wheel turn
visited_wheel wheel turn conn seats order first listed turning =
    let is = order_is wheel.order conn first in
    let rest : (if turn.leaves then drop 1 wheel.order else drop 1 wheel.order ++ take 1 wheel.order) ≡ (if turn.leaves then drop 1 wheel.order else drop 1 wheel.order ++ conn ∷ []) =
    ap (λ (ns : List ℕ). if turn.leaves then drop 1 wheel.order else drop 1 wheel.order ++ take 1 ns) is in
    rw (turned_is wheel turn conn (drop 1 wheel.order) is, listed, turning, rest) refl

pub visited_sound : (wheel : WheelState) (turn : WheelVisit) (conn : ℕ) (seats : List WheelEntry) (order : List ℕ) → IsWheel wheel
    → IsWheelVisit wheel turn → Some conn ≡ slice_get wheel.order 0 → seats ≡ listed_after conn turn.visit wheel.listed
    → order ≡ (if turn.leaves then drop 1 wheel.order else drop 1 wheel.order ++ take 1 wheel.order) → IsWheel (record { listed = seats; order = order })
visited_sound wheel turn conn seats order sound is_turn first listed turning =
    subst IsWheel (sym (visited_wheel wheel turn conn seats order first listed turning)) (wheel_turned wheel turn sound is_turn)

-- the visit is within the grant of the connection that is found
pub first_fits : (wheel : WheelState) (visit : Visit) (conn : ℕ) → IsWheel wheel → Some conn ≡ slice_get wheel.order 0 → IsWithinGrant (first_grant wheel) visit
    → IsSomeAnd (find (λ s. s.conn == conn) wheel.listed) (λ s. IsWithinGrant (granted s.weight s.account.kept) visit)
first_fits wheel visit conn sound first fits =
    let is = order_is wheel.order conn first in
    let there : Contains (listed_conns wheel.listed) conn = All-head (Contains (listed_conns wheel.listed)) conn (drop 1 wheel.order) (rw is at sound.known) in
    let found = keys_have (λ (s : WheelEntry). s.conn) wheel.listed conn there.0 there.1 there.2 in
    let at : wheel_entry wheel conn ≡ Some found.0 = find-contained (λ (s : WheelEntry). s.conn) wheel.listed conn found.0 sound.listed_once found.1 found.2 in
    rw at (rw (grant_of_first wheel conn (drop 1 wheel.order) found.0 is at) at fits)

-- connections stay ordered by number if their numbers stay
pub ascends_alike : (seats others : List WheelEntry) → listed_conns others ≡ listed_conns seats → AreEntriesSorted seats → AreEntriesSorted others
ascends_alike seats others same up i j d le within =
    let long : length others ≡ length seats = sym (length-keys (λ (s : WheelEntry). s.conn) others) ∙ ap length same ∙ length-keys (λ (s : WheelEntry). s.conn) seats in
    let at_i : (get_or others i d).conn ≡ (get_or seats i d).conn =
    sym (get-map (λ (s : WheelEntry). s.conn) others i d 0 (omega arith)) ∙ ap (λ ns. get_or ns i 0) same
    ∙ get-map (λ (s : WheelEntry). s.conn) seats i d 0 (omega arith) in
    let at_j : (get_or others j d).conn ≡ (get_or seats j d).conn =
    sym (get-map (λ (s : WheelEntry). s.conn) others j d 0 within) ∙ ap (λ ns. get_or ns j 0) same
    ∙ get-map (λ (s : WheelEntry). s.conn) seats j d 0 (omega arith) in
    omega (arith, up i j d le (omega arith))

pub ascends_after : (conn : ℕ) (visit : Visit) (seats others : List WheelEntry) → others ≡ listed_after conn visit seats → AreEntriesSorted seats → AreEntriesSorted others
ascends_after conn visit seats others is up = ascends_alike seats others (ap listed_conns is ∙ numbers-listed_after conn visit seats) up

-- the items of a vector after all of them were written
pub written : (fresh items : List WheelEntry) (len : ℕ) → length fresh ≡ len → take len (fresh ++ drop (length fresh) items) ≡ fresh
written fresh items len long = subst (λ (n : ℕ). take n (fresh ++ drop (length fresh) items) ≡ fresh) long (take-append_seam fresh (drop (length fresh) items))
