-- The wheel of connections: which one is visited next, and how rounds are shared (this project's own).
use Rattle.std.specs.Prelude.{◌≡◌, ◌≢◌, ℕ, ◌+◌, ◌-◌, ◌*◌, ◌<◌, ◌≤◌, ◌^◌, ◌==◌, nat_eq, Bool, false, if◌then◌else◌, List, [], ◌∷◌, ◌++◌, map, find, fold, All, Contains, Option, IfSome, option_map, option_and_then, slice_get}
use Rattle.std.specs.List.{IsDistinct}
use Rattle.std.specs.List.Sorted.{IsNonDecreasingBy}
use Rattle.std.specs.Option.{option_map_or}
use Rattle.qos_order.specs.declared.account.Account.{Account}
use Rattle.qos_order.specs.declared.account.Ending.TheVariants.{Given}
use Rattle.qos_order.specs.declared.weights.Weight.{Weight}
use Rattle.qos_order.specs.declared.wheel_entry.WheelEntry.{WheelEntry}
use Rattle.qos_order.specs.Account.{IsWithinGrant, IsBalanced, IsWeight, Visit, granted, new_account, after_visit}

-- a wheel: the listed connections with their weights and accounts, and the numbers of those on the wheel, in order
pub record WheelState : Type 0 where
  pub listed : List WheelEntry
  pub order : List ℕ

-- the numbers of the listed connections
abbrev pub listed_conns : List WheelEntry → List ℕ
listed_conns seats = map (λ s. s.conn) seats

-- the listed connection with a number
abbrev pub wheel_entry : WheelState → ℕ → Option WheelEntry
wheel_entry wheel conn = find (λ s. s.conn == conn) wheel.listed

-- the account of a connection; none if it was never listed
abbrev pub account_of : WheelState → ℕ → Option Account
account_of wheel conn = option_map (λ s. s.account) (wheel_entry wheel conn)

-- a connection of a list of weights, before its first visit
abbrev pub new_wheel_entry : Weight → WheelEntry
new_wheel_entry weight = record { conn = weight.conn; weight = weight.weight; account = new_account }

-- the connection that is visited next
abbrev pub first_wheel_entry : WheelState → Option WheelEntry
first_wheel_entry wheel = option_and_then (wheel_entry wheel) (slice_get wheel.order 0)

-- the rounds granted to its visit; 0 if the wheel is empty
abbrev pub first_grant : WheelState → ℕ
first_grant wheel = option_map_or (λ s. granted s.weight s.account.kept) (first_wheel_entry wheel) 0

-- no connection is listed or on the wheel twice, all on the wheel are listed, and each account is balanced for its
-- weight
pub record IsWheel (wheel : WheelState) : Type 0 where
  pub listed_once : IsDistinct nat_eq (listed_conns wheel.listed)
  pub on_once : IsDistinct nat_eq wheel.order
  pub known : All (Contains (listed_conns wheel.listed)) wheel.order
  pub weights : All (λ s. IsWeight s.weight) wheel.listed
  pub balanced : All (λ s. IsBalanced s.weight s.account) wheel.listed

-- the listed connections are ordered by number
abbrev pub AreEntriesSorted : List WheelEntry → Type 0
AreEntriesSorted seats = IsNonDecreasingBy (λ s. s.conn) seats

-- a visit of the first connection of a wheel, which then leaves or goes last
pub record WheelVisit : Type 0 where
  pub visit : Visit
  pub leaves : Bool

-- the connection after a visit
abbrev pub entry_after_visit : Visit → WheelEntry → WheelEntry
entry_after_visit visit seat = record {
  conn = seat.conn;
  weight = seat.weight;
  account = after_visit seat.weight seat.account visit;
}

-- the listed connections after a visit of this one
abbrev pub listed_after : ℕ → Visit → List WheelEntry → List WheelEntry
listed_after conn visit seats = map (λ s. if s.conn == conn then entry_after_visit visit s else s) seats

-- the wheel after a turn; an empty wheel doesn't change
abbrev pub rotated_from : List ℕ → WheelState → WheelVisit → WheelState
rotated_from [] wheel turn = wheel
rotated_from (first ∷ others) wheel turn = record {
  listed = listed_after first turn.visit wheel.listed;
  order = if turn.leaves then others else others ++ first ∷ [];
}

abbrev pub rotated : WheelState → WheelVisit → WheelState
rotated wheel turn = rotated_from wheel.order wheel turn

-- the wheel after a list of turns
abbrev pub wheel_after : WheelState → List WheelVisit → WheelState
wheel_after wheel turns = fold rotated wheel turns

-- a turn of a wheel that isn't empty, whose visit is within the grant of the first connection
pub record IsWheelVisit (wheel : WheelState) (turn : WheelVisit) : Type 0 where
  pub some : wheel.order ≢ []
  pub fits : IsWithinGrant (first_grant wheel) turn.visit

-- each turn is one of the wheel that the turns before it leave
abbrev pub AreWheelVisits : WheelState → List WheelVisit → Type 0
AreWheelVisits wheel [] = Unit {0}
AreWheelVisits wheel (turn ∷ turns) = IsWheelVisit wheel turn × AreWheelVisits (rotated wheel turn) turns

-- over every list of turns each account of the wheel is balanced
abbrev pub AllWheelVisitsBalance : Type 0
AllWheelVisitsBalance = (wheel : WheelState) (turns : List WheelVisit) → IsWheel wheel → AreWheelVisits wheel turns
    → IsWheel (wheel_after wheel turns)

-- no connection on the wheel has kept rounds
abbrev pub HasNothingKept : WheelState → Type 0
HasNothingKept wheel = All (λ conn. IfSome (account_of wheel conn) (λ a. a.kept ≡ 0)) wheel.order

-- a turn that gives the whole grant of the first connection, which stays on the wheel; its account is below its limit
pub record IsFullGrant (wheel : WheelState) (turn : WheelVisit) : Type 0 where
  pub fitting : IsWheelVisit wheel turn
  pub given : turn.visit.ending ≡ Given
  pub stays : turn.leaves ≡ false
  pub counts : IfSome (first_wheel_entry wheel) (λ s. s.account.visits < 2 ^ 40)

-- each of the turns is such a turn
abbrev pub AreFullGrants : WheelState → List WheelVisit → Type 0
AreFullGrants wheel [] = Unit {0}
AreFullGrants wheel (turn ∷ turns) = IsFullGrant wheel turn × AreFullGrants (rotated wheel turn) turns

-- the weight of a listed connection
abbrev pub weight_on : WheelState → ℕ → ℕ
weight_on wheel conn = option_map_or (λ s. s.weight) (wheel_entry wheel conn) 0

-- the visits and the rounds that a connection had in these turns
abbrev pub visits_in : WheelState → List WheelVisit → ℕ → ℕ
visits_in wheel turns conn =
    option_map_or (λ a. a.visits) (account_of (wheel_after wheel turns) conn) 0
    - option_map_or (λ a. a.visits) (account_of wheel conn) 0

abbrev pub rounds_in : WheelState → List WheelVisit → ℕ → ℕ
rounds_in wheel turns conn =
    option_map_or (λ a. a.rounds) (account_of (wheel_after wheel turns) conn) 0
    - option_map_or (λ a. a.rounds) (account_of wheel conn) 0

-- Let no rounds be kept at first. If no connection leaves, no account is at its limit and each turn gives its whole
-- grant, the visits of two connections on the wheel differ by at most one.
abbrev pub AreVisitsEven : Type 0
AreVisitsEven = (wheel : WheelState) (turns : List WheelVisit) (conn other : ℕ) → IsWheel wheel → HasNothingKept wheel
    → AreFullGrants wheel turns
    → Contains wheel.order conn → Contains wheel.order other
    → visits_in wheel turns conn ≤ visits_in wheel turns other + 1

-- under the same conditions, their rounds are in proportion to their weights, up to one visit
abbrev pub AreSharesProportional : Type 0
AreSharesProportional = (wheel : WheelState) (turns : List WheelVisit) (conn other : ℕ) → IsWheel wheel → HasNothingKept wheel
    → AreFullGrants wheel turns
    → Contains wheel.order conn → Contains wheel.order other
    → rounds_in wheel turns conn * weight_on wheel other
    ≤ rounds_in wheel turns other * weight_on wheel conn + weight_on wheel conn * weight_on wheel other
