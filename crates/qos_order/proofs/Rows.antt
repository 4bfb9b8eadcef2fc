-- Wheels, accounts and lists of weights worked out by hand.
use Rattle.std.proofs.Common.{◌≡◌, ℕ, true, false, List, [], ◌∷◌, Some, None, refl, arith}
use Rattle.std.proofs.lemmas.List.Elements.{All-cons, All-nil}
use Rattle.qos_order.specs.Account.{IsWeight, account_after, granted}
use Rattle.qos_order.specs.Weights.{IsFirstFault, weight_of}
use Rattle.qos_order.specs.Wheel.{AreWheelVisits, AreFullGrants, WheelVisit, WheelState, account_of, new_wheel_entry, rounds_in, visits_in, wheel_after}
use Rattle.qos_order.proofs.Halves.{sound-short}
use Rattle.qos_order.specs.declared.account.Ending.TheVariants.{Given, Idle, Shut}
use Rattle.qos_order.specs.declared.weights.WeightFault.TheVariants.{Range}
use Rattle.qos_order.specs.declared.account.Account.{Account}

abbrev two : WheelState
two = record { listed = new_wheel_entry (record { conn = 1; weight = 3 }) ∷ new_wheel_entry (record { conn = 3; weight = 1 }) ∷ []; order = 1 ∷ 3 ∷ [] }

abbrev stays : WheelVisit
stays = record { visit = record { given = 1; ending = Given }; leaves = false }

abbrev five : List WheelVisit
five = record stays { visit = record { given = 3; ending = Given } } ∷ stays
    ∷ record stays { visit = record { given = 1; ending = Shut } } ∷ stays
    ∷ record stays { visit = record { given = 5; ending = Given } } ∷ []

abbrev numbers : (visits rounds kept dropped : ℕ) → Account
numbers visits rounds kept dropped = record { visits = visits; rounds = rounds; kept = kept; dropped = dropped }

first_account : account_of (wheel_after two five) 1 ≡ Some (numbers 3 9 0 0)
first_account = refl

second_account : account_of (wheel_after two five) 3 ≡ Some (numbers 2 2 0 0)
second_account = refl

third_order : (wheel_after two five).order ≡ 3 ∷ 1 ∷ []
third_order = refl

unlisted : account_of two 2 ≡ None
unlisted = refl

idle_drops : account_of (wheel_after (wheel_after two five) (record stays { visit = record { given = 0; ending = Idle } } ∷ [])) 3 ≡ Some (numbers 3 2 0 1)
idle_drops = refl

-- rounds kept beyond the weight are dropped by the next visit
beyond : account_after 2 (record { given = 0; ending = Shut } ∷ record { given = 0; ending = Shut } ∷ record { given = 1; ending = Shut } ∷ []) ≡ numbers 3 1 3 2
beyond = refl

leaves_first : (wheel_after two (record stays { leaves = true } ∷ [])).order ≡ 3 ∷ []
leaves_first = refl

granted_most : granted 3 9 ≡ 6
granted_most = refl

weight_unlisted : weight_of (record { conn = 8; weight = 100 } ∷ record { conn = 1; weight = 3 } ∷ []) 2 ≡ 1
weight_unlisted = refl

weight_listed : weight_of (record { conn = 8; weight = 100 } ∷ record { conn = 1; weight = 3 } ∷ []) 1 ≡ 3
weight_listed = refl

whole_turn : AreWheelVisits two (record stays { visit = record { given = 3; ending = Given } } ∷ [])
whole_turn = (record { some = λ no. cc; fits = record { within = omega arith; whole = λ _. refl } }, tt)

-- three turns that give their whole grants: two visits of the first connection, one of the second
abbrev three : List WheelVisit
three = record stays { visit = record { given = 3; ending = Given } } ∷ stays ∷ record stays { visit = record { given = 3; ending = Given } } ∷ []

whole_turns : AreFullGrants two three
whole_turns = (
  record { fitting = record { some = λ no. cc; fits = record { within = omega arith; whole = λ _. refl } }; given = refl; stays = refl; counts = omega arith },
  (
    record { fitting = record { some = λ no. cc; fits = record { within = omega arith; whole = λ _. refl } }; given = refl; stays = refl; counts = omega arith },
    (record { fitting = record { some = λ no. cc; fits = record { within = omega arith; whole = λ _. refl } }; given = refl; stays = refl; counts = omega arith }, tt),
  ),
)

visits_of_first : visits_in two three 1 ≡ 2
visits_of_first = refl

visits_of_second : visits_in two three 3 ≡ 1
visits_of_second = refl

rounds_of_first : rounds_in two three 1 ≡ 6
rounds_of_first = refl

-- a weight out of range comes before a repeated number
range_first : IsFirstFault (record { conn = 4; weight = 1 } ∷ record { conn = 4; weight = 101 } ∷ []) (Range 4)
range_first = record {
  before = record { conn = 4; weight = 1 } ∷ [];
  entry = record { conn = 4; weight = 101 };
  after = [];
  is = refl;
  sound = sound-short (record { conn = 4; weight = 1 } ∷ []) (omega arith)
      (All-cons (λ w. IsWeight w.weight) (record { conn = 4; weight = 1 }) [] (omega arith, omega arith)
      (All-nil (λ w. IsWeight w.weight)));
  there = (refl, λ within. omega (arith, within.1));
}
