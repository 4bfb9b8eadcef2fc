-- Visits and shares of connections on one wheel.
use Rattle.std.proofs.Common.{◌≡◌, ◌≢◌, ℕ, suc, ◌+◌, ◌*◌, ◌<◌, ◌≤◌, ◌^◌, ◌==◌, nat_eq, false, List, [], ◌∷◌, ◌++◌}
use Rattle.std.proofs.Common.{get_or, Some, option_map, IfSome, refl, ap, sym, ◌∙◌, arith, ◌⊎◌, inl, inr}
use Rattle.std.proofs.Common.{append_assoc}
use Rattle.std.specs.List.{Contains, All, IsDistinct}
use Rattle.std.proofs.Math.Nat.{mul-le-mul_left}
use Rattle.std.proofs.lemmas.Bool.{eqb-false, eq-eqb, ne_eqb, lt-ltb}
use Rattle.std.proofs.lemmas.List.{append-nil}
use Rattle.std.proofs.lemmas.List.Elements.{All-nil, All-tail, All-head, All-push, All-contains, Contains-append_cases, Contains-append_left, Contains-append_right, Contains-get_or}
use Rattle.std.proofs.lemmas.List.Sorted.{Contains-permutation, IsPermutation-sym, IsPermutation-to_front}
use Rattle.std.proofs.lemmas.Map.Keys.{apart_from_distinct}
use Rattle.qos_order.proofs.Keyed.{find-contained, keys_have}
use Rattle.qos_order.proofs.Turns.{conn-found, find-listed_after, grant_of_first, seat_after, turned_is, wheel_turned}
use Rattle.qos_order.specs.Account.{Visit, granted, after_visit}
use Rattle.qos_order.specs.Wheel.{AreFullGrants, IsWheel, IsFullGrant, HasNothingKept, AreSharesProportional, WheelVisit, AreVisitsEven}
use Rattle.qos_order.specs.Wheel.{WheelState, account_of, first_wheel_entry, listed_conns, rounds_in, wheel_entry, entry_after_visit}
use Rattle.qos_order.specs.Wheel.{rotated, visits_in, weight_on, wheel_after}
use Rattle.qos_order.specs.declared.account.Account.{Account}
use Rattle.qos_order.specs.declared.account.Ending.TheVariants.{Given}
use Rattle.qos_order.specs.declared.wheel_entry.WheelEntry.{WheelEntry}

-- a connection has had this many visits since the first wheel, each with its whole grant
pub record Gained (wheel now : WheelState) (conn visits : ℕ) : Type 0 where
  pub was : WheelEntry
  pub is : WheelEntry
  pub was_there : wheel_entry wheel conn ≡ Some was
  pub is_there : wheel_entry now conn ≡ Some is
  pub weight : is.weight ≡ was.weight
  pub nothing : is.account.kept ≡ 0
  pub count : is.account.visits ≡ was.account.visits + visits
  pub rounds : is.account.rounds ≡ was.account.rounds + was.weight * visits

-- of the connections on the wheel, those in the prefix have had this many visits, and the others one more
pub record IsEven (wheel now : WheelState) (visits : ℕ) (front back : List ℕ) : Type 0 where
  pub order : now.order ≡ front ++ back
  pub less : All (λ conn. Gained wheel now conn visits) front
  pub more : All (λ conn. Gained wheel now conn (visits + 1)) back
  pub stay : (conn : ℕ) → Contains wheel.order conn → Contains (front ++ back) conn

-- the first of distinct numbers isn't among the others
first_once : (n : ℕ) (ns : List ℕ) (m : ℕ) → IsDistinct nat_eq (n ∷ ns) → Contains ns m → n ≢ m
first_once n ns m once there same =
    let apart = apart_from_distinct nat_eq (n ∷ ns) 0 (suc there.0) m once (omega arith) (omega (arith, there.1)) in
    eqb-false n (get_or ns there.0 m) apart (same ∙ sym there.2)

-- a turn of another connection doesn't change what one gained
gained_aside : (wheel now : WheelState) (turn : WheelVisit) (first : ℕ) (others : List ℕ) (conn visits : ℕ)
    → now.order ≡ first ∷ others → first ≢ conn → Gained wheel now conn visits
    → Gained wheel (rotated now turn) conn visits
gained_aside wheel now turn first others conn visits is other gained =
    let at : gained.is.conn ≡ conn = conn-found now.listed conn gained.is gained.is_there in
    let aside : (gained.is.conn == first) ≡ false = ne_eqb gained.is.conn first (λ same. other (sym same ∙ at)) in
    let same : seat_after first turn.visit gained.is ≡ gained.is = rw aside refl in
    record {
      was = gained.was;
      is = gained.is;
      was_there = gained.was_there;
      is_there = rw (turned_is now turn first others is) (find-listed_after first turn.visit now.listed conn
          ∙ ap (option_map (seat_after first turn.visit)) gained.is_there ∙ ap Some same);
      weight = gained.weight;
      nothing = gained.nothing;
      count = gained.count;
      rounds = gained.rounds;
    }

-- a visit that gives the whole grant of an account that keeps nothing
pub record IsWholeVisit (weight : ℕ) (account after : Account) : Type 0 where
  pub visits : after.visits ≡ account.visits + 1
  pub rounds : after.rounds ≡ account.rounds + weight
  pub kept : after.kept ≡ 0

whole_visit : (weight : ℕ) (account : Account) (visit : Visit) → account.kept ≡ 0 → account.visits < 2 ^ 40
    → visit.ending ≡ Given → visit.given ≡ granted weight account.kept
    → IsWholeVisit weight account (after_visit weight account visit)
whole_visit weight account visit nothing counts ending whole = rw (lt-ltb account.visits (2 ^ 40) counts) (record {
  visits = refl;
  rounds = omega (arith, whole, nothing);
  kept = rw ending refl;
})

first_is : (now : WheelState) (first : ℕ) (others : List ℕ) (s : WheelEntry) → now.order ≡ first ∷ others → wheel_entry now first ≡ Some s → first_wheel_entry now ≡ Some s
first_is now first others s is there = rw (is, there) refl

-- a turn of a connection gives it one visit more
gained_first : (wheel now : WheelState) (turn : WheelVisit) (first : ℕ) (others : List ℕ) (visits : ℕ)
    → now.order ≡ first ∷ others → IsFullGrant now turn → Gained wheel now first visits
    → Gained wheel (rotated now turn) first (visits + 1)
gained_first wheel now turn first others visits is whole gained =
    let at : gained.is.conn ≡ first = conn-found now.listed first gained.is gained.is_there in
    let same : seat_after first turn.visit gained.is ≡ entry_after_visit turn.visit gained.is = rw (eq-eqb gained.is.conn first at) refl in
    let counts : gained.is.account.visits < 2 ^ 40 = rw (first_is now first others gained.is is gained.is_there) at whole.counts in
    let all = whole.fitting.fits.whole whole.given ∙ grant_of_first now first others gained.is is gained.is_there in
    let after = whole_visit gained.is.weight gained.is.account turn.visit gained.nothing counts whole.given all in
    let count = gained.count in
    let rounds = gained.rounds in
    let weight = gained.weight in
    record {
      was = gained.was;
      is = entry_after_visit turn.visit gained.is;
      was_there = gained.was_there;
      is_there = rw (turned_is now turn first others is) (find-listed_after first turn.visit now.listed first
          ∙ ap (option_map (seat_after first turn.visit)) gained.is_there ∙ ap Some same);
      weight = gained.weight;
      nothing = after.kept;
      count = omega (arith, after.visits, count);
      rounds = after.rounds ∙ rounds_more gained.is.account.rounds gained.is.weight gained.was.account.rounds gained.was.weight visits rounds weight;
    }
  where
    rounds_more : (now weight was weight' visits : ℕ) → now ≡ was + weight' * visits → weight ≡ weight' → now + weight ≡ was + weight' * (visits + 1)
    rounds_more now weight was weight' visits e f = omega arith

order_stays : (now : WheelState) (turn : WheelVisit) (first : ℕ) (others : List ℕ) → now.order ≡ first ∷ others
    → turn.leaves ≡ false → (rotated now turn).order ≡ others ++ first ∷ []
order_stays now turn first others is stays = rw (turned_is now turn first others is, stays) refl

aside : (wheel now : WheelState) (turn : WheelVisit) (first : ℕ) (others some : List ℕ) (visits : ℕ)
    → now.order ≡ first ∷ others → IsDistinct nat_eq (first ∷ others)
    → ((conn : ℕ) → Contains some conn → Contains others conn)
    → All (λ conn. Gained wheel now conn visits) some → All (λ conn. Gained wheel (rotated now turn) conn visits) some
aside wheel now turn first others some visits is once among all k d within =
    gained_aside wheel now turn first others (get_or some k d) visits is
    (first_once first others (get_or some k d) once (among (get_or some k d) (Contains-get_or some k d within)))
    (all k d within)

to_end : (first : ℕ) (others : List ℕ) (conn : ℕ) → Contains (first ∷ others) conn → Contains (others ++ first ∷ []) conn
to_end first others conn there = Contains-permutation (first ∷ others) (others ++ first ∷ []) conn
    (IsPermutation-sym (others ++ first ∷ []) (first ∷ others) (IsPermutation-to_front others first)) there

-- a turn of a connection in the prefix
turn_in_front : (wheel now : WheelState) (turn : WheelVisit) (visits first : ℕ) (front back : List ℕ) → IsWheel now
    → IsFullGrant now turn → IsEven wheel now visits (first ∷ front) back
    → IsEven wheel (rotated now turn) visits front (back ++ first ∷ [])
turn_in_front wheel now turn visits first front back sound whole even =
    let once : IsDistinct nat_eq (first ∷ (front ++ back)) = rw even.order at sound.on_once in
    record {
      order = order_stays now turn first (front ++ back) even.order whole.stays ∙ append_assoc front back (first ∷ []);
      less = aside wheel now turn first (front ++ back) front visits even.order once
          (λ conn there. Contains-append_left front back conn there)
          (All-tail (λ conn. Gained wheel now conn visits) first front even.less);
      more = All-push (λ conn. Gained wheel (rotated now turn) conn (visits + 1)) back first
          (aside wheel now turn first (front ++ back) back (visits + 1) even.order once (λ conn there. Contains-append_right front back conn there) even.more)
          (gained_first wheel now turn first (front ++ back) visits even.order whole (All-head (λ conn. Gained wheel now conn visits) first front even.less));
      stay = λ conn there. rw (append_assoc front back (first ∷ [])) at (to_end first (front ++ back) conn (even.stay conn there));
    }

-- all have had one more visit: those of the suffix form the prefix again
around : (wheel now : WheelState) (visits : ℕ) (back : List ℕ) → IsEven wheel now visits [] back → IsEven wheel now (visits + 1) back []
around wheel now visits back even = record {
  order = even.order ∙ sym (append-nil back);
  less = even.more;
  more = All-nil (λ conn. Gained wheel now conn (visits + 1 + 1));
  stay = λ conn there. rw (append-nil back) (even.stay conn there);
}

pub record AreEven (wheel now : WheelState) : Type 0 where
  pub visits : ℕ
  pub front : List ℕ
  pub back : List ℕ
  pub even : IsEven wheel now visits front back

turn_even : (wheel now : WheelState) (turn : WheelVisit) (visits : ℕ) (front back : List ℕ) → IsWheel now → IsFullGrant now turn
    → IsEven wheel now visits front back → AreEven wheel (rotated now turn)
turn_even wheel now turn visits (first ∷ front) back sound whole even = record {
  visits = visits;
  front = front;
  back = back ++ first ∷ [];
  even = turn_in_front wheel now turn visits first front back sound whole even;
}
turn_even wheel now turn visits [] (first ∷ back) sound whole even =
    record {
      visits = visits + 1;
      front = back;
      back = [] ++ first ∷ [];
      even = turn_in_front wheel now turn (visits + 1) first back [] sound whole
          (around wheel now visits (first ∷ back) even);
    }
turn_even wheel now turn visits [] [] sound whole even = absurd (whole.fitting.some even.order)

turns_even : (wheel now : WheelState) (turns : List WheelVisit) → IsWheel now → AreFullGrants now turns → AreEven wheel now → AreEven wheel (wheel_after now turns)
turns_even wheel now [] sound whole even = even
turns_even wheel now (turn ∷ turns) sound whole even =
    turns_even wheel (rotated now turn) turns (wheel_turned now turn sound whole.0.fitting) whole.1 (turn_even wheel now turn even.visits even.front even.back sound whole.0 even.even)

begins : (wheel : WheelState) (conn : ℕ) → IsWheel wheel → Contains (listed_conns wheel.listed) conn → IfSome (account_of wheel conn) (λ a. a.kept ≡ 0) → Gained wheel wheel conn 0
begins wheel conn sound listed nothing =
    let found = keys_have (λ (s : WheelEntry). s.conn) wheel.listed conn listed.0 listed.1 listed.2 in
    let there : wheel_entry wheel conn ≡ Some found.0 = find-contained (λ (s : WheelEntry). s.conn) wheel.listed conn found.0 sound.listed_once found.1 found.2 in
    record {
      was = found.0;
      is = found.0;
      was_there = there;
      is_there = there;
      weight = refl;
      nothing = rw there at nothing;
      count = omega arith;
      rounds = omega arith;
    }

pub stretch_even : (wheel : WheelState) (turns : List WheelVisit) → IsWheel wheel → HasNothingKept wheel → AreFullGrants wheel turns → AreEven wheel (wheel_after wheel turns)
stretch_even wheel turns sound nothing whole = turns_even wheel wheel turns sound whole (record {
  visits = 0;
  front = wheel.order;
  back = [];
  even = record {
    order = sym (append-nil wheel.order);
    less = λ k d within. begins wheel (get_or wheel.order k d) sound (sound.known k d within) (nothing k d within);
    more = All-nil (λ conn. Gained wheel wheel conn 1);
    stay = λ conn there. rw (append-nil wheel.order) there;
  };
})

-- what a connection on the wheel gained: this many visits, or one more
gained_of : (wheel now : WheelState) (even : AreEven wheel now) (conn : ℕ) → Contains wheel.order conn → Gained wheel now conn even.visits ⊎ Gained wheel now conn (even.visits + 1)
gained_of wheel now even conn there = elim (Contains-append_cases even.front even.back conn (even.even.stay conn there)) [
  | inl front ↦ inl (All-contains (λ c. Gained wheel now c even.visits) even.front conn even.even.less front)
  | inr back ↦ inr (All-contains (λ c. Gained wheel now c (even.visits + 1)) even.back conn even.even.more back)
]

visits-gained : (wheel : WheelState) (turns : List WheelVisit) (conn visits : ℕ) → Gained wheel (wheel_after wheel turns) conn visits → visits_in wheel turns conn ≡ visits
visits-gained wheel turns conn visits gained = let count = gained.count in rw (gained.was_there, gained.is_there) (omega (arith, count))

rounds-gained : (wheel : WheelState) (turns : List WheelVisit) (conn visits : ℕ)
    → Gained wheel (wheel_after wheel turns) conn visits → rounds_in wheel turns conn ≡ weight_on wheel conn * visits
rounds-gained wheel turns conn visits gained = let rounds = gained.rounds in rw (gained.was_there, gained.is_there) (omega (arith, rounds))

close : (wheel now : WheelState) (even : AreEven wheel now) (conn other : ℕ) → Contains wheel.order conn → Contains wheel.order other
    → (visits : ℕ) × (visits' : ℕ) × Gained wheel now conn visits × Gained wheel now other visits' × (visits ≤ visits' + 1)
close wheel now even conn other there on = elim (gained_of wheel now even conn there) [
  | inl less ↦ elim (gained_of wheel now even other on) [
    | inl less' ↦ (even.visits, even.visits, less, less', omega arith)
    | inr more' ↦ (even.visits, even.visits + 1, less, more', omega arith)
  ]
  | inr more ↦ elim (gained_of wheel now even other on) [
    | inl less' ↦ (even.visits + 1, even.visits, more, less', omega arith)
    | inr more' ↦ (even.visits + 1, even.visits + 1, more, more', omega arith)
  ]
]

pub visits_are_even : AreVisitsEven
visits_are_even wheel turns conn other sound nothing whole there on =
    let both = close wheel (wheel_after wheel turns) (stretch_even wheel turns sound nothing whole) conn other there on in
    rw (visits-gained wheel turns conn both.0 both.2, visits-gained wheel turns other both.1 both.3) both.4

products : (wa wb va vb : ℕ) → va ≤ vb + 1 → wa * va * wb ≤ wb * vb * wa + wa * wb
products wa wb va vb close = omega (arith, mul-le-mul_left (wa * wb) close)

pub shares_are_even : AreSharesProportional
shares_are_even wheel turns conn other sound nothing whole there on =
    let both = close wheel (wheel_after wheel turns) (stretch_even wheel turns sound nothing whole) conn other there on in
    rw (rounds-gained wheel turns conn both.0 both.2, rounds-gained wheel turns other both.1 both.3) (products (weight_on wheel conn) (weight_on wheel other) both.0 both.1 both.4)
