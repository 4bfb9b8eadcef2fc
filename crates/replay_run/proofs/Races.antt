-- Queued races stay in order, and several loads, one after another, make the same races as the last of them alone.
use Rattle.std.proofs.Common.{◌≡◌, ◌<◌, ◌≤◌, ◌+◌, ℕ, nat_lt, nat_le, true, false, List, [], ◌∷◌, ◌++◌, All, arith, refl}
use Rattle.std.proofs.Common.{sym, ap, ◌∙◌, subst, ⊎_elim, append_assoc}
use Rattle.std.proofs.lemmas.Bool.{cases_lt, cond-true, cond-false}
use Rattle.std.proofs.lemmas.Bool.Decides.{nat_tests}
use Rattle.std.proofs.lemmas.List.{map-append}
use Rattle.std.proofs.lemmas.List.Elements.{All-nil, All-cons, All-head, All-tail, All-append, All-filter, All-weaker}
use Rattle.mrpc_base.specs.Heap.{Heap, Race, word_after, stores_of, races_up_to, races_past, races_with, IsRoomChange}
use Rattle.mrpc_base.specs.Heap.{IsLoad, AreLoads}
use Rattle.graph_form.specs.Malformed.{AreReadBy}
use Rattle.graph_copy.specs.Copies.{HasOnlyLoaded}
use Rattle.replay_run.specs.Follows.{read_at}
use Rattle.replay_run.specs.Kept.{AreInOrder}

up_to-due : (number : ℕ) (race : Race) (races : List Race) → race.load ≤ number
    → races_up_to number (race ∷ races) ≡ race ∷ races_up_to number races
up_to-due number race races due =
    let test : nat_le race.load number ≡ true = grind (arith, nat_tests) in
    cond-true (nat_le race.load number) (race ∷ races_up_to number races) (races_up_to number races) test

past-due : (number : ℕ) (race : Race) (races : List Race) → race.load ≤ number
    → races_past number (race ∷ races) ≡ races_past number races
past-due number race races due =
    let test : nat_lt number race.load ≡ false = grind (arith, nat_tests) in
    cond-false (nat_lt number race.load) (race ∷ races_past number races) (races_past number races) test

-- if all races are of later loads, none is due
up_to-none : (number : ℕ) (races : List Race) → All (λ race. number < race.load) races → races_up_to number races ≡ []
up_to-none number [] later = refl
up_to-none number (race ∷ races) later =
    let head : number < race.load = All-head (λ r. number < r.load) race races later in
    let test : nat_le race.load number ≡ false = grind (arith, nat_tests) in
    cond-false (nat_le race.load number) (race ∷ races_up_to number races) (races_up_to number races) test
    ∙ up_to-none number races (All-tail (λ r. number < r.load) race races later)

past-all : (number : ℕ) (races : List Race) → All (λ race. number < race.load) races → races_past number races ≡ races
past-all number [] later = refl
past-all number (race ∷ races) later =
    let head : number < race.load = All-head (λ r. number < r.load) race races later in
    let test : nat_lt number race.load ≡ true = grind (arith, nat_tests) in
    cond-true (nat_lt number race.load) (race ∷ races_past number races) (races_past number races) test
    ∙ ap (λ rest. race ∷ rest) (past-all number races (All-tail (λ r. number < r.load) race races later))

-- if the first race is of a load past a number, all are
all_past : (number : ℕ) (race : Race) (races : List Race) → number < race.load
    → All (λ other. race.load ≤ other.load) races → All (λ other. number < other.load) (race ∷ races)
all_past number race races past order =
    All-cons (λ r. number < r.load) race races past
    (All-weaker (λ r. race.load ≤ r.load) (λ r. number < r.load) (λ r le. omega arith) races order)

-- ---- order

with-behind : (first : Race) (races : List Race) (race : Race) → first.load ≤ race.load
    → races_with (first ∷ races) race ≡ first ∷ races_with races race
with-behind first races race earlier =
    ap (λ front. front ++ race ∷ races_past race.load (first ∷ races)) (up_to-due race.load first races earlier)
    ∙ ap (λ rest. (first ∷ races_up_to race.load races) ++ race ∷ rest) (past-due race.load first races earlier)

with-before : (races : List Race) (race : Race) → All (λ other. race.load < other.load) races
    → races_with races race ≡ race ∷ races
with-before races race later =
    ap (λ front. front ++ race ∷ races_past race.load races) (up_to-none race.load races later)
    ∙ ap (λ rest. race ∷ rest) (past-all race.load races later)

All-with : (P : Race → Type 0) (races : List Race) (race : Race) → P race → All P races → All P (races_with races race)
All-with P races race one all =
    All-append P (races_up_to race.load races) (race ∷ races_past race.load races)
    (All-filter (λ (r : Race). nat_le r.load race.load) P races all)
    (All-cons P race (races_past race.load races) one (All-filter (λ (r : Race). nat_lt race.load r.load) P races all))

pub in_order-with : (races : List Race) (race : Race) → AreInOrder races → AreInOrder (races_with races race)
in_order-with [] race order = (All-nil (λ (r : Race). race.load ≤ r.load), tt)
in_order-with (first ∷ races) race order = ⊎_elim
    (λ (before : race.load < first.load).
    let all = all_past race.load first races before order.0 in
    subst AreInOrder (sym (with-before (first ∷ races) race all))
    (All-weaker (λ r. race.load < r.load) (λ r. race.load ≤ r.load) (λ r lt. omega arith) (first ∷ races) all, order))
    (λ (behind : first.load ≤ race.load).
    subst AreInOrder (sym (with-behind first races race behind))
    (All-with (λ r. first.load ≤ r.load) races race behind order.0, in_order-with races race order.1))
    (cases_lt race.load first.load)

in_order-past : (number : ℕ) (races : List Race) → AreInOrder races → AreInOrder (races_past number races)
in_order-past number [] order = tt
in_order-past number (race ∷ races) order = ⊎_elim
    (λ (past : number < race.load). subst AreInOrder (sym
    (past-all number (race ∷ races) (all_past number race races past order.0))) order)
    (λ (due : race.load ≤ number). subst AreInOrder (sym (past-due number race races due))
    (in_order-past number races order.1))
    (cases_lt number race.load)

-- the races of loads up to a number, followed by those past it, are all
up_to-then-past : (number : ℕ) (races : List Race) → AreInOrder races
    → races_up_to number races ++ races_past number races ≡ races
up_to-then-past number [] order = refl
up_to-then-past number (race ∷ races) order = ⊎_elim
    (λ (past : number < race.load).
    let all = all_past number race races past order.0 in
    ap (λ front. front ++ races_past number (race ∷ races)) (up_to-none number (race ∷ races) all)
    ∙ past-all number (race ∷ races) all)
    (λ (due : race.load ≤ number).
    ap (λ front. front ++ races_past number (race ∷ races)) (up_to-due number race races due)
    ∙ ap (λ back. race ∷ (races_up_to number races ++ back)) (past-due number race races due)
    ∙ ap (λ rest. race ∷ rest) (up_to-then-past number races order.1))
    (cases_lt number race.load)

-- the races of a load followed by those of a later one are those of the later one alone
up_to-twice : (number later : ℕ) (races : List Race) → number ≤ later → AreInOrder races
    → races_up_to number races ++ races_up_to later (races_past number races) ≡ races_up_to later races
up_to-twice number later [] le order = refl
up_to-twice number later (race ∷ races) le order = ⊎_elim
    (λ (past : number < race.load).
    let all = all_past number race races past order.0 in
    ap (λ front. front ++ races_up_to later (races_past number (race ∷ races))) (up_to-none number (race ∷ races) all)
    ∙ ap (races_up_to later) (past-all number (race ∷ races) all))
    (λ (due : race.load ≤ number).
    ap (λ front. front ++ races_up_to later (races_past number (race ∷ races))) (up_to-due number race races due)
    ∙ ap (λ back. race ∷ (races_up_to number races ++ races_up_to later back)) (past-due number race races due)
    ∙ ap (λ rest. race ∷ rest) (up_to-twice number later races le order.1)
    ∙ sym (up_to-due later race races (let within : race.load ≤ later = omega arith in within)))
    (cases_lt number race.load)

stores-append : (races others : List Race) → stores_of (races ++ others) ≡ stores_of races ++ stores_of others
stores-append races others = map-append (λ (race : Race). (race.place, race.value)) races others

-- ---- loads, one after another

-- a heap after this many loads of a submission, which started with these stores and these races
pub record IsBehind (stores : List (ℕ × ℕ)) (races : List Race) (number : ℕ) (heap : Heap) : Type 0 where
  pub in_order : AreInOrder heap.races
  pub begun : heap.begun ≡ number
  pub later : (k : ℕ) → number < k → heap.stores ++ stores_of (races_up_to k heap.races) ≡ stores
      ++ stores_of (races_up_to k races)
  pub all : heap.stores ++ stores_of heap.races ≡ stores ++ stores_of races

-- the stores that a load makes, and then further ones
made : (old new : Heap) (place value : ℕ) (races others : List Race) → IsLoad old place value new
    → races_up_to (old.begun + 1) old.races ++ others ≡ races
    → new.stores ++ stores_of others ≡ old.stores ++ stores_of races
made old new place value races others after is =
    ap (λ xs. xs ++ stores_of others) after.stores
    ∙ append_assoc old.stores (stores_of (races_up_to (old.begun + 1) old.races)) (stores_of others)
    ∙ ap (λ xs. old.stores ++ xs) (sym (stores-append (races_up_to (old.begun + 1) old.races) others) ∙ ap stores_of is)

behind-load : (stores : List (ℕ × ℕ)) (races : List Race) (number place value : ℕ) (old new : Heap)
    → IsBehind stores races number old → IsLoad old place value new
    → IsBehind stores races (number + 1) new
behind-load stores races number place value old new behind after =
    let next : old.begun + 1 ≡ number + 1 = ap (λ n. n + 1) behind.begun in
    record {
      in_order = subst AreInOrder (sym after.races) (in_order-past (old.begun + 1) old.races behind.in_order);
      begun = after.begun ∙ next;
      later = λ k past.
          ap (λ rs. new.stores ++ stores_of (races_up_to k rs)) after.races
          ∙ made old new place value (races_up_to k old.races)
          (races_up_to k (races_past (old.begun + 1) old.races)) after
          (up_to-twice (old.begun + 1) k old.races (omega (arith, next, past)) behind.in_order)
          ∙ behind.later k (omega (arith, past));
      all =
          ap (λ rs. new.stores ++ stores_of rs) after.races
          ∙ made old new place value old.races (races_past (old.begun + 1) old.races) after
          (up_to-then-past (old.begun + 1) old.races behind.in_order)
          ∙ behind.all;
    }

-- the value that a load returns is the one that a submission reads there
read-load : (stores : List (ℕ × ℕ)) (races : List Race) (number place value : ℕ) (old new : Heap)
    → IsBehind stores races number old → IsLoad old place value new
    → value ≡ read_at stores races (number + 1) place
read-load stores races number place value old new behind after =
    after.word ∙ ap (λ xs. word_after xs place) (after.stores
    ∙ ap (λ n. old.stores ++ stores_of (races_up_to n old.races)) (ap (λ n. n + 1) behind.begun)
    ∙ behind.later (number + 1) (omega arith))

-- the state of a heap after its loads
pub record Read (stores : List (ℕ × ℕ)) (races : List Race) (number size : ℕ) (own : List (ℕ × ℕ))
    (new : Heap) : Type 0 where
  pub read : AreReadBy (read_at stores races) (number + 1) own
  pub all : new.stores ++ stores_of new.races ≡ stores ++ stores_of races
  pub size_is : new.size ≡ size

pub read-loads : (stores : List (ℕ × ℕ)) (races : List Race) (number : ℕ) (own : List (ℕ × ℕ)) (old new : Heap)
    → IsBehind stores races number old → AreLoads IsLoad old own new
    → Read stores races number old.size own new
read-loads stores races number [] old new behind after = record {
  read = tt;
  all = ap (λ (h : Heap). h.stores ++ stores_of h.races) after ∙ behind.all;
  size_is = ap (λ (h : Heap). h.size) after;
}
read-loads stores races number (load ∷ own) old new behind (next, first, rest) =
    let further = read-loads stores races (number + 1) own next new
    (behind-load stores races number load.0 load.1 old next behind first) rest in
    record {
      read = (read-load stores races number load.0 load.1 old next behind first, further.read);
      all = further.all;
      size_is = further.size_is ∙ first.size;
    }

-- the loads of a whole submission
pub read-submission : (old new : Heap) (own : List (ℕ × ℕ)) → AreInOrder old.races → old.begun ≡ 0
    → HasOnlyLoaded IsRoomChange IsLoad old own new → Read old.stores old.races 0 old.size own new
read-submission old new own order begun only =
    let roomed : Heap = only.roomed in
    let room : IsRoomChange old roomed = only.room in
    let behind : IsBehind old.stores old.races 0 roomed = record {
      in_order = subst AreInOrder (sym room.races) order;
      begun = room.begun ∙ begun;
      later = λ k past. (λ i. room.stores i ++ stores_of (races_up_to k (room.races i)));
      all = λ i. room.stores i ++ stores_of (room.races i);
    } in
    let read = read-loads old.stores old.races 0 own roomed new behind only.loads in
    record { read = read.read; all = read.all; size_is = read.size_is ∙ room.size }
