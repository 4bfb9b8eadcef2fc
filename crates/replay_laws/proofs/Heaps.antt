-- The words of a heap fit 64 bits if the values of its stores and races do.
use Rattle.std.proofs.Common.{ℕ, ◌<◌, ◌^◌, ◌==◌, Bool, true, false, cond, List, [], ◌∷◌, ◌++◌, map, nat_le, nat_lt, arith}
use Rattle.std.specs.Prelude.{filter}
use Rattle.mrpc_base.specs.Heap.{Race, last_or, races_past, races_up_to, races_with, stores_of, word_after}
use Rattle.replay_run.specs.Follows.{read_at}

abbrev pub AreSmall : List (ℕ × ℕ) → Type 0
AreSmall [] = Unit {0}
AreSmall (store ∷ stores) = (store.1 < 2 ^ 64) × AreSmall stores

abbrev pub AreSmallRaces : List Race → Type 0
AreSmallRaces [] = Unit {0}
AreSmallRaces (race ∷ races) = (race.value < 2 ^ 64) × AreSmallRaces races

pub small-append : (xs ys : List (ℕ × ℕ)) → AreSmall xs → AreSmall ys → AreSmall (xs ++ ys)
small-append [] ys few more = more
small-append (x ∷ xs) ys few more = (few.0, small-append xs ys few.1 more)

races-append : (xs ys : List Race) → AreSmallRaces xs → AreSmallRaces ys → AreSmallRaces (xs ++ ys)
races-append [] ys few more = more
races-append (x ∷ xs) ys few more = (few.0, races-append xs ys few.1 more)

pub small-stores : (races : List Race) → AreSmallRaces races → AreSmall (stores_of races)
small-stores [] small = tt
small-stores (race ∷ races) small = (small.0, small-stores races small.1)

keep-small : (b : Bool) (race : Race) (races : List Race) → race.value < 2 ^ 64 → AreSmallRaces races → AreSmallRaces (cond b (race ∷ races) races)
keep-small true race races low small = (low, small)
keep-small false race races low small = small

filter-small : (p : Race → Bool) (races : List Race) → AreSmallRaces races → AreSmallRaces (filter p races)
filter-small p [] small = tt
filter-small p (race ∷ races) small = keep-small (p race) race (filter p races) small.0 (filter-small p races small.1)

pub small-with : (races : List Race) (race : Race) → AreSmallRaces races → race.value < 2 ^ 64 → AreSmallRaces (races_with races race)
small-with races race small low =
    races-append (races_up_to race.load races) (race ∷ races_past race.load races)
    (filter-small (λ (r : Race). nat_le r.load race.load) races small)
    (low, filter-small (λ (r : Race). nat_lt race.load r.load) races small)

last-by : (b : Bool) (w : ℕ) (store : ℕ × ℕ) (stores : List (ℕ × ℕ)) → last_or store.1 (map (λ x. x.1) stores) < 2 ^ 64
    → last_or w (map (λ x. x.1) stores) < 2 ^ 64 → last_or w (map (λ x. x.1) (cond b (store ∷ stores) stores)) < 2 ^ 64
last-by true w store stores with_it without = with_it
last-by false w store stores with_it without = without

last-small : (p : ℕ × ℕ → Bool) (w : ℕ) (stores : List (ℕ × ℕ)) → w < 2 ^ 64 → AreSmall stores
    → last_or w (map (λ x. x.1) (filter p stores)) < 2 ^ 64
last-small p w [] low small = low
last-small p w (store ∷ stores) low small =
    last-by (p store) w store (filter p stores) (last-small p store.1 stores small.0 small.1) (last-small p w stores low small.1)

word-small : (stores : List (ℕ × ℕ)) (place : ℕ) → AreSmall stores → word_after stores place < 2 ^ 64
unfolding word_after
word-small stores place small = last-small (λ store. store.0 == place) 0 stores (omega arith) small

pub read-small : (stores : List (ℕ × ℕ)) (races : List Race) → AreSmall stores → AreSmallRaces races → (number place : ℕ)
    → read_at stores races number place < 2 ^ 64
read-small stores races small few number place =
    word-small (stores ++ stores_of (races_up_to number races)) place
    (small-append stores (stores_of (races_up_to number races)) small
    (small-stores (races_up_to number races) (filter-small (λ (r : Race). nat_le r.load number) races few)))
