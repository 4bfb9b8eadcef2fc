-- The map of scheduled races: by load, then by listing.
use Rattle.std.proofs.Common.{◌≡◌, ◌<◌, ◌≤◌, ◌+◌, ℕ, List, [], ◌∷◌, map, All, Some, arith, refl, sym, ap, ◌∙◌, subst, ⊎_elim}
use Rattle.std.specs.Prelude.{slice_get}
use Rattle.std.specs.List.{AllByRecursion}
use Rattle.std.specs.List.Sorted.{IsStrictlySortedBy}
use Rattle.std.specs.Ordering.{nat_cmp, ordering_then, match_ordering}
use Rattle.std.specs.declared.cmp.Ordering.{Ordering}
use Rattle.std.specs.declared.cmp.Ordering.TheVariants.{Less, Greater}
use Rattle.std.specs.BTreeMap.{insert_entry}
use Rattle.std.specs.BTreeMap.Range.{IsLeBy}
use Rattle.std.proofs.lemmas.Bool.{cases_lt}
use Rattle.std.proofs.lemmas.Bool.Decides.{nat_tests}
use Rattle.std.proofs.lemmas.List.Elements.{All-head, All-tail, All-cons, All-nil, All-weaker, recursion_from_All, All-from_recursion}
use Rattle.std.proofs.lemmas.Map.Keys.{sorted_head, sorted_tail}
use Rattle.mrpc_base.specs.Heap.{Race, races_with}
use Rattle.mrpc_base.specs.Parts.{race_of, AreListedBelow, IsFirstRace, IsFirstDue}
use Rattle.mrpc_base.proofs.Due.{races_with-before, races_with-behind}

-- the order of keys: a load and a number of listing
abbrev pub key_cmp : ℕ × ℕ → ℕ × ℕ → Ordering
key_cmp a b = ordering_then (nat_cmp a.0 b.0) (nat_cmp a.1 b.1)

key_cmp-before : (load listed other number : ℕ) → load < other → key_cmp (load, listed) (other, number) ≡ Less
key_cmp-before load listed other number before = grind (arith, nat_tests)

key_cmp-behind : (load listed other number : ℕ) → other ≤ load → number < listed → key_cmp (load, listed) (other, number) ≡ Greater
key_cmp-behind load listed other number behind later = grind (arith, nat_tests)

le_from_less : (a b : ℕ × ℕ) → key_cmp a b ≡ Less → a.0 ≤ b.0
le_from_less a b less = grind (arith, nat_tests)

le_from_not_gt : (a b : ℕ × ℕ) → IsLeBy key_cmp a b → a.0 ≤ b.0
le_from_not_gt a b le = grind (arith, nat_tests)

-- ---- one more race

abbrev Entry : Type 0
Entry = (ℕ × ℕ) × (ℕ × ℕ)

insert_entry-before : (entry : Entry) (entries : List Entry) (load next : ℕ) (store : ℕ × ℕ) → load < entry.0.0
    → insert_entry key_cmp (entry ∷ entries) (load, next) store ≡ ((load, next), store) ∷ entry ∷ entries
insert_entry-before entry entries load next store before =
    ap (λ order. match_ordering order (((load, next), store) ∷ entry ∷ entries) ((entry.0, store) ∷ entries) (entry ∷ insert_entry key_cmp entries (load, next) store))
    (key_cmp-before load next entry.0.0 entry.0.1 before)

insert_entry-behind : (entry : Entry) (entries : List Entry) (load next : ℕ) (store : ℕ × ℕ) → entry.0.0 ≤ load → entry.0.1 < next
    → insert_entry key_cmp (entry ∷ entries) (load, next) store ≡ entry ∷ insert_entry key_cmp entries (load, next) store
insert_entry-behind entry entries load next store behind listed =
    ap (λ order. match_ordering order (((load, next), store) ∷ entry ∷ entries) ((entry.0, store) ∷ entries) (entry ∷ insert_entry key_cmp entries (load, next) store))
    (key_cmp-behind load next entry.0.0 entry.0.1 behind listed)

pub listed_more : (entries : List Entry) (load next : ℕ) (store : ℕ × ℕ) → AreListedBelow next entries
    → AreListedBelow (next + 1) (insert_entry key_cmp entries (load, next) store)
listed_more [] load next store below = All-cons (λ e. e.0.1 < next + 1) ((load, next), store) [] (omega arith) (All-nil (λ e. e.0.1 < next + 1))
listed_more (entry ∷ entries) load next store below =
    let P : Entry → Type 0 = λ e. e.0.1 < next + 1 in
    let head : entry.0.1 < next = All-head (λ e. e.0.1 < next) entry entries below in
    let tail = All-tail (λ e. e.0.1 < next) entry entries below in
    let weaker : (e : Entry) → e.0.1 < next → P e = λ e lt. omega arith in
    ⊎_elim
    (λ before. subst (AreListedBelow (next + 1)) (sym (insert_entry-before entry entries load next store before))
    (All-cons P ((load, next), store) (entry ∷ entries) (omega arith) (All-weaker (λ e. e.0.1 < next) P weaker (entry ∷ entries) below)))
    (λ behind. subst (AreListedBelow (next + 1)) (sym (insert_entry-behind entry entries load next store behind head))
    (All-cons P entry (insert_entry key_cmp entries (load, next) store) (omega arith) (listed_more entries load next store tail)))
    (cases_lt load entry.0.0)

-- the keys after a key are of no earlier load
later_loads : (number : ℕ) (key : ℕ × ℕ) (entries : List Entry) → number < key.0
    → AllByRecursion (λ k. key.0 ≤ k.0) (map (λ e. e.0) entries)
    → AllByRecursion (λ race. number < race.load) (map race_of entries)
later_loads number key [] later up = tt
later_loads number key (entry ∷ entries) later up = (omega (arith, up.0), later_loads number key entries later up.1)

no_earlier : (key : ℕ × ℕ) (keys : List (ℕ × ℕ)) → AllByRecursion (λ k. key_cmp key k ≡ Less) keys → AllByRecursion (λ k. key.0 ≤ k.0) keys
no_earlier key [] up = tt
no_earlier key (k ∷ keys) up = (le_from_less key k up.0, no_earlier key keys up.1)

pub map-insert_entry : (entries : List Entry) (load next place value : ℕ) → AreListedBelow next entries → IsStrictlySortedBy key_cmp (map (λ e. e.0) entries)
    → map race_of (insert_entry key_cmp entries (load, next) (place, value)) ≡ races_with (map race_of entries) (record { load = load; place = place; value = value })
map-insert_entry [] load next place value below sorted = refl
map-insert_entry (entry ∷ entries) load next place value below sorted =
    let race : Race = record { load = load; place = place; value = value } in
    let keys = map (λ (e : Entry). e.0) entries in
    ⊎_elim
    (λ before.
    let behind = All-from_recursion (λ r. load < r.load) (map race_of entries)
    (later_loads load entry.0 entries before (no_earlier entry.0 keys (sorted_head key_cmp entry.0 keys sorted)))
    in
    ap (map race_of) (insert_entry-before entry entries load next (place, value) before)
    ∙ sym (races_with-before (race_of entry ∷ map race_of entries) race (All-cons (λ r. load < r.load) (race_of entry) (map race_of entries) before behind)))
    (λ behind.
    ap (map race_of) (insert_entry-behind entry entries load next (place, value) behind (All-head (λ e. e.0.1 < next) entry entries below))
    ∙ ap (λ rest. race_of entry ∷ rest) (map-insert_entry entries load next place value (All-tail (λ e. e.0.1 < next) entry entries below) (sorted_tail key_cmp entry.0 keys sorted))
    ∙ sym (races_with-behind (race_of entry) (map race_of entries) race behind))
    (cases_lt load entry.0.0)

-- ---- the first race

pub first_race : (entries rest : List Entry) (entry : Entry) → entries ≡ entry ∷ rest → IsFirstRace (map race_of entries) (map race_of rest) entry.1
first_race entries rest entry is = (race_of entry, ap (map race_of) is, refl)

pub first_due : (number : ℕ) (entries : List Entry) (key store first : ℕ × ℕ) (new : List Race) → slice_get entries 0 ≡ Some (key, store) → key.0 ≤ number
    → IsFirstRace (map race_of entries) new first → IsFirstDue number (map race_of entries) new first
first_due number [] key store first new is due found = cc
first_due number (entry ∷ entries) key store first new is due found =
    let same : race_of entry ≡ found.0 = cc in
    let front : entry ≡ (key, store) = cc in
    let load : found.0.load ≡ key.0 = sym (ap (λ (r : Race). r.load) same) ∙ ap (λ (e : Entry). e.0.0) front in
    (found.0, found.1, found.2, omega (arith, load, due))

from_keys : (key : ℕ × ℕ) (keys : List (ℕ × ℕ)) → AllByRecursion (IsLeBy key_cmp key) keys → AllByRecursion (λ k. key.0 ≤ k.0) keys
from_keys key [] from = tt
from_keys key (k ∷ keys) from = (le_from_not_gt key k from.0, from_keys key keys from.1)

-- if the first key is of a later load, all races are
pub none_due : (number : ℕ) (entries : List Entry) (key : ℕ × ℕ) → number < key.0
    → All (IsLeBy key_cmp key) (map (λ e. e.0) entries) → All (λ race. number < race.load) (map race_of entries)
none_due number entries key later from =
    let keys = map (λ (e : Entry). e.0) entries in
    All-from_recursion (λ race. number < race.load) (map race_of entries) (later_loads number key entries later (from_keys key keys (recursion_from_All (IsLeBy key_cmp key) keys from)))
