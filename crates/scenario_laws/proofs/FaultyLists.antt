-- Lists related item by item, indices of names, and entries that follow earlier ones.
use Rattle.std.proofs.Common.{◌≡◌, ◌⊎◌, ℕ, zero, suc, ◌+◌, ◌<◌, Bool, true, false, not, cond, List, [], ◌∷◌, ◌++◌}
use Rattle.std.proofs.Common.{length, get_or, map, Contains, Option, Some, None, option_to_list, refl, sym, ap, ◌∙◌}
use Rattle.std.proofs.Common.{subst, inl, inr, arith, bytes_eq}
use Rattle.std.specs.Prelude.{position, slice_get}
use Rattle.std.specs.List.{position_or_len}
use Rattle.std.proofs.lemmas.Bool.{cases_Bool, cases_lt, lt-ltb}
use Rattle.std.proofs.lemmas.List.Quantifiers.{position-Some}
use Rattle.std.proofs.lemmas.Option.{same_Some, slice_get-get_or}
use Rattle.std.proofs.lemmas.Slice.Eq.{bytes_eq-Decides}
use Rattle.toml.specs.Data.{Members, no_members}
use Rattle.scenario.specs.Policies.{entry_name, entry_names}
use Rattle.scenario.specs.Scenarios.{IsEntryAt}
use Rattle.scenario.specs.declared.fault.ScenarioReason.{ScenarioReason}
use Rattle.scenario_lines.specs.Programs.{Each}

-- it can't be that there is none
abbrev pub CanBe : Type 0 → Type 0
CanBe X = (X → ⊥) → ⊥

-- ---- what a list contains

there_by : {X : Type 0} (x : X) (xs : List X) (y : X) (k : ℕ) → k < length (x ∷ xs) → get_or (x ∷ xs) k y ≡ y → (x ≡ y) ⊎ Contains xs y
there_by x xs y zero within at = inl at
there_by x xs y (suc k) within at = inr (k, omega (arith, within), at)

pub there_cases : {X : Type 0} (x : X) (xs : List X) (y : X) → Contains (x ∷ xs) y → (x ≡ y) ⊎ Contains xs y
there_cases x xs y h = there_by x xs y h.0 h.1 h.2

pub there_first : {X : Type 0} (x : X) (xs : List X) → Contains (x ∷ xs) x
there_first x xs = (0, omega arith, refl)

pub there_more : {X : Type 0} (x : X) (xs : List X) (y : X) → Contains xs y → Contains (x ∷ xs) y
there_more x xs y h = let within = h.1 in (suc h.0, omega (arith, within), h.2)

pub none_in : {X : Type 0} (y : X) → Contains {X = X} [] y → ⊥
none_in y h = let within = h.1 in absurd (omega (arith, within))

split_there : {X : Type 0} (xs : List X) (x : X) → Contains xs x → (front : List X) × (back : List X) × (xs ≡ front ++ x ∷ back)
split_there [] x h = absurd (none_in x h)
split_there {X = X} (y ∷ ys) x h = elim (there_cases y ys x h) [
  | inl is ↦ ([], ys, ap (λ (z : X). z ∷ ys) is)
  | inr more ↦ (let r = split_there ys x more in (y ∷ r.0, r.1, ap (λ (zs : List X). y ∷ zs) r.2))
]

-- ---- item by item

module _ {X Y : Type 0} (R : X → Y → Type 0) where
  pub each_by : (xs : List X) → ((x : X) → Contains xs x → (y : Y) × R x y) → (ys : List Y) × Each R xs ys
  each_by [] h = ([], tt)
  each_by (x ∷ xs) h =
      let y = h x (there_first x xs) in
      let ys = each_by xs (λ z there. h z (there_more x xs z there)) in
      (y.0 ∷ ys.0, (y.1, ys.1))

  pub each_can : (xs : List X) → ((x : X) → Contains xs x → CanBe ((y : Y) × R x y)) → CanBe ((ys : List Y) × Each R xs ys)
  each_can [] h = λ never. never ([], tt)
  each_can (x ∷ xs) h = λ never.
      h x (there_first x xs) (λ y. each_can xs (λ z there. h z (there_more x xs z there)) (λ ys. never (y.0 ∷ ys.0, (y.1, ys.1))))

-- ---- indices

module _ {X Y : Type 0} (f : X → Option Y) where
  pub places_by : (xs : List X) → ((x : X) → Contains xs x → (y : Y) × (f x ≡ Some y)) → (ys : List Y) × (map Some ys ≡ map f xs)
  places_by [] h = ([], refl)
  places_by (x ∷ xs) h =
      let y = h x (there_first x xs) in
      let ys = places_by xs (λ z there. h z (there_more x xs z there)) in
      (y.0 ∷ ys.0, ap (λ (o : Option Y). o ∷ map Some ys.0) (sym y.1) ∙ ap (λ (os : List (Option Y)). f x ∷ os) ys.1)

  pub place_by : (o : Option X) → ((x : X) → Contains (option_to_list o) x → (y : Y) × (f x ≡ Some y))
      → (p : Option Y) × (map Some (option_to_list p) ≡ map f (option_to_list o))
  place_by None h = (None, refl)
  place_by (Some x) h = (let y = h x (there_first x []) in (Some y.0, ap (λ (z : Option Y). z ∷ []) (sym y.1)))

pub get_there : {X : Type 0} (xs : List X) (i : ℕ) (x : X) → slice_get xs i ≡ Some x → Contains xs x
get_there [] i x e = absurd cc
get_there {X = X} (y ∷ ys) zero x e = subst (λ (z : X). Contains (y ∷ ys) z) (same_Some y x e) (there_first y ys)
get_there (y ∷ ys) (suc i) x e = there_more y ys x (get_there ys i x e)

-- an entry with a name, at its index
pub record IsNamedAt (entries : List Members) (name : List ℕ) (place : ℕ) : Type 0 where
  pub entry : Members
  pub at : slice_get entries place ≡ Some entry
  pub named : entry_name entry ≡ name
  pub within : place < length entries

abbrev place_in : List Members → List ℕ → Option ℕ
place_in entries name = position (λ ms. bytes_eq (entry_name ms) name) entries

pub named_at : (entries : List Members) (name : List ℕ) (place : ℕ) → place_in entries name ≡ Some place → IsNamedAt entries name place
named_at entries name place e =
    let h = position-Some (λ (ms : Members). bytes_eq (entry_name ms) name) entries place no_members e in
    record {
      entry = get_or entries place no_members;
      at = slice_get-get_or entries place no_members h.0;
      named = (bytes_eq-Decides (entry_name (get_or entries place no_members)) name).0 h.1;
      within = h.0;
    }

-- the number of entries before the first one with the name
abbrev in_front : List ℕ → List Members → ℕ
in_front name entries = position_or_len (λ ms. bytes_eq (entry_name ms) name) entries

front_by : (name : List ℕ) (ms : Members) (entries : List Members) (b : Bool) → bytes_eq (entry_name ms) name ≡ b
    → in_front name (ms ∷ entries) ≡ cond (not b) (1 + in_front name entries) 0
front_by name ms entries b e = ap (λ (t : Bool). cond (not t) (1 + in_front name entries) 0) e

front_within : (name : List ℕ) (entries : List Members) (k : ℕ) → k < length (entry_names entries) → get_or (entry_names entries) k name ≡ name
    → in_front name entries < length entries
front_within name [] k within at = absurd (omega (arith, within))
front_within name (ms ∷ entries) zero within at =
    let here = front_by name ms entries true ((bytes_eq-Decides (entry_name ms) name).1 at) in
    omega (arith, here)
front_within name (ms ∷ entries) (suc k) within at = elim (cases_Bool (bytes_eq (entry_name ms) name)) [
  | inl is ↦ (let here = front_by name ms entries true is in omega (arith, here))
  | inr isnt ↦
      let here = front_by name ms entries false isnt in
      let more = front_within name entries k (omega (arith, within)) at in
      omega (arith, here, more)
]

-- a name that can't be missing has an index
pub placed : (entries : List Members) (name : List ℕ) → CanBe (Contains (entry_names entries) name) → (place : ℕ) × (place_in entries name ≡ Some place)
placed entries name h = elim (cases_lt (in_front name entries) (length entries)) [
  | inl within ↦ (in_front name entries, ap (λ (b : Bool). cond b (Some (in_front name entries)) None) (lt-ltb _ _ within))
  | inr past ↦ absurd (h (λ there. let within = front_within name entries there.0 there.1 there.2 in absurd (omega (arith, past, within))))
]

-- ---- entries

-- none of the entries has a fault
abbrev pub AreFree : (List Members → Members → ScenarioReason → Type 0) → List Members → Type 0
AreFree Against entries =
    (before : List Members) (ms : Members) (n : ℕ) (q : ScenarioReason) → IsEntryAt entries before ms n → Against before ms q → ⊥

-- none has a fault after the earlier ones
pub free_of : (Against : List Members → Members → ScenarioReason → Type 0) (entries : List Members) → AreFree Against entries → (ms : Members)
    → Contains entries ms → (before : List Members) × ((q : ScenarioReason) → Against before ms q → ⊥)
free_of Against entries free ms there =
    let s = split_there entries ms there in
    (s.0, λ q h. free s.0 ms (length s.0 + 1) q (record { back = s.1; whole = s.2; is_number = refl }) h)
