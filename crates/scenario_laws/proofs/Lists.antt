-- Lists, and lists related item by item.
use Rattle.std.proofs.Common.{◌≡◌, ◌⊎◌, ℕ, zero, suc, ◌+◌, ◌<◌, Bool, true, false, cond, List, [], ◌∷◌, ◌++◌, length}
use Rattle.std.proofs.Common.{get_or, map, All, Contains, Some, find, refl, sym, ap, ◌∙◌, subst, inl, inr, arith}
use Rattle.std.proofs.Common.{append_assoc}
use Rattle.std.specs.Prelude.{slice_get}
use Rattle.std.proofs.lemmas.Bool.{cases_Bool, cases_eq}
use Rattle.std.proofs.lemmas.List.Elements.{Contains-append_right, Contains-get_or}
use Rattle.std.proofs.lemmas.Option.{same_Some}
use Rattle.mrpc_table.specs.Valid.{AreDistinct}
use Rattle.toml.specs.Data.{Members}
use Rattle.scenario.specs.Scenarios.{IsEntryAt}
use Rattle.scenario.specs.declared.fault.ScenarioReason.{ScenarioReason}
use Rattle.scenario_entries.specs.Entries.{AreFaultFree}
use Rattle.scenario_lines.specs.Programs.{Each}

-- ---- what a list contains

there_by : {X : Type 0} (x : X) (xs : List X) (y : X) (k : ℕ) → k < length (x ∷ xs) → get_or (x ∷ xs) k y ≡ y → (x ≡ y) ⊎ Contains xs y
there_by x xs y zero within at = inl at
there_by x xs y (suc k) within at = inr (k, omega (arith, within), at)

pub there_cases : {X : Type 0} (x : X) (xs : List X) (y : X) → Contains (x ∷ xs) y → (x ≡ y) ⊎ Contains xs y
there_cases x xs y h = there_by x xs y h.0 h.1 h.2

pub there_first : {X : Type 0} (x : X) (xs : List X) → Contains (x ∷ xs) x
there_first x xs = (0, omega arith, refl)

pub there_more : {X : Type 0} (x : X) (xs : List X) (y : X) → Contains xs y → Contains (x ∷ xs) y
there_more x xs y h = let within = h.1 in (suc h.0, omega (arith, within), h.2)

pub none_in : {X : Type 0} (y : X) → Contains {X = X} [] y → ⊥
none_in y h = let within = h.1 in absurd (omega (arith, within))

pub there_map : {X Y : Type 0} (f : X → Y) (xs : List X) (x : X) → Contains xs x → Contains (map f xs) (f x)
there_map f [] x h = absurd (none_in x h)
there_map f (y ∷ ys) x h = elim (there_cases y ys x h) [
  | inl is ↦ subst (λ (z : _). Contains (map f (y ∷ ys)) (f z)) is (there_first (f y) (map f ys))
  | inr more ↦ there_more (f y) (map f ys) (f x) (there_map f ys x more)
]

-- what is in a list of images is the image of an item
pub there_unmap : {X Y : Type 0} (f : X → Y) (xs : List X) (y : Y) → Contains (map f xs) y → (x : X) × Contains xs x × (f x ≡ y)
there_unmap f [] y h = absurd (none_in y h)
there_unmap f (x ∷ xs) y h = elim (there_cases (f x) (map f xs) y h) [
  | inl is ↦ (x, there_first x xs, is)
  | inr more ↦ (let r = there_unmap f xs y more in (r.0, there_more x xs r.0 r.1, r.2))
]

pub get_there : {X : Type 0} (xs : List X) (i : ℕ) (x : X) → slice_get xs i ≡ Some x → Contains xs x
get_there [] i x e = absurd cc
get_there {X = X} (y ∷ ys) zero x e = subst (λ (z : X). Contains (y ∷ ys) z) (same_Some y x e) (there_first y ys)
get_there (y ∷ ys) (suc i) x e = there_more y ys x (get_there ys i x e)

split_there : {X : Type 0} (xs : List X) (x : X) → Contains xs x → (front : List X) × (back : List X) × (xs ≡ front ++ x ∷ back)
split_there [] x h = absurd (none_in x h)
split_there {X = X} (y ∷ ys) x h = elim (there_cases y ys x h) [
  | inl is ↦ ([], ys, ap (λ (z : X). z ∷ ys) is)
  | inr more ↦ (let r = split_there ys x more in (y ∷ r.0, r.1, ap (λ (zs : List X). y ∷ zs) r.2))
]

pub all_by : {X : Type 0} (P : X → Type 0) (xs : List X) → ((x : X) → Contains xs x → P x) → All P xs
all_by P xs h = λ k d within. h (get_or xs k d) (Contains-get_or xs k d within)

decide_there : (xs : List ℕ) (n : ℕ) → Contains xs n ⊎ (Contains xs n → ⊥)
decide_there [] n = inr (none_in n)
decide_there (x ∷ xs) n = elim (cases_eq x n) [
  | inl same ↦ inl (subst (λ (m : ℕ). Contains (x ∷ xs) m) same (there_first x xs))
  | inr other ↦ elim (decide_there xs n) [
    | inl more ↦ inl (there_more x xs n more)
    | inr none ↦ inr (λ h. elim (there_cases x xs n h) [
      | inl same ↦ other same
      | inr more ↦ none more
    ])
  ]
]

pub there_unless : (xs : List ℕ) (n : ℕ) → ((Contains xs n → ⊥) → ⊥) → Contains xs n
there_unless xs n h = elim (decide_there xs n) [
  | inl there ↦ there
  | inr none ↦ absurd (h none)
]

-- ---- what is found

pub found_there : {X : Type 0} (p : X → Bool) (xs : List X) (x : X) → find p xs ≡ Some x → Contains xs x × (p x ≡ true)
found_there p [] x e = absurd cc
found_there {X = X} p (y ∷ ys) x e = elim (cases_Bool (p y)) [
  | inl is ↦
      let same : y ≡ x = same_Some y x (sym (ap (λ (b : Bool). cond b (Some y) (find p ys)) is) ∙ e) in
      (subst (λ (z : X). Contains (y ∷ ys) z) same (there_first y ys), ap p (sym same) ∙ is)
  | inr isnt ↦
      let more = found_there p ys x (sym (ap (λ (b : Bool). cond b (Some y) (find p ys)) isnt) ∙ e) in
      (there_more y ys x more.0, more.1)
]

pub found_some : {X : Type 0} (p : X → Bool) (xs : List X) (x : X) → Contains xs x → p x ≡ true → (y : X) × (find p xs ≡ Some y)
found_some p [] x h e = absurd (none_in x h)
found_some {X = X} p (z ∷ zs) x h e = elim (cases_Bool (p z)) [
  | inl is ↦ (z, ap (λ (b : Bool). cond b (Some z) (find p zs)) is)
  | inr isnt ↦ elim (there_cases z zs x h) [
    | inl same ↦ absurd (let no : true ≡ false = sym e ∙ ap p (sym same) ∙ isnt in cc)
    | inr more ↦ (let r = found_some p zs x more e in (r.0, ap (λ (b : Bool). cond b (Some z) (find p zs)) isnt ∙ r.1))
  ]
]

-- ---- distinct items

module _ {X Y : Type 0} (f : X → Y) where
  pub distinct_same : (xs : List X) (x y : X) → AreDistinct (map f xs) → Contains xs x → Contains xs y → f x ≡ f y → x ≡ y
  distinct_same [] x y d h k e = absurd (none_in x h)
  distinct_same (z ∷ zs) x y d h k e = elim (there_cases z zs x h) [
    | inl one ↦ elim (there_cases z zs y k) [
      | inl two ↦ sym one ∙ two
      | inr more ↦ absurd (d.0 (subst (λ (n : Y). Contains (map f zs) n) (sym e ∙ ap f (sym one)) (there_map f zs y more)))
    ]
    | inr more ↦ elim (there_cases z zs y k) [
      | inl two ↦ absurd (d.0 (subst (λ (n : Y). Contains (map f zs) n) (e ∙ ap f (sym two)) (there_map f zs x more)))
      | inr others ↦ distinct_same zs x y d.1 more others e
    ]
  ]

  record Split (xs : List X) (name : Y) : Type 0 where
    before : List X
    item : X
    back : List X
    whole : xs ≡ before ++ item ∷ back
    named : f item ≡ name

  split_named : (xs : List X) (name : Y) → Contains (map f xs) name → Split xs name
  split_named [] name h = absurd (none_in name h)
  split_named (x ∷ xs) name h = elim (there_cases (f x) (map f xs) name h) [
    | inl is ↦ record { before = []; item = x; back = xs; whole = refl; named = is }
    | inr more ↦
        let s = split_named xs name more in
        record { before = x ∷ s.before; item = s.item; back = s.back; whole = ap (λ (zs : List X). x ∷ zs) s.whole; named = s.named }
  ]

  -- if no item has the name of an earlier one, names are distinct
  pub distinct_from : (front xs : List X)
      → ((before : List X) (x : X) (back : List X) → front ++ xs ≡ before ++ x ∷ back → Contains (map f before) (f x) → ⊥) → AreDistinct (map f xs)
  distinct_from front [] new = tt
  distinct_from front (x ∷ xs) new = (
    λ there.
        let s = split_named xs (f x) there in
        new (front ++ x ∷ s.before) s.item s.back
        (ap (λ (zs : List X). front ++ x ∷ zs) s.whole ∙ sym (append_assoc front (x ∷ s.before) (s.item ∷ s.back)))
        (subst (λ (n : Y). Contains (map f (front ++ x ∷ s.before)) n) (sym s.named)
        (there_map f (front ++ x ∷ s.before) x (Contains-append_right front (x ∷ s.before) x (there_first x s.before)))),
    distinct_from (front ++ x ∷ []) xs (λ before y back e h. new before y back (sym (append_assoc front (x ∷ []) xs) ∙ e) h),
  )

-- ---- item by item

module _ {X Y : Type 0} (R : X → Y → Type 0) where
  pub each_length : (xs : List X) (ys : List Y) → Each R xs ys → length xs ≡ length ys
  each_length [] [] e = refl
  each_length [] (y ∷ ys) e = absurd e
  each_length (x ∷ xs) [] e = absurd e
  each_length (x ∷ xs) (y ∷ ys) e = ap suc (each_length xs ys e.1)

  pub each_map : {Z : Type 0} (f : X → Z) (g : Y → Z) → ((x : X) (y : Y) → R x y → f x ≡ g y) → (xs : List X) (ys : List Y) → Each R xs ys → map f xs ≡ map g ys
  each_map f g same [] [] e = refl
  each_map f g same [] (y ∷ ys) e = absurd e
  each_map f g same (x ∷ xs) [] e = absurd e
  each_map f g same (x ∷ xs) (y ∷ ys) e = ap (λ z. z ∷ map f xs) (same x y e.0) ∙ ap (λ zs. g y ∷ zs) (each_map f g same xs ys e.1)

  -- the item that has this one as its meaning
  pub each_right : (xs : List X) (ys : List Y) (y : Y) → Each R xs ys → Contains ys y → (x : X) × Contains xs x × R x y
  each_right [] [] y e h = absurd (none_in y h)
  each_right [] (z ∷ ys) y e h = absurd e
  each_right (x ∷ xs) [] y e h = absurd e
  each_right (x ∷ xs) (z ∷ ys) y e h = elim (there_cases z ys y h) [
    | inl same ↦ (x, there_first x xs, subst (R x) same e.0)
    | inr more ↦ (let r = each_right xs ys y e.1 more in (r.0, there_more x xs r.0 r.1, r.2))
  ]

  pub each_left : (xs : List X) (ys : List Y) (x : X) → Each R xs ys → Contains xs x → (y : Y) × Contains ys y × R x y
  each_left [] [] x e h = absurd (none_in x h)
  each_left [] (z ∷ ys) x e h = absurd e
  each_left (w ∷ xs) [] x e h = absurd e
  each_left (w ∷ xs) (z ∷ ys) x e h = elim (there_cases w xs x h) [
    | inl same ↦ (z, there_first z ys, subst (λ (v : X). R v z) same e.0)
    | inr more ↦ (let r = each_left xs ys x e.1 more in (r.0, there_more z ys r.0 r.1, r.2))
  ]

  pub each_at : (xs : List X) (ys : List Y) (i : ℕ) (x : X) → Each R xs ys → slice_get xs i ≡ Some x → (y : Y) × (slice_get ys i ≡ Some y) × R x y
  each_at [] [] i x e at = absurd cc
  each_at [] (z ∷ ys) i x e at = absurd e
  each_at (w ∷ xs) [] i x e at = absurd e
  each_at (w ∷ xs) (z ∷ ys) zero x e at = (z, refl, subst (λ (v : X). R v z) (same_Some w x at) e.0)
  each_at (w ∷ xs) (z ∷ ys) (suc i) x e at = each_at xs ys i x e.1 at

  -- a list whose items have one meaning each has one list of meanings
  pub each_one : (xs : List X) → ((x : X) (y z : Y) → Contains xs x → R x y → R x z → y ≡ z) → (ys zs : List Y) → Each R xs ys → Each R xs zs → ys ≡ zs
  each_one [] one [] [] e f = refl
  each_one [] one (y ∷ ys) zs e f = absurd e
  each_one [] one [] (z ∷ zs) e f = absurd f
  each_one (x ∷ xs) one [] zs e f = absurd e
  each_one (x ∷ xs) one (y ∷ ys) [] e f = absurd f
  each_one (x ∷ xs) one (y ∷ ys) (z ∷ zs) e f =
      ap (λ (w : Y). w ∷ ys) (one x y z (there_first x xs) e.0 f.0)
      ∙ ap (λ (ws : List Y). z ∷ ws) (each_one xs (λ a b d there r s. one a b d (there_more x xs a there) r s) ys zs e.1 f.1)

-- ---- entries

stands : (entries : List Members) (ms : Members) → Contains entries ms → (before : List Members) × (n : ℕ) × IsEntryAt entries before ms n
stands entries ms there =
    let s = split_there entries ms there in
    (s.0, length s.0 + 1, record { back = s.1; whole = s.2; is_number = refl })

-- an entry that follows the earlier ones has no fault
pub free_of : (Against : List Members → Members → ScenarioReason → Type 0) (entries : List Members) → AreFaultFree Against entries → (ms : Members)
    → Contains entries ms → (before : List Members) × ((q : ScenarioReason) → Against before ms q → ⊥)
free_of Against entries free ms there = let s = stands entries ms there in (s.0, λ q h. free s.0 ms s.1 q s.2 h)
