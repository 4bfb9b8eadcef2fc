-- Sorting a list of weights by halves: which faults of the halves are faults of the whole.
use Rattle.std.proofs.Common.{◌≡◌, ℕ, zero, suc, ◌<◌, ◌≤◌, false, is_some, List, [], ◌∷◌, ◌++◌, length, get_or, take}
use Rattle.std.proofs.Common.{drop, slice_get, refl, ap, sym, ◌∙◌, arith, inl, inr, subst, append_assoc, None}
use Rattle.std.proofs.Common.{option_map, IfSome, length-append, drop-cons}
use Rattle.std.specs.List.{Contains, All}
use Rattle.std.specs.List.Sorted.{IsPermutation}
use Rattle.std.proofs.Math.Seq.{take-append_seam, drop-append_seam}
use Rattle.std.proofs.lemmas.Bool.{eqb-false}
use Rattle.std.proofs.lemmas.List.{take-append-drop, take_all, drop_all, append-nil, length-take-le}
use Rattle.std.proofs.lemmas.List.Elements.{All-tail, All-head, All-take, Contains-push_cases, Contains-append_left, Contains-append_right}
use Rattle.std.proofs.lemmas.List.Sorted.{IsPermutation-sym, IsPermutation-trans, IsPermutation-append}
use Rattle.std.proofs.lemmas.List.Sorted.{IsPermutation-append_left, IsPermutation-map, Contains-permutation}
use Rattle.std.proofs.lemmas.List.Sorted.{length_permutation}
use Rattle.std.proofs.lemmas.Option.{slice_get_cases}
use Rattle.qos_order.proofs.Keyed.{first_apart, keyed-tail}
use Rattle.qos_order.proofs.Sound.{conns-append, sound-nil, sound-more}
use Rattle.qos_order.specs.Account.{IsWeight}
use Rattle.qos_order.specs.Weights.{AreValidWeights, IsFirstFault, conns_of_weights}
use Rattle.qos_order.specs.declared.weights.Weight.{Weight}
use Rattle.qos_order.specs.declared.weights.WeightFault.{WeightFault}
use Rattle.qos_order.specs.declared.weights.WeightFault.TheVariants.{Range, Twice}

-- no connection of the second list is in the first
pub record AreApart (xs ys : List Weight) : Type 0 where
  pub apart : All (λ w. ¬ Contains (conns_of_weights xs) w.conn) ys

sound-tail : (x : Weight) (xs : List Weight) → AreValidWeights (x ∷ xs) → AreValidWeights xs
sound-tail x xs sound = record { ranged = All-tail (λ w. IsWeight w.weight) x xs sound.ranged; once = keyed-tail (λ w. w.conn) x xs sound.once }

pub sound-append : (xs ys : List Weight) → AreValidWeights xs → AreValidWeights ys → AreApart xs ys → AreValidWeights (xs ++ ys)
sound-append xs [] sound other apart = rw append-nil sound
sound-append xs (y ∷ ys) sound other apart =
    let more = sound-more xs y sound (All-head (λ w. IsWeight w.weight) y ys other.ranged) (apart.apart 0 y (omega arith)) in
    let beside : AreApart (xs ++ y ∷ []) ys = record {
      apart = λ k d within there.
          let cases = rw (conns-append xs (y ∷ [])) at there in
          elim (Contains-push_cases (conns_of_weights xs) y.conn (get_or ys k d).conn cases) [
            | inl old ↦ apart.apart (suc k) d (omega arith) old
            | inr same ↦ eqb-false y.conn (get_or ys k d).conn (first_apart (λ (w : Weight). w.conn) y ys k d other.once within) same
          ];
    } in
    rw (sym (append_assoc xs (y ∷ []) ys)) (sound-append (xs ++ y ∷ []) ys more (sound-tail y ys other) beside)

apart-front : (xs ys zs : List Weight) → AreApart xs (ys ++ zs) → AreApart xs ys
apart-front xs ys zs apart = record { apart = λ k d within. rw (sym (get-front ys zs k d within)) (apart.apart k d (let e = length-append ys zs in omega arith)) }
  where
    get-front : (ys zs : List Weight) (k : ℕ) (d : Weight) → k < length ys → get_or (ys ++ zs) k d ≡ get_or ys k d
    get-front [] zs k d within = absurd (omega arith)
    get-front (y ∷ ys) zs zero d within = refl
    get-front (y ∷ ys) zs (suc k) d within = get-front ys zs k d (omega arith)

-- a list that shares no connection with another shares none with its permutations
pub apart-moved : (xs zs ys : List Weight) → IsPermutation xs zs → AreApart zs ys → AreApart xs ys
apart-moved xs zs ys moved apart =
    record {
      apart = λ k d within there.
          apart.apart k d within (Contains-permutation (conns_of_weights xs) (conns_of_weights zs) (get_or ys k d).conn
          (IsPermutation-map (λ w. w.conn) xs zs moved) there);
    }

-- a fault of the prefix is a fault of the whole
pub fault-append : (xs ys : List Weight) (fault : WeightFault) → IsFirstFault xs fault → IsFirstFault (xs ++ ys) fault
fault-append xs ys fault first = record {
  before = first.before;
  entry = first.entry;
  after = first.after ++ ys;
  is = ap (λ zs. zs ++ ys) first.is ∙ append_assoc first.before (first.entry ∷ first.after) ys;
  sound = first.sound;
  there = first.there;
}

-- a repeated connection of the second half is one of the whole, if the first half is valid and shares no connection
-- with it
pub twice-behind : (xs ys : List Weight) (conn : ℕ) → AreValidWeights xs → AreApart xs ys → IsFirstFault ys (Twice conn) → IsFirstFault (xs ++ ys) (Twice conn)
twice-behind xs ys conn sound apart first = record {
  before = xs ++ first.before;
  entry = first.entry;
  after = first.after;
  is = ap (λ zs. xs ++ zs) first.is ∙ sym (append_assoc xs first.before (first.entry ∷ first.after));
  sound = sound-append xs first.before sound first.sound (apart-front xs first.before (first.entry ∷ first.after) (subst (λ (zs : List Weight). AreApart xs zs) first.is apart));
  there = (first.there.0, first.there.1, rw (conns-append xs first.before) (Contains-append_right (conns_of_weights xs) (conns_of_weights first.before) conn first.there.2));
}

-- a later entry whose connection is in the first half
pub twice-met : (xs ys : List Weight) (w : Weight) (more : List Weight) → AreValidWeights (xs ++ ys) → IsWeight w.weight
    → Contains (conns_of_weights xs) w.conn → IsFirstFault (xs ++ (ys ++ w ∷ more)) (Twice w.conn)
twice-met xs ys w more sound ranged there = record {
  before = xs ++ ys;
  entry = w;
  after = more;
  is = sym (append_assoc xs ys (w ∷ more));
  sound = sound;
  there = (refl, ranged, rw (conns-append xs ys) (Contains-append_left (conns_of_weights xs) (conns_of_weights ys) w.conn there));
}

-- the state after the first half was sorted
pub record Halved (entries front back : List Weight) : Type 0 where
  pub unsorted : List Weight
  pub split : entries ≡ unsorted ++ back
  pub moved : IsPermutation unsorted front
  pub sound : AreValidWeights unsorted

seam-take : (xs ys : List Weight) (n : ℕ) → length xs ≡ n → take n (xs ++ ys) ≡ xs
seam-take xs ys n long = subst (λ (k : ℕ). take k (xs ++ ys) ≡ xs) long (take-append_seam xs ys)

seam-drop : (xs ys : List Weight) (n : ℕ) → length xs ≡ n → drop n (xs ++ ys) ≡ ys
seam-drop xs ys n long = subst (λ (k : ℕ). drop k (xs ++ ys) ≡ ys) long (drop-append_seam xs ys)

pub halved : (entries sorted front back : List Weight) (half : ℕ) → half ≤ length entries → AreValidWeights (take half entries) → IsPermutation (take half entries) sorted
    → front ≡ take half (sorted ++ drop half entries) → back ≡ drop half (sorted ++ drop half entries) → Halved entries front back
halved entries sorted front back half within sound moved at_front at_back =
    let long : length sorted ≡ half = length_permutation (take half entries) sorted moved ∙ length-take-le half entries within in
    let back_is : back ≡ drop half entries = at_back ∙ seam-drop sorted (drop half entries) half long in
    let front_is : front ≡ sorted = at_front ∙ seam-take sorted (drop half entries) half long in
    record {
      unsorted = take half entries;
      split = rw back_is (sym (take-append-drop half entries));
      moved = subst (λ (xs : List Weight). IsPermutation (take half entries) xs) (sym front_is) moved;
      sound = sound;
    }

All-behind : (P : Weight → Type 0) (xs ys : List Weight) → All P (xs ++ ys) → All P ys
All-behind P [] ys all = all
All-behind P (x ∷ xs) ys all = All-behind P xs ys (All-tail P x (xs ++ ys) all)

ranged-back : (entries front back : List Weight) → Halved entries front back → All (λ w. IsWeight w.weight) entries → All (λ w. IsWeight w.weight) back
ranged-back entries front back state ranged =
    All-behind (λ w. IsWeight w.weight) state.unsorted back (subst (λ (xs : List Weight). All (λ w. IsWeight w.weight) xs) state.split ranged)

-- all entries of the suffix are in range if all entries are
pub ranged_behind : (entries front back : List Weight) (n : ℕ) → Halved entries front back → All (λ w. IsWeight w.weight) entries → All (λ w. IsWeight w.weight) (take n back)
ranged_behind entries front back n state ranged = All-take (λ w. IsWeight w.weight) n back (ranged-back entries front back state ranged)

-- the second half has a connection twice
pub twice_in_back : (entries front back : List Weight) (n conn : ℕ) → Halved entries front back
    → AreApart front (take n back) → IsFirstFault (take n back) (Twice conn) → IsFirstFault entries (Twice conn)
twice_in_back entries front back n conn state apart first =
    let known = twice-behind state.unsorted (take n back) conn state.sound (apart-moved state.unsorted front (take n back) state.moved apart) first in
    let longer = fault-append (state.unsorted ++ take n back) (drop n back) (Twice conn) known in
    let same : (state.unsorted ++ take n back) ++ drop n back ≡ entries =
    append_assoc state.unsorted (take n back) (drop n back) ∙ ap (λ xs. state.unsorted ++ xs)
    (take-append-drop n back) ∙ sym state.split in
    subst (λ (xs : List Weight). IsFirstFault xs (Twice conn)) same longer

sound_so_far : (entries front back : List Weight) (n : ℕ) (state : Halved entries front back)
    → AreApart front (take n back) → AreValidWeights (take n back) → AreValidWeights (state.unsorted ++ take n back)
sound_so_far entries front back n state apart sound = sound-append state.unsorted (take n back) state.sound sound (apart-moved state.unsorted front (take n back) state.moved apart)

met_entry : (entries front back : List Weight) (n : ℕ) → Halved entries front back → All (λ w. IsWeight w.weight) entries → AreApart front (take n back) → AreValidWeights (take n back)
    → (w : Weight) → Contains (conns_of_weights front) w.conn → n < length back → get_or back n w ≡ w → IsFirstFault entries (Twice w.conn)
met_entry entries front back n state ranged apart sound w there within at =
    let behind : drop n back ≡ w ∷ drop (suc n) back = drop-cons back n w within ∙ ap (λ x. x ∷ drop (suc n) back) at in
    let in_range : IsWeight w.weight = subst (λ (x : Weight). IsWeight x.weight) at (ranged-back entries front back state ranged n w within) in
    let before = Contains-permutation (conns_of_weights front) (conns_of_weights state.unsorted) w.conn
    (IsPermutation-sym (conns_of_weights state.unsorted) (conns_of_weights front)
    (IsPermutation-map (λ x. x.conn) state.unsorted front state.moved)) there in
    let known = twice-met state.unsorted (take n back) w (drop (suc n) back) (sound_so_far entries front back n state apart sound) in_range before in
    let same : state.unsorted ++ (take n back ++ w ∷ drop (suc n) back) ≡ entries =
    ap (λ xs. state.unsorted ++ (take n back ++ xs)) (sym behind) ∙ ap (λ xs. state.unsorted ++ xs)
    (take-append-drop n back) ∙ sym state.split in
    subst (λ (xs : List Weight). IsFirstFault xs (Twice w.conn)) same known

-- an entry of the second half has a connection of the first
pub twice_met : (entries front back : List Weight) (n : ℕ) → Halved entries front back
    → All (λ w. IsWeight w.weight) entries → AreApart front (take n back) → AreValidWeights (take n back)
    → IfSome (slice_get back n) (λ w. Contains (conns_of_weights front) w.conn) → IfSome (option_map (λ w. w.conn) (slice_get back n)) (λ conn. IsFirstFault entries (Twice conn))
twice_met entries front back n state ranged apart sound met = elim ((slice_get_cases back n).1) [
  | inl inside ↦ rw inside.2 (met_entry entries front back n state ranged apart sound inside.0 (rw inside.2 at met) inside.1 inside.3)
  | inr past ↦ rw past.1 tt
]

-- no entry of the second half has a connection of the first
pub whole_sound : (entries front back : List Weight) (n : ℕ) → Halved entries front back
    → AreApart front (take n back) → AreValidWeights (take n back)
    → is_some (option_map (λ (w : Weight). w.conn) (slice_get back n)) ≡ false → AreValidWeights entries
whole_sound entries front back n state apart sound none = elim ((slice_get_cases back n).1) [
  | inl inside ↦ absurd (let e = inside.2 in let found = rw e at none in cc)
  | inr past ↦
      let all = rw (take_all n back past.0) at (sound_so_far entries front back n state apart sound) in
      rw state.split all
]

-- a permutation of the first entries, followed by the others
pub first_moved : (xs ys : List Weight) (n : ℕ) → IsPermutation (take n xs) ys → IsPermutation xs (ys ++ drop n xs)
first_moved xs ys n moved = subst (λ (zs : List Weight). IsPermutation zs (ys ++ drop n xs)) (take-append-drop n xs) (IsPermutation-append_left (drop n xs) (take n xs) ys moved)

-- the sorted halves have the items of the entries
pub same_entries : (entries front back sorted all : List Weight) (n : ℕ) → Halved entries front back
    → IsPermutation (take n back) sorted → IsPermutation (front ++ (sorted ++ drop n back)) all
    → IsPermutation entries all
same_entries entries front back sorted all n state moved last =
    let both = IsPermutation-append state.unsorted front back (sorted ++ drop n back) state.moved (first_moved back sorted n moved) in
    subst (λ (xs : List Weight). IsPermutation xs all) (sym state.split) (IsPermutation-trans (state.unsorted ++ back) (front ++ (sorted ++ drop n back)) all both last)

-- a list of at most one entry is valid if that is in range
pub sound-short : (xs : List Weight) → length xs ≤ 1 → All (λ w. IsWeight w.weight) xs → AreValidWeights xs
sound-short [] short ranged = sound-nil
sound-short (x ∷ []) short ranged = sound-more [] x sound-nil (ranged 0 x (omega arith)) (λ there. omega (arith, there.1))
sound-short (x ∷ y ∷ ys) short ranged = absurd (omega arith)

-- a fault of the first entries is a fault of the whole
pub fault_of_first : (xs : List Weight) (n : ℕ) (fault : WeightFault) → IsFirstFault (take n xs) fault → IsFirstFault xs fault
fault_of_first xs n fault first = subst (λ (ys : List Weight). IsFirstFault ys fault) (take-append-drop n xs) (fault-append (take n xs) (drop n xs) fault first)

-- an entry out of range after valid ones
pub range_behind : (xs : List Weight) (n : ℕ) → AreValidWeights (take n xs)
    → IfSome (slice_get xs n) (λ w. ¬ IsWeight w.weight)
    → IfSome (option_map (λ w. w.conn) (slice_get xs n)) (λ conn. IsFirstFault xs (Range conn))
range_behind xs n sound out = elim ((slice_get_cases xs n).1) [
  | inl inside ↦ rw inside.2 (record {
    before = take n xs;
    entry = inside.0;
    after = drop (suc n) xs;
    is = sym (take-append-drop n xs) ∙ ap (λ ys. take n xs ++ ys) (drop-cons xs n inside.0 inside.1 ∙ ap (λ x. x ∷ drop (suc n) xs) inside.3);
    sound = sound;
    there = (refl, rw inside.2 at out);
  })
  | inr past ↦ rw past.1 tt
]

-- no entry after the first ones
pub all_sound : (xs : List Weight) (n : ℕ) → AreValidWeights (take n xs) → option_map (λ (w : Weight). w.conn) (slice_get xs n) ≡ None → AreValidWeights xs
all_sound xs n sound none = elim ((slice_get_cases xs n).1) [
  | inl inside ↦ absurd (let e = inside.2 in let found = rw e at none in cc)
  | inr past ↦ rw (take_all n xs past.0) at sound
]

pub none_dropped : (xs : List Weight) (n : ℕ) → option_map (λ (w : Weight). w.conn) (slice_get xs n) ≡ None → drop n xs ≡ []
none_dropped xs n none = elim ((slice_get_cases xs n).1) [
  | inl inside ↦ absurd (let e = inside.2 in let found = rw e at none in cc)
  | inr past ↦ drop_all n xs past.0
]
