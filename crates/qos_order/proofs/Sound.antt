-- Valid lists of weights, and first faults.
use Rattle.std.proofs.Common.{◌≡◌, ℕ, zero, suc, ◌<◌, nat_eq, false, List, [], ◌∷◌, ◌++◌, length, get_or, refl, ap}
use Rattle.std.proofs.Common.{sym, ◌∙◌, arith, ◌⊎◌, inl, inr, subst, append_assoc}
use Rattle.std.specs.List.{Contains, IsDistinct, list_any}
use Rattle.std.specs.List.Sorted.{IsPermutation}
use Rattle.std.proofs.lemmas.Bool.{false_from_ne_true, eqb-false, eqb-true, cases_lt}
use Rattle.std.proofs.lemmas.List.{append-nil}
use Rattle.std.proofs.lemmas.Cmp.{nat_eq_equiv}
use Rattle.std.proofs.lemmas.Map.Keys.{IsDistinct-push, apart_from_distinct}
use Rattle.std.proofs.lemmas.Map.Views.{Contains-from_any, list_any-from_Contains}
use Rattle.std.proofs.lemmas.List.Sorted.{All-permutation}
use Rattle.std.proofs.lemmas.List.Elements.{All-nil, All-push}
use Rattle.qos_order.proofs.Keyed.{bool_cases, keyed-moved}
use Rattle.qos_order.specs.Account.{IsWeight}
use Rattle.qos_order.specs.Weights.{AreValidWeights, IsAtFault, IsFirstFault, conns_of_weights, HasAtMostOneFault, HasNoFaultIfValid, IsValidOrFaulty}
use Rattle.qos_order.specs.declared.weights.Weight.{Weight}
use Rattle.qos_order.specs.declared.weights.WeightFault.{WeightFault}
use Rattle.qos_order.specs.declared.weights.WeightFault.TheVariants.{Range, Twice, Memory}

pub conns-append : (xs ys : List Weight) → conns_of_weights (xs ++ ys) ≡ conns_of_weights xs ++ conns_of_weights ys
conns-append [] ys = refl
conns-append (x ∷ xs) ys = ap (λ ns. x.conn ∷ ns) (conns-append xs ys)

no_such : (ns : List ℕ) (n : ℕ) → (Contains ns n → ⊥) → list_any (nat_eq n) ns ≡ false
no_such ns n none = false_from_ne_true _ (λ any. none (Contains-from_any (λ x y same. eqb-true x y same) n ns any))

pub sound-nil : AreValidWeights []
unfolding IsDistinct
sound-nil = record { ranged = All-nil (λ w. IsWeight w.weight); once = tt }

-- one more entry that is in range and new
pub sound-more : (xs : List Weight) (x : Weight) → AreValidWeights xs → IsWeight x.weight → (Contains (conns_of_weights xs) x.conn → ⊥) → AreValidWeights (xs ++ x ∷ [])
sound-more xs x sound ranged new = record {
  ranged = All-push (λ w. IsWeight w.weight) xs x sound.ranged ranged;
  once = rw (conns-append xs (x ∷ [])) (IsDistinct-push nat_eq_equiv (conns_of_weights xs) x.conn sound.once (no_such (conns_of_weights xs) x.conn new));
}

pub sound-moved : (xs ys : List Weight) → IsPermutation xs ys → AreValidWeights xs → AreValidWeights ys
sound-moved xs ys moved sound = record {
  ranged = All-permutation (λ w. IsWeight w.weight) xs ys moved sound.ranged;
  once = keyed-moved (λ w. w.conn) xs ys moved sound.once;
}

get-append : {X : Type 0} (xs : List X) (y : X) (ys : List X) (d : X) → get_or (xs ++ y ∷ ys) (length xs) d ≡ y
get-append [] y ys d = refl
get-append (x ∷ xs) y ys d = get-append xs y ys d

get-before : {X : Type 0} (xs ys : List X) (k : ℕ) (d : X) → k < length xs → get_or (xs ++ ys) k d ≡ get_or xs k d
get-before [] ys k d within = absurd (omega arith)
get-before (x ∷ xs) ys zero d within = refl
get-before (x ∷ xs) ys (suc k) d within = get-before xs ys k d (omega arith)

longer : {X : Type 0} (xs : List X) (y : X) (ys : List X) → length xs < length (xs ++ y ∷ ys)
longer [] y ys = omega arith
longer (x ∷ xs) y ys = omega (arith, longer xs y ys)

-- no entry of a valid list has a fault
fault_is_none : (before : List Weight) (entry : Weight) (after : List Weight) (fault : WeightFault) → AreValidWeights (before ++ entry ∷ after) → IsAtFault before entry fault → ⊥
fault_is_none before entry after (Range conn) sound at =
    at.1 (subst (λ (w : Weight). IsWeight w.weight) (get-append before entry after entry)
    (sound.ranged (length before) entry (longer before entry after)))
fault_is_none before entry after (Twice conn) sound at =
    let there = at.2 in
    let names = conns-append before (entry ∷ after) in
    let once = rw names at sound.once in
    let far = longer (conns_of_weights before) entry.conn (conns_of_weights after) in
    let apart = apart_from_distinct nat_eq (conns_of_weights before ++ entry.conn ∷ conns_of_weights after) there.0 (length (conns_of_weights before)) conn once there.1 far in
    let same : get_or (conns_of_weights before ++ entry.conn ∷ conns_of_weights after) there.0 conn ≡ conn =
    get-before (conns_of_weights before) (entry.conn ∷ conns_of_weights after) there.0 conn there.1 ∙ there.2 in
    let last : get_or (conns_of_weights before ++ entry.conn ∷ conns_of_weights after) (length (conns_of_weights before)) conn ≡ entry.conn = get-append (conns_of_weights before) entry.conn (conns_of_weights after) conn in
    eqb-false _ _ apart (same ∙ at.0 ∙ sym last)
fault_is_none before entry after Memory sound at = at

pub sound_has_none : HasNoFaultIfValid
sound_has_none weights fault sound first = fault_is_none first.before first.entry first.after fault (subst AreValidWeights first.is sound) first.there

-- two ways to split a list at an item: at the same one, or one inside the prefix of the other
split_again : (xs : List Weight) (x : Weight) (rest : List Weight) (ys : List Weight) (y : Weight) (more : List Weight) → xs ++ x ∷ rest ≡ ys ++ y ∷ more
    → ((xs ≡ ys) × (x ≡ y)) ⊎ ((mid : List Weight) × (ys ≡ xs ++ x ∷ mid)) ⊎ ((mid : List Weight) × (xs ≡ ys ++ y ∷ mid))
split_again [] x rest [] y more same = inl (refl, cc)
split_again [] x rest (z ∷ zs) y more same = inr (inl (zs, cc))
split_again (z ∷ zs) x rest [] y more same = inr (inr (zs, cc))
split_again (z ∷ zs) x rest (w ∷ ws) y more same =
    let head : z ≡ w = cc in
    let tail : zs ++ x ∷ rest ≡ ws ++ y ∷ more = cc in
    elim (split_again zs x rest ws y more tail) [
      | inl equal ↦ inl (let e = equal.0 in cc, equal.1)
      | inr other ↦ elim other [
        | inl longer ↦ inr (inl (longer.0, let e = longer.1 in cc))
        | inr longer ↦ inr (inr (longer.0, let e = longer.1 in cc))
      ]
    ]

one_way : (before : List Weight) (entry : Weight) (fault other : WeightFault) → IsAtFault before entry fault → IsAtFault before entry other → fault ≡ other
one_way before entry (Range conn) (Range conn') at there = ap Range (at.0 ∙ sym there.0)
one_way before entry (Range conn) (Twice conn') at there = absurd (at.1 there.1)
one_way before entry (Range conn) Memory at there = absurd there
one_way before entry (Twice conn) (Range conn') at there = absurd (there.1 at.1)
one_way before entry (Twice conn) (Twice conn') at there = ap Twice (at.0 ∙ sym there.0)
one_way before entry (Twice conn) Memory at there = absurd there
one_way before entry Memory other at there = absurd at

pub faults_once : HasAtMostOneFault
faults_once weights fault other first second = elim (split_again first.before first.entry first.after second.before second.entry second.after (sym first.is ∙ second.is)) [
  | inl same ↦ one_way second.before second.entry fault other
      (subst (λ (e : Weight). IsAtFault second.before e fault) same.1
      (subst (λ (b : List Weight). IsAtFault b first.entry fault) same.0 first.there)) second.there
  | inr nested ↦ elim nested [
    | inl longer ↦ absurd (fault_is_none first.before first.entry longer.0 fault (subst AreValidWeights longer.1 second.sound) first.there)
    | inr longer ↦ absurd (fault_is_none second.before second.entry longer.0 other (subst AreValidWeights longer.1 first.sound) second.there)
  ]
]

range_or_not : (n : ℕ) → IsWeight n ⊎ (IsWeight n → ⊥)
range_or_not n = elim (cases_lt n 1) [
  | inl low ↦ inr (λ within. omega (arith, within.0))
  | inr least ↦ elim (cases_lt 100 n) [ inl high ↦ inr (λ within. omega (arith, within.1)) | inr most ↦ inl (least, most) ]
]

there_or_none : (ns : List ℕ) (n : ℕ) → Contains ns n ⊎ (Contains ns n → ⊥)
there_or_none ns n = elim (bool_cases (list_any (nat_eq n) ns)) [
  | inl any ↦ inl (Contains-from_any (λ x y same. eqb-true x y same) n ns any)
  | inr none ↦ inr (λ there. let any = list_any-from_Contains nat_eq_equiv n ns there in cc)
]

sound_or_fault_from : (done rest : List Weight) → AreValidWeights done → AreValidWeights (done ++ rest) ⊎ ((fault : WeightFault) × IsFirstFault (done ++ rest) fault)
sound_or_fault_from done [] sound = inl (rw append-nil sound)
sound_or_fault_from done (entry ∷ rest) sound = elim (range_or_not entry.weight) [
  | inr out ↦ inr (Range entry.conn, record { before = done; entry = entry; after = rest; is = refl; sound = sound; there = (refl, out) })
  | inl within ↦ elim (there_or_none (conns_of_weights done) entry.conn) [
    | inl there ↦ inr (Twice entry.conn, record { before = done; entry = entry; after = rest; is = refl; sound = sound; there = (refl, within, there) })
    | inr new ↦ rw (sym (append_assoc done (entry ∷ []) rest)) (sound_or_fault_from (done ++ entry ∷ []) rest (sound-more done entry sound within new))
  ]
]

pub sound_or_fault : IsValidOrFaulty
sound_or_fault weights = sound_or_fault_from [] weights sound-nil
