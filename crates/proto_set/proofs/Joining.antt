-- The order in which reached files are resolved.
use Rattle.std.proofs.Common.{◌≡◌, ◌≢◌, ℕ, suc, ◌+◌, ◌<◌, ◌≤◌, inl, inr, false, List, [], ◌∷◌, ◌++◌, length, get_or}
use Rattle.std.proofs.Common.{take, refl, sym, ap, ◌∙◌, subst, arith, add-one}
use Rattle.std.specs.Prelude.{Contains, All, Some, slice_get}
use Rattle.std.specs.Borrow.{Bor}
use Rattle.std.specs.List.Sorted.{IsPermutation, IsSorted}
use Rattle.std.specs.Cmp.Lexicographic.{slice_cmp}
use Rattle.std.specs.Ordering.{is_lt, nat_cmp, ordering_then}
use Rattle.std.specs.declared.cmp.Ordering.{Ordering}
use Rattle.std.specs.declared.cmp.Ordering.TheVariants.{Equal}
use Rattle.std.proofs.lemmas.Bool.{cases_lt, cases_eq}
use Rattle.std.proofs.lemmas.Cmp.{nat_list_cmp_total}
use Rattle.std.proofs.lemmas.Map.Lookups.{exact_bytes}
use Rattle.std.proofs.lemmas.Option.{slice_get_within}
use Rattle.std.proofs.lemmas.List.{get_or-map, length-map, map_push, take_all, take_more}
use Rattle.std.proofs.lemmas.List.Elements.{All-push, Contains-append_left, Contains-push, Contains-push_cases}
use Rattle.std.proofs.lemmas.List.Sorted.{IsPermutation-map, IsPermutation-sym, All-permutation, Contains-permutation}
use Rattle.mrpc_table.specs.Valid.{IsBelow}
use Rattle.proto_set.specs.Importing.{HasPath, IsReachable, here}
use Rattle.proto_set.specs.Reaching.{IsPathBelow, IsResolutionOrder, AreOthers, places_in}
use Rattle.proto_set.specs.Traversing.{AreReached}
use Rattle.proto_set.specs.declared.set.ParsedFile.{ParsedFile}
use Rattle.proto_set.specs.declared.traversal.VisitState.{VisitState}
use Rattle.proto_set.specs.declared.traversal.VisitState.TheVariants.{Left}
use Rattle.proto_set.proofs.Visited.{ArePathsApart, cons_here, cons_more, cons_cases}
use Rattle.proto_set.proofs.Placing.{path_of}
use Rattle.proto_set.proofs.Walked.{Once, once_push}
use Rattle.proto_set.proofs.Sorting.{AreApart, apart_distinct, apart_moved, ascends_from, less_from, element, once_apart}

abbrev pub Pair : Type 0
Pair = Bor (List ℕ) × ℕ

abbrev pub place_of : Pair → ℕ
place_of p = p.1

abbrev pub AreNamed : List ParsedFile → List Pair → Type 0
AreNamed set pairs = All (λ (p : Pair). HasPath set p.1 p.0.now) pairs

-- the finished files before index i, except the root
pub record OthersBefore (set : List ParsedFile) (marks : List VisitState) (i : ℕ) (pairs : List Pair) : Type 0 where
  pub named : AreNamed set pairs
  pub those : (k : ℕ) → (Contains (places_in pairs) k → (k ≢ 0) × (k < i) × (slice_get marks k ≡ Some Left))
      × ((k ≢ 0) × (k < i) × (slice_get marks k ≡ Some Left) → Contains (places_in pairs) k)
  pub once : Once (places_in pairs)

pub others_none : (set : List ParsedFile) (marks : List VisitState) (pairs : List Pair) → pairs ≡ [] → OthersBefore set marks 1 pairs
others_none set marks pairs e = subst (OthersBefore set marks 1) (sym e) (record {
  named = λ k d l. absurd (omega arith);
  those = λ k. (
    λ c. absurd (let l : c.0 < 0 = c.1 in omega arith),
    λ h. absurd (h.0 (omega (arith, h.1))),
  );
  once = λ p q x a b. absurd cc;
})

pub others_more : (set : List ParsedFile) (marks : List VisitState) (i : ℕ) (d : ParsedFile) (path : Bor (List ℕ))
    (old new : List Pair) → i < length set → 1 ≤ i → slice_get marks i ≡ Some Left → path.now ≡ (get_or set i d).path
    → new ≡ old ++ (path, i) ∷ [] → OthersBefore set marks i old → OthersBefore set marks (i + 1) new
others_more set marks i d path old new l some left is e h =
    let places : places_in (old ++ (path, i) ∷ []) ≡ places_in old ++ i ∷ [] = map_push place_of old (path, i) in
    let at : HasPath set i path.now = subst (HasPath set i) (sym is) (path_of set i d l) in
    subst (OthersBefore set marks (i + 1)) (sym e) (record {
      named = All-push (λ (p : Pair). HasPath set p.1 p.0.now) old (path, i) h.named at;
      those = λ k. (
        λ c. elim (Contains-push_cases (places_in old) i k (subst (λ (ks : List ℕ). Contains ks k) places c)) [
          | inl before ↦ let p = (h.those k).0 before in (p.0, omega (arith, p.1), p.2)
          | inr same ↦ (
            λ z. omega (arith, same, z),
            omega (arith, same),
            subst (λ (j : ℕ). slice_get marks j ≡ Some Left) same left,
          )
        ],
        λ p. subst (λ (ks : List ℕ). Contains ks k) (sym places) (elim (cases_lt k i) [
          | inl before ↦ Contains-append_left (places_in old) (i ∷ []) k ((h.those k).1 (p.0, before, p.2))
          | inr now ↦
              let same : i ≡ k = omega (arith, p.1) in
              subst (Contains (places_in old ++ i ∷ [])) same (Contains-push (places_in old) i)
        ]),
      );
      once = subst (λ (ks : List ℕ). Once ks) (sym places)
          (once_push (places_in old) i (λ c. (let p = (h.those i).0 c in omega (arith, p.1))) h.once);
    })

pub others_skip : (set : List ParsedFile) (marks : List VisitState) (i : ℕ) (old new : List Pair)
    → (slice_get marks i ≡ Some Left → ⊥) → new ≡ old → OthersBefore set marks i old
    → OthersBefore set marks (i + 1) new
others_skip set marks i old new other e h = subst (OthersBefore set marks (i + 1)) (sym e) (record {
  named = h.named;
  those = λ k. (
    λ c. (let p = (h.those k).0 c in (p.0, omega (arith, p.1), p.2)),
    λ p. elim (cases_lt k i) [
      | inl before ↦ (h.those k).1 (p.0, before, p.2)
      | inr now ↦ let same : k ≡ i = omega (arith, p.1) in absurd (other (subst (λ (j : ℕ). slice_get marks j ≡ Some Left) same p.2))
    ],
  );
  once = h.once;
})

-- ---- in order

abbrev pub pair_cmp : Pair → Pair → Ordering
pair_cmp p q = ordering_then (slice_cmp nat_cmp p.0.now q.0.now) (nat_cmp p.1 q.1)

sorted_step : (set : List ParsedFile) (sorted : List Pair) → ArePathsApart set → AreNamed set sorted
    → AreApart (places_in sorted) → IsSorted pair_cmp sorted → (k d : ℕ) → suc k < length sorted
    → IsPathBelow set (get_or (places_in sorted) k d) (get_or (places_in sorted) (suc k) d)
sorted_step set sorted own named apart ascends k d m =
    let n : k < length sorted = omega arith in
    let x = element sorted k n in
    let y = element sorted (suc k) m in
    let xn : HasPath set x.0.1 x.0.0.now = subst (λ (p : Pair). HasPath set p.1 p.0.now) (x.1 x.0) (named k x.0 n) in
    let yn : HasPath set y.0.1 y.0.0.now = subst (λ (p : Pair). HasPath set p.1 p.0.now) (y.1 y.0) (named (suc k) y.0 m) in
    let xi : get_or (places_in sorted) k d ≡ x.0.1 = get_or-map place_of sorted k x.0 d n ∙ ap place_of (x.1 x.0) in
    let yi : get_or (places_in sorted) (suc k) d ≡ y.0.1 = get_or-map place_of sorted (suc k) y.0 d m ∙ ap place_of (y.1 y.0) in
    let apart_here : slice_cmp nat_cmp y.0.0.now x.0.0.now ≡ Equal → ⊥ =
    λ e. (let f : y.0.0.now ≡ x.0.0.now = exact_bytes y.0.0.now x.0.0.now e in
    let same : y.0.1 ≡ x.0.1 = own.one yn (subst (HasPath set x.0.1) (sym f) xn) in
    let g : suc k ≡ k = apart (suc k) k d (omega (arith, length-map sorted place_of)) (omega (arith, length-map sorted place_of)) (yi ∙ same ∙ sym xi) in
    omega arith) in
    let less : is_lt (pair_cmp y.0 x.0) ≡ false =
    subst (λ (p : Pair). is_lt (pair_cmp y.0 p) ≡ false) (x.1 x.0)
    (subst (λ (p : Pair). is_lt (pair_cmp p (get_or sorted k x.0)) ≡ false) (y.1 x.0)
    (subst (λ (i : ℕ). is_lt (pair_cmp (get_or sorted i x.0) (get_or sorted k x.0)) ≡ false) (add-one k)
    (ascends k x.0 (omega arith) (omega (arith, add-one k))))) in
    let below : IsBelow x.0.0.now y.0.0.now =
    less_from (slice_cmp nat_cmp) nat_list_cmp_total x.0.0.now y.0.0.now (nat_cmp y.0.1 x.0.1) apart_here less in
    let pair : IsPathBelow set x.0.1 y.0.1 = record { lower = x.0.0.now; upper = y.0.0.now; lower_at = xn; upper_at = yn; below = below } in
    subst (λ (i : ℕ). IsPathBelow set i (get_or (places_in sorted) (suc k) d)) (sym xi) (subst (IsPathBelow set x.0.1) (sym yi) pair)

pub others_sorted : (set : List ParsedFile) (marks : List VisitState) (n : ℕ) (pairs sorted : List Pair) → ArePathsApart set
    → length marks ≤ n → OthersBefore set marks n pairs → IsPermutation pairs sorted → IsSorted pair_cmp sorted
    → AreOthers set marks sorted
others_sorted set marks n pairs sorted own all h moved ascends =
    let places = IsPermutation-map place_of pairs sorted moved in
    let apart : AreApart (places_in sorted) = apart_moved (places_in pairs) (places_in sorted) places (once_apart (places_in pairs) h.once) in
    let named : AreNamed set sorted = All-permutation (λ (p : Pair). HasPath set p.1 p.0.now) pairs sorted moved h.named in
    record {
      distinct = apart_distinct (places_in sorted) apart;
      those = λ k. (
        λ c. (let p = (h.those k).0 (Contains-permutation (places_in sorted) (places_in pairs) k (IsPermutation-sym (places_in pairs) (places_in sorted) places) c) in (p.0, p.2)),
        λ p. Contains-permutation (places_in pairs) (places_in sorted) k places
            ((h.those k).1 (p.0, omega (arith, slice_get_within marks k Left p.1), p.1)),
      );
      ascend = ascends_from (IsPathBelow set) (places_in sorted)
          (λ k d l. sorted_step set sorted own named apart ascends k d (omega (arith, length-map sorted place_of)));
    }

-- ---- the resolved order

pub order_more : (pairs : List Pair) (i : ℕ) (d : Pair) (old new : List ℕ) → i < length pairs
    → old ≡ 0 ∷ take i (places_in pairs) → new ≡ old ++ (get_or pairs i d).1 ∷ []
    → new ≡ 0 ∷ take (i + 1) (places_in pairs)
order_more pairs i d old new l was e =
    let within : i < length (places_in pairs) = omega (arith, length-map pairs place_of) in
    e ∙ ap (λ (ks : List ℕ). ks ++ (get_or pairs i d).1 ∷ []) was
    ∙ ap (λ (k : ℕ). 0 ∷ (take i (places_in pairs) ++ k ∷ [])) (sym (get_or-map place_of pairs i d 0 l))
    ∙ ap (λ (ks : List ℕ). 0 ∷ ks) (sym (take_more (places_in pairs) i 0 within))

pub joined_is : (set : List ParsedFile) (marks : List VisitState) (pairs : List Pair) (i : ℕ) (order : List ℕ)
    → length pairs ≤ i → order ≡ 0 ∷ take i (places_in pairs) → AreOthers set marks pairs → AreReached set marks
    → IsResolutionOrder set order
joined_is set marks pairs i order all e h reached =
    let is : order ≡ 0 ∷ places_in pairs = e ∙ ap (λ (ks : List ℕ). 0 ∷ ks) (take_all i (places_in pairs) (omega (arith, length-map pairs place_of))) in
    subst (IsResolutionOrder set) (sym is) (record {
      others = places_in pairs;
      root_first = refl;
      ascend = h.ascend;
      reached = λ j. (
        λ c. elim (cons_cases 0 (places_in pairs) j c) [
          | inl root ↦ subst (IsReachable set 0) root here
          | inr other ↦ (reached.those j).0 ((h.those j).0 other).1
        ],
        λ r. elim (cases_eq j 0) [
          | inl root ↦ subst (Contains (0 ∷ places_in pairs)) (sym root) (cons_here 0 (places_in pairs))
          | inr other ↦ cons_more 0 (places_in pairs) j ((h.those j).1 (other, (reached.those j).1 r))
        ],
      );
      once = (λ c. ((h.those 0).0 c).0 refl, h.distinct);
    })
