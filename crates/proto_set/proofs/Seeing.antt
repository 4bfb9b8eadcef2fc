-- The files that a file sees.
use Rattle.std.proofs.Common.{◌≡◌, ℕ, zero, suc, ◌+◌, ◌<◌, ◌≤◌, ◌⊎◌, inl, inr, Bool, true, false, List, [], ◌∷◌, ◌++◌}
use Rattle.std.proofs.Common.{length, get_or, set, take, replicate, refl, sym, ap, ◌∙◌, subst, arith, length-set}
use Rattle.std.specs.Prelude.{Contains, All, Some, slice_get, Result, Ok, Err, IfOk}
use Rattle.std.specs.List.{AllZip}
use Rattle.std.proofs.lemmas.Bool.{cases_lt, cases_eq}
use Rattle.std.proofs.lemmas.List.{take_more, take_all, length_push, length-replicate, get_or_append_left}
use Rattle.std.proofs.lemmas.List.Elements.{All-push, Contains-append_left, Contains-push, Contains-push_cases}
use Rattle.std.proofs.lemmas.Option.{slice_get_within, same_Some, slice_get-get_or}
use Rattle.mrpc_table.specs.Valid.{IsAscendingBy}
use Rattle.proto_set.specs.Importing.{IsPublicImport, IsVisible, itself, imported, publicly}
use Rattle.proto_set.specs.Linking.{AreLinks}
use Rattle.proto_set.specs.Reaching.{AreVisible}
use Rattle.proto_set.specs.Seeing.{IsSeenFile, unmarked, HasSeenMore, IsLinked, IsLinkedPublicly, IsSeenSoFar}
use Rattle.proto_set.specs.declared.set.ParsedFile.{ParsedFile}
use Rattle.proto_set.specs.declared.links.ImportLink.{ImportLink}
use Rattle.proto_set.specs.declared.seen.SeenFiles.{SeenFiles}
use Rattle.proto_set.proofs.Visited.{ArePathsApart}
use Rattle.proto_set.proofs.Linked.{get_push, get_front, get_last, get_set_same, get_set_other, link_leads, link_public, link_of, link_file}
use Rattle.proto_set.proofs.Sorting.{ascends_push}

-- ---- one more file

unmarked_one : (bs : List Bool) (i : ℕ) → slice_get bs i ≡ Some false → unmarked (set bs i true) + 1 ≡ unmarked bs
unmarked_one [] i e = absurd cc
unmarked_one (false ∷ bs) zero e = refl
unmarked_one (true ∷ bs) zero e = absurd cc
unmarked_one (false ∷ bs) (suc i) e = omega (arith, unmarked_one bs i e)
unmarked_one (true ∷ bs) (suc i) e = unmarked_one bs i e

pub more_none : (file : ℕ) (old new : SeenFiles) → new.marks.items ≡ old.marks.items → new.next.items ≡ old.next.items → IsSeenFile old file → HasSeenMore (λ i. i ≡ file) old new
more_none file old new marks next at = record {
  count = ap length marks;
  keeps = λ i m. ap (λ (bs : List Bool). slice_get bs i) marks ∙ m;
  those = λ i e. ap (λ (bs : List Bool). slice_get bs i) marks ∙ subst (IsSeenFile old) (sym e) at;
  alone = λ i m. inl (sym (ap (λ (bs : List Bool). slice_get bs i) marks) ∙ m);
  waits = λ i c. subst (λ (ks : List ℕ). Contains ks i) (sym next) c;
  fresh = λ i c. inl (subst (λ (ks : List ℕ). Contains ks i) next c);
  within = λ all. subst (λ (ks : List ℕ). All (λ i. i < length new.marks.items) ks) (sym next)
      (subst (λ (n : ℕ). All (λ i. i < n) old.next.items) (sym (ap length marks)) all);
  less = omega (arith, ap unmarked marks, ap length next);
}

pub more_one : (file : ℕ) (old new : SeenFiles) → slice_get old.marks.items file ≡ Some false
    → new.marks.items ≡ set old.marks.items file true → new.next.items ≡ old.next.items ++ file ∷ []
    → HasSeenMore (λ i. i ≡ file) old new
more_one file old new at marks next =
    let count : length new.marks.items ≡ length old.marks.items = ap length marks ∙ length-set old.marks.items file true in
    let here : IsSeenFile new file =
    ap (λ (bs : List Bool). slice_get bs file) marks ∙ get_set_same old.marks.items file true (slice_get_within old.marks.items file false at) in
    let last : Contains new.next.items file = subst (λ (ks : List ℕ). Contains ks file) (sym next) (Contains-push old.next.items file) in
    record {
      count = count;
      keeps = λ i m. elim (cases_eq i file) [
        | inl same ↦ subst (IsSeenFile new) (sym same) here
        | inr other ↦ ap (λ (bs : List Bool). slice_get bs i) marks ∙ get_set_other old.marks.items file i true other ∙ m
      ];
      those = λ i e. subst (IsSeenFile new) (sym e) here;
      alone = λ i m. elim (cases_eq i file) [
        | inl same ↦ inr (same, subst (Contains new.next.items) (sym same) last)
        | inr other ↦ inl (sym (ap (λ (bs : List Bool). slice_get bs i) marks ∙ get_set_other old.marks.items file i true other) ∙ m)
      ];
      waits = λ i c. subst (λ (ks : List ℕ). Contains ks i) (sym next) (Contains-append_left old.next.items (file ∷ []) i c);
      fresh = λ i c. elim (Contains-push_cases old.next.items file i (subst (λ (ks : List ℕ). Contains ks i) next c)) [
        | inl before ↦ inl before
        | inr same ↦ inr (sym same)
      ];
      within = λ all. subst (λ (ks : List ℕ). All (λ i. i < length new.marks.items) ks) (sym next)
          (subst (λ (n : ℕ). All (λ i. i < n) (old.next.items ++ file ∷ [])) (sym count)
          (All-push (λ (i : ℕ). i < length old.marks.items) old.next.items file all (slice_get_within old.marks.items file false at)));
      less = omega (arith, ap unmarked marks, unmarked_one old.marks.items file at, ap length next, length_push old.next.items file);
    }

-- ---- one after another

pub more_start : (P : ℕ → Type 0) (s : SeenFiles) → ((i : ℕ) → P i → ⊥) → HasSeenMore P s s
more_start P s none = record {
  count = refl;
  keeps = λ i m. m;
  those = λ i p. absurd (none i p);
  alone = λ i m. inl m;
  waits = λ i c. c;
  fresh = λ i c. inl c;
  within = λ all. all;
  less = omega arith;
}

pub more_then : (P Q R : ℕ → Type 0) (a b c : SeenFiles) → HasSeenMore P a b → HasSeenMore Q b c → ((i : ℕ) → R i → P i ⊎ Q i)
    → ((i : ℕ) → P i → R i) → ((i : ℕ) → Q i → R i) → HasSeenMore R a c
more_then P Q R a b c f g split left right = record {
  count = g.count ∙ f.count;
  keeps = λ i m. g.keeps i (f.keeps i m);
  those = λ i r. elim (split i r) [ inl p ↦ g.keeps i (f.those i p) | inr q ↦ g.those i q ];
  alone = λ i m. elim (g.alone i m) [
    | inl before ↦ elim (f.alone i before) [
      | inl older ↦ inl older
      | inr new ↦ inr (left i new.0, g.waits i new.1)
    ]
    | inr new ↦ inr (right i new.0, new.1)
  ];
  waits = λ i k. g.waits i (f.waits i k);
  fresh = λ i k. elim (g.fresh i k) [
    | inl before ↦ elim (f.fresh i before) [ inl older ↦ inl older | inr p ↦ inr (left i p) ]
    | inr q ↦ inr (right i q)
  ];
  within = λ all. g.within (f.within all);
  less = omega (arith, f.less, g.less);
}

pub more_as : (P Q : ℕ → Type 0) (a b : SeenFiles) → ((i : ℕ) → P i → Q i) → ((i : ℕ) → Q i → P i) → HasSeenMore P a b → HasSeenMore Q a b
more_as P Q a b to from f = record {
  count = f.count;
  keeps = f.keeps;
  those = λ i q. f.those i (from i q);
  alone = λ i m. elim (f.alone i m) [ inl old ↦ inl old | inr new ↦ inr (to i new.0, new.1) ];
  waits = f.waits;
  fresh = λ i c. elim (f.fresh i c) [ inl old ↦ inl old | inr p ↦ inr (to i p) ];
  within = f.within;
  less = f.less;
}

-- ---- the imports of a file

pub linked_none : (j : ℕ) → IsLinked [] j → ⊥
linked_none j h = let e = h.2 in cc

linked_cases : (xs : List ImportLink) (x : ImportLink) (j : ℕ) → IsLinked (xs ++ x ∷ []) j → IsLinked xs j ⊎ (j ≡ x.file)
linked_cases xs x j h = elim (get_push xs x h.1 h.0 h.2) [
  | inl old ↦ inl (h.0, h.1, old, h.3)
  | inr new ↦ inr (sym h.3 ∙ ap (λ (l : ImportLink). l.file) (sym new.1))
]

linked_front : (xs : List ImportLink) (x : ImportLink) (j : ℕ) → IsLinked xs j → IsLinked (xs ++ x ∷ []) j
linked_front xs x j h = (h.0, h.1, get_front xs x h.1 h.0 h.2, h.3)

linked_last : (xs : List ImportLink) (x : ImportLink) (j : ℕ) → j ≡ x.file → IsLinked (xs ++ x ∷ []) j
linked_last xs x j e = (length xs, x, get_last xs x, sym e)

pub linked_more : (links : List ImportLink) (i : ℕ) (d : ImportLink) (a b c : SeenFiles) → i < length links
    → HasSeenMore (IsLinked (take i links)) a b → HasSeenMore (λ k. k ≡ (get_or links i d).file) b c
    → HasSeenMore (IsLinked (take (i + 1) links)) a c
linked_more links i d a b c l f g =
    let x = get_or links i d in
    let xs = take i links in
    subst (λ (ls : List ImportLink). HasSeenMore (IsLinked ls) a c) (sym (take_more links i d l))
    (more_then (IsLinked xs) (λ k. k ≡ x.file) (IsLinked (xs ++ x ∷ [])) a b c f g (linked_cases xs x) (linked_front xs x) (linked_last xs x))

pub linked_all : (links : List ImportLink) (i : ℕ) (a b : SeenFiles) → length links ≤ i → HasSeenMore (IsLinked (take i links)) a b → HasSeenMore (IsLinked links) a b
linked_all links i a b l f = subst (λ (ls : List ImportLink). HasSeenMore (IsLinked ls) a b) (take_all i links l) f

pub public_none : (j : ℕ) → IsLinkedPublicly [] j → ⊥
public_none j h = let e = h.2 in cc

public_cases : (xs : List ImportLink) (x : ImportLink) (j : ℕ) → IsLinkedPublicly (xs ++ x ∷ []) j → IsLinkedPublicly xs j ⊎ ((j ≡ x.file) × (x.public ≡ true))
public_cases xs x j h = elim (get_push xs x h.1 h.0 h.2) [
  | inl old ↦ inl (h.0, h.1, old, h.3, h.4)
  | inr new ↦ inr (sym h.4 ∙ ap (λ (l : ImportLink). l.file) (sym new.1), ap (λ (l : ImportLink). l.public) new.1 ∙ h.3)
]

public_front : (xs : List ImportLink) (x : ImportLink) (j : ℕ) → IsLinkedPublicly xs j → IsLinkedPublicly (xs ++ x ∷ []) j
public_front xs x j h = (h.0, h.1, get_front xs x h.1 h.0 h.2, h.3, h.4)

public_last : (xs : List ImportLink) (x : ImportLink) → x.public ≡ true → (j : ℕ) → j ≡ x.file → IsLinkedPublicly (xs ++ x ∷ []) j
public_last xs x is j e = (length xs, x, get_last xs x, is, sym e)

pub public_more : (links : List ImportLink) (i : ℕ) (d : ImportLink) (a b c : SeenFiles) → i < length links
    → (get_or links i d).public ≡ true → HasSeenMore (IsLinkedPublicly (take i links)) a b
    → HasSeenMore (λ k. k ≡ (get_or links i d).file) b c → HasSeenMore (IsLinkedPublicly (take (i + 1) links)) a c
public_more links i d a b c l is f g =
    let x = get_or links i d in
    let xs = take i links in
    subst (λ (ls : List ImportLink). HasSeenMore (IsLinkedPublicly ls) a c) (sym (take_more links i d l))
    (more_then (IsLinkedPublicly xs) (λ k. k ≡ x.file) (IsLinkedPublicly (xs ++ x ∷ [])) a b c f g
    (λ k h. elim (public_cases xs x k h) [ inl old ↦ inl old | inr new ↦ inr new.0 ]) (public_front xs x) (public_last xs x is))

pub public_skip : (links : List ImportLink) (i : ℕ) (d : ImportLink) (a b : SeenFiles) → i < length links
    → (get_or links i d).public ≡ false → HasSeenMore (IsLinkedPublicly (take i links)) a b
    → HasSeenMore (IsLinkedPublicly (take (i + 1) links)) a b
public_skip links i d a b l is f =
    let x = get_or links i d in
    let xs = take i links in
    subst (λ (ls : List ImportLink). HasSeenMore (IsLinkedPublicly ls) a b) (sym (take_more links i d l))
    (more_as (IsLinkedPublicly xs) (IsLinkedPublicly (xs ++ x ∷ [])) a b (public_front xs x)
    (λ k h. elim (public_cases xs x k h) [ inl old ↦ old | inr new ↦ absurd (let e = sym is ∙ new.1 in let bad : false ≡ true = e in cc) ]) f)

pub public_all : (links : List ImportLink) (i : ℕ) (a b : SeenFiles) → length links ≤ i → HasSeenMore (IsLinkedPublicly (take i links)) a b → HasSeenMore (IsLinkedPublicly links) a b
public_all links i a b l f = subst (λ (ls : List ImportLink). HasSeenMore (IsLinkedPublicly ls) a b) (take_all i links l) f

-- ---- the indices that are marked

pub record PlacesBefore (marks : List Bool) (i : ℕ) (places : List ℕ) : Type 0 where
  pub those : (k : ℕ) → (Contains places k → (k < i) × (slice_get marks k ≡ Some true)) × ((k < i) × (slice_get marks k ≡ Some true) → Contains places k)
  pub ascend : IsAscendingBy ◌<◌ places

pub places_none : (marks : List Bool) (places : List ℕ) → places ≡ [] → PlacesBefore marks 0 places
places_none marks places e = subst (PlacesBefore marks 0) (sym e) (record {
  those = λ k. (λ c. absurd (let l : c.0 < 0 = c.1 in omega arith), λ p. absurd (omega (arith, p.0)));
  ascend = tt;
})

pub places_more : (marks : List Bool) (i : ℕ) (old new : List ℕ) → slice_get marks i ≡ Some true → new ≡ old ++ i ∷ []
    → PlacesBefore marks i old → PlacesBefore marks (i + 1) new
places_more marks i old new at e h = subst (PlacesBefore marks (i + 1)) (sym e) (record {
  those = λ k. (
    λ c. elim (Contains-push_cases old i k c) [
      | inl before ↦ let p = (h.those k).0 before in (omega (arith, p.0), p.1)
      | inr same ↦ (omega (arith, same), subst (λ (j : ℕ). slice_get marks j ≡ Some true) same at)
    ],
    λ p. elim (cases_lt k i) [
      | inl before ↦ Contains-append_left old (i ∷ []) k ((h.those k).1 (before, p.1))
      | inr now ↦ let same : i ≡ k = omega (arith, p.0) in subst (Contains (old ++ i ∷ [])) same (Contains-push old i)
    ],
  );
  ascend = ascends_push old i (λ k c. ((h.those k).0 c).0) h.ascend;
})

pub places_skip : (marks : List Bool) (i : ℕ) (old new : List ℕ) → slice_get marks i ≡ Some false → new ≡ old → PlacesBefore marks i old → PlacesBefore marks (i + 1) new
places_skip marks i old new at e h = subst (PlacesBefore marks (i + 1)) (sym e) (record {
  those = λ k. (
    λ c. (let p = (h.those k).0 c in (omega (arith, p.0), p.1)),
    λ p. elim (cases_lt k i) [
      | inl before ↦ (h.those k).1 (before, p.1)
      | inr now ↦
          let same : k ≡ i = omega (arith, p.0) in
          let both : Some false ≡ Some true = sym at ∙ subst (λ (j : ℕ). slice_get marks j ≡ Some true) same p.1 in
          absurd (let bad : false ≡ true = same_Some false true both in cc)
    ],
  );
  ascend = h.ascend;
})

pub places_those : (marks : List Bool) (i : ℕ) (places : List ℕ) → length marks ≤ i → PlacesBefore marks i places
    → (k : ℕ) → (Contains places k → slice_get marks k ≡ Some true) × (slice_get marks k ≡ Some true
    → Contains places k)
places_those marks i places all h k = (
  λ c. ((h.those k).0 c).1,
  λ e. (h.those k).1 (omega (arith, slice_get_within marks k true e), e),
)

-- ---- the files seen so far

no_element : {k : ℕ} → Contains {X = ℕ} [] k → ⊥
no_element c = absurd (let l : c.0 < 0 = c.1 in omega arith)

none_marked : (n k : ℕ) → slice_get (replicate n false) k ≡ Some true → ⊥
none_marked zero k e = cc
none_marked (suc n) zero e = let bad : Some false ≡ Some true = e in let worse : false ≡ true = same_Some false true bad in cc
none_marked (suc n) (suc k) e = none_marked n k e

pub links_within : {set' : List ParsedFile} {i : ℕ} {links : List ImportLink} → AreLinks set' i links → (n : ℕ) → n ≡ length set' → All (λ l. l.file < n) links
links_within {set'} {i} {links} h n e = λ k d l.
    omega (arith, link_file (link_leads h k (get_or links k d) (slice_get-get_or links k d l)))

pub sees_start : (set' : List ParsedFile) (i n : ℕ) (links : List ImportLink) (a b c : SeenFiles) → ArePathsApart set'
    → n ≡ length set' → AreLinks set' i links → a.marks.items ≡ replicate n false → a.next.items ≡ []
    → HasSeenMore (λ k. k ≡ i) a b → HasSeenMore (IsLinked links) b c → IsSeenSoFar set' i c
sees_start set' i n links a b c own count known marks next one all =
    let alone : (j : ℕ) → IsSeenFile c j → ((j ≡ i) ⊎ IsLinked links j) × Contains c.next.items j =
    λ j m. elim (all.alone j m) [
      | inl before ↦ elim (one.alone j before) [
        | inl older ↦ absurd (none_marked n j (sym (ap (λ (bs : List Bool). slice_get bs j) marks) ∙ older))
        | inr new ↦ (inl new.0, all.waits j new.1)
      ]
      | inr new ↦ (inr new.0, new.1)
    ] in
    let sees : (j : ℕ) → (j ≡ i) ⊎ IsLinked links j → IsVisible set' i j =
    λ j h. elim h [
      | inl same ↦ subst (IsVisible set' i) (sym same) itself
      | inr link ↦ subst (IsVisible set' i) link.3 (imported (link_leads known link.0 link.1 link.2))
    ] in
    let total : length c.marks.items ≡ length set' = all.count ∙ one.count ∙ ap length marks ∙ length-replicate n false ∙ count in
    record {
      count = total;
      sound = λ j m. sees j (alone j m).0;
      start = all.keeps i (one.those i refl);
      imported = λ m j l. (let link = link_of own known l in all.those j (m, link.link, link.at, link.file));
      closed = λ j m k marked l. inr (alone j marked).1;
      waiting = λ j k. elim (all.fresh j k) [
        | inl before ↦ elim (one.fresh j before) [
          | inl older ↦ absurd (no_element (subst (λ (ks : List ℕ). Contains ks j) next older))
          | inr same ↦ sees j (inl same)
        ]
        | inr link ↦ sees j (inr link)
      ];
      within = subst (λ (m : ℕ). All (λ j. j < m) c.next.items) total
          (all.within (one.within (subst (λ (ks : List ℕ). All (λ j. j < length a.marks.items) ks) (sym next) (λ k d l. absurd (omega arith)))));
    }

front_within : (xs : List ℕ) (x n : ℕ) → All (λ k. k < n) (xs ++ x ∷ []) → All (λ k. k < n) xs
front_within xs x n h = λ k d l.
    subst (λ (y : ℕ). y < n) (get_or_append_left xs (x ∷ []) d k l) (h k d (omega (arith, length_push xs x)))

pub sees_more : (set' : List ParsedFile) (i j : ℕ) (links : List ImportLink) (old popped new : SeenFiles) → ArePathsApart set'
    → AreLinks set' j links → popped.marks.items ≡ old.marks.items → old.next.items ≡ popped.next.items ++ j ∷ []
    → HasSeenMore (IsLinkedPublicly links) popped new → IsSeenSoFar set' i old → IsSeenSoFar set' i new
sees_more set' i j links old popped new own known marks next more h =
    let was : (k : ℕ) → IsSeenFile old k → IsSeenFile popped k = λ k m. ap (λ (bs : List Bool). slice_get bs k) marks ∙ m in
    let is : (k : ℕ) → IsSeenFile popped k → IsSeenFile old k = λ k m. sym (ap (λ (bs : List Bool). slice_get bs k) marks) ∙ m in
    let here : IsVisible set' i j = h.waiting j (subst (λ (ks : List ℕ). Contains ks j) (sym next) (Contains-push popped.next.items j)) in
    let sees : (k : ℕ) → IsLinkedPublicly links k → IsVisible set' i k =
    λ k l. subst (IsVisible set' i) l.4 (publicly here (link_public known l.0 l.1 l.2 l.3)) in
    let total : length new.marks.items ≡ length set' = more.count ∙ ap length marks ∙ h.count in
    record {
      count = total;
      sound = λ k m. elim (more.alone k m) [ inl before ↦ h.sound k (is k before) | inr now ↦ sees k now.0 ];
      start = more.keeps i (was i h.start);
      imported = λ n k l. more.keeps k (was k (h.imported n k l));
      closed = λ a n k marked l. elim (more.alone a marked) [
        | inl before ↦ elim (h.closed a n k (is a before) l) [
          | inl done ↦ inl (more.keeps k (was k done))
          | inr waits ↦ elim (Contains-push_cases popped.next.items j a (subst (λ (ks : List ℕ). Contains ks a) next waits)) [
            | inl still ↦ inr (more.waits a still)
            | inr same ↦
                let lead : IsPublicImport set' j n k = subst (λ (x : ℕ). IsPublicImport set' x n k) (sym same) l in
                let link = link_of own known lead.leads in
                inl (more.those k (n, link.link, link.at, link.public_is ∙ lead.is_public, link.file))
          ]
        ]
        | inr now ↦ inr now.1
      ];
      waiting = λ k c. elim (more.fresh k c) [
        | inl before ↦ h.waiting k (subst (λ (ks : List ℕ). Contains ks k) (sym next) (Contains-append_left popped.next.items (j ∷ []) k before))
        | inr now ↦ sees k now
      ];
      within = subst (λ (m : ℕ). All (λ k. k < m) new.next.items) total
          (more.within (subst (λ (m : ℕ). All (λ k. k < m) popped.next.items) (sym (ap length marks ∙ h.count))
          (front_within popped.next.items j (length set') (subst (λ (ks : List ℕ). All (λ k. k < length set') ks) next h.within))));
    }

pub sees_all : (set' : List ParsedFile) (i : ℕ) (s : SeenFiles) → IsSeenSoFar set' i s → s.next.items ≡ [] → (j : ℕ) → IsVisible set' i j → IsSeenFile s j
sees_all set' i s h e j itself = h.start
sees_all set' i s h e j (imported {n = n} l) = h.imported n j l
sees_all set' i s h e k (publicly {j = j} {n = n} seen l) = elim (h.closed j n k (sees_all set' i s h e j seen) l) [
  | inl done ↦ done
  | inr waits ↦ absurd (no_element (subst (λ (ks : List ℕ). Contains ks j) e waits))
]

pub seen_is : (set' : List ParsedFile) (i : ℕ) (s : SeenFiles) (places : List ℕ) → IsSeenSoFar set' i s → s.next.items ≡ []
    → ((k : ℕ) → (Contains places k → IsSeenFile s k) × (IsSeenFile s k → Contains places k)) → IsAscendingBy ◌<◌ places
    → AreVisible set' i places
seen_is set' i s places h e those ascend = record {
  those = λ j. (λ c. h.sound j ((those j).0 c), λ v. (those j).1 (sees_all set' i s h e j v));
  ascend = ascend;
}

-- ---- the files that each of some files sees

pub zip_push : {X Y : Type 0} (R : X → Y → Type 0) (xs : List X) (ys : List Y) (x : X) (y : Y) → AllZip R xs ys → R x y → AllZip R (xs ++ x ∷ []) (ys ++ y ∷ [])
zip_push R [] [] x y h r = (r, tt)
zip_push R [] (b ∷ bs) x y h r = absurd h
zip_push R (a ∷ as') [] x y h r = absurd h
zip_push R (a ∷ as') (b ∷ bs) x y h r = (h.0, zip_push R as' bs x y h.1 r)

pub zip_more : {X Y : Type 0} (R : X → Y → Type 0) (xs : List X) (i : ℕ) (d : X) (old new : List Y) (y : Y)
    → i < length xs → new ≡ old ++ y ∷ [] → AllZip R (take i xs) old → R (get_or xs i d) y
    → AllZip R (take (i + 1) xs) new
zip_more {X} {Y} R xs i d old new y l e h r =
    subst (λ (ys : List Y). AllZip R (take (i + 1) xs) ys) (sym e)
    (subst (λ (zs : List X). AllZip R zs (old ++ y ∷ [])) (sym (take_more xs i d l)) (zip_push R (take i xs) old (get_or xs i d) y h r))

pub both_ok : {X E : Type 0} (r : Result X E) {P Q R : X → Type 0} → IfOk r P → IfOk r Q → ((x : X) → P x → Q x → R x) → IfOk r R
both_ok (Ok x) p q f = f x p q
both_ok (Err e) p q f = tt
