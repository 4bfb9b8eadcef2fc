-- The outcome of visiting a file is unique; a reported cycle exists; finished files are in no cycle.
use Rattle.std.proofs.Common.{◌≡◌, ℕ, zero, suc, ◌+◌, ◌<◌, ◌≤◌, ◌⊎◌, inl, inr, List, [], ◌∷◌, ◌++◌, length, get_or}
use Rattle.std.proofs.Common.{Some, refl, ap, sym, ◌∙◌, subst, arith}
use Rattle.std.specs.Prelude.{slice_get, Contains, map}
use Rattle.std.proofs.lemmas.Bool.{cases_lt, cases_eq}
use Rattle.std.proofs.lemmas.List.Elements.{Contains-append_left, Contains-push, Contains-push_cases}
use Rattle.std.proofs.lemmas.Option.{slice_get_within, same_Some, get_or_from_slice_get, slice_get-get_or}
use Rattle.proto_ast.specs.declared.file.Import.{Import}
use Rattle.mrpc_table.specs.Valid.{AreDistinct}
use Rattle.proto_set.specs.Importing.{HasImport, HasPath, IsImport, IsReachable, here, onward, IsInCycle}
use Rattle.proto_set.specs.Visiting.{HasNoImport, IsUnvisited, TraversalOutcome, leaves, at_cycle, IsVisit, ends, closes, passes, enters, meets, IsRootVisit}
use Rattle.proto_set.specs.Reaching.{HaveDistinctPaths}
use Rattle.proto_set.specs.declared.set.ParsedFile.{ParsedFile}

-- ---- imports and paths

pub import_one : {set : List ParsedFile} {i n : ℕ} {x y : Import} → HasImport set i n x → HasImport set i n y → x ≡ y
import_one {set} {i} {n} {x} {y} a b =
    let same : a.member ≡ b.member = same_Some a.member b.member (sym a.member_at ∙ b.member_at) in
    let at : slice_get b.member.file.imports n ≡ Some x = subst (λ (m : ParsedFile). slice_get m.file.imports n ≡ Some x) same a.import_at in
    same_Some x y (sym at ∙ b.import_at)

-- no two files have the same path
pub record ArePathsApart (set : List ParsedFile) : Type 0 where
  pub one : {i j : ℕ} {path : List ℕ} → HasPath set i path → HasPath set j path → i ≡ j

paths_at : (set : List ParsedFile) (i : ℕ) (m : ParsedFile) → slice_get set i ≡ Some m → slice_get (map (λ (x : ParsedFile). x.path) set) i ≡ Some m.path
paths_at [] i m e = absurd cc
paths_at (x ∷ xs) zero m e = let same : x ≡ m = cc in ap (λ (y : ParsedFile). Some y.path) same
paths_at (x ∷ xs) (suc i) m e = paths_at xs i m e

pub contains_at : {X : Type 0} (xs : List X) (i : ℕ) (x : X) → slice_get xs i ≡ Some x → Contains xs x
contains_at xs i x e = (i, slice_get_within xs i x e, get_or_from_slice_get xs i x x e)

pub at_contains : {X : Type 0} (xs : List X) (x : X) → Contains xs x → (i : ℕ) × (slice_get xs i ≡ Some x)
at_contains xs x c = (c.0, slice_get-get_or xs c.0 x c.1 ∙ ap Some c.2)

distinct_at : {X : Type 0} (xs : List X) → AreDistinct xs → (i j : ℕ) (x : X) → slice_get xs i ≡ Some x → slice_get xs j ≡ Some x → i ≡ j
distinct_at [] h i j x a b = absurd cc
distinct_at (y ∷ ys) h zero zero x a b = refl
distinct_at (y ∷ ys) h zero (suc j) x a b =
    let same : x ≡ y = cc in
    absurd (h.0 (subst (Contains ys) same (contains_at ys j x b)))
distinct_at (y ∷ ys) h (suc i) zero x a b =
    let same : x ≡ y = cc in
    absurd (h.0 (subst (Contains ys) same (contains_at ys i x a)))
distinct_at (y ∷ ys) h (suc i) (suc j) x a b = ap suc (distinct_at ys h.1 i j x a b)

pub paths_apart : {set : List ParsedFile} → HaveDistinctPaths set → ArePathsApart set
paths_apart {set} own = record {
  one = λ {i} {j} {path} a b.
      distinct_at (map (λ (x : ParsedFile). x.path) set) own i j path
      (paths_at set i a.member a.member_at ∙ ap Some a.path_is) (paths_at set j b.member b.member_at ∙ ap Some b.path_is);
}

pub leads_one : {set : List ParsedFile} {i n j k : ℕ} → ArePathsApart set → IsImport set i n j → IsImport set i n k → j ≡ k
leads_one {set} {i} {n} {j} {k} apart a b =
    let same : a.import ≡ b.import = import_one a.import_at b.import_at in
    apart.one a.path_at (subst (λ (x : Import). HasPath set k x.path) (sym same) b.path_at)

pub leads_has : {set : List ParsedFile} {i n j : ℕ} → IsImport set i n j → HasNoImport set i n → ⊥
leads_has l none = none l.import l.import_at

-- there is no import after a missing one
pub none_after : {set : List ParsedFile} {i n m : ℕ} → HasNoImport set i n → n ≤ m → HasNoImport set i m
none_after {set} {i} {n} {m} none l x h =
    let within : n < length h.member.file.imports = omega (arith, slice_get_within h.member.file.imports m x h.import_at) in
    none (get_or h.member.file.imports n x) (record {
      member = h.member;
      member_at = h.member_at;
      import_at = slice_get-get_or h.member.file.imports n x within;
    })

-- ---- lists

abbrev pub AreApart : List ℕ → List ℕ → Type 0
AreApart xs ys = (k : ℕ) → Contains xs k → Contains ys k → ⊥

pub cons_here : {X : Type 0} (x : X) (xs : List X) → Contains (x ∷ xs) x
cons_here x xs = (0, omega arith, refl)

pub cons_more : {X : Type 0} (x : X) (xs : List X) (y : X) → Contains xs y → Contains (x ∷ xs) y
cons_more x xs y c = (suc c.0, omega (arith, c.1), c.2)

pub cons_cases : {X : Type 0} (x : X) (xs : List X) (y : X) → Contains (x ∷ xs) y → (x ≡ y) ⊎ Contains xs y
cons_cases x xs y (zero, l, e) = inl e
cons_cases x xs y (suc k, l, e) = inr (k, omega arith, e)

-- ---- the finished files after a visit

pub record Leaves (within left : List ℕ) (i : ℕ) (after : List ℕ) : Type 0 where
  pub keeps : (k : ℕ) → Contains left k → Contains after k
  pub has : Contains after i
  pub apart : AreApart within after

abbrev pub IsAt : List ℕ → List ℕ → ℕ → Type 0
IsAt within left i = (Contains within i → ⊥) × AreApart (within ++ i ∷ []) left

pub new_at : (visiting left : List ℕ) (j : ℕ) → AreApart visiting left → IsUnvisited visiting left j → IsAt visiting left j
new_at visiting left j free new = (
  new.unvisited,
  λ k c d. elim (Contains-push_cases visiting j k c) [
    | inl old ↦ free k old d
    | inr e ↦ new.unleft (subst (Contains left) (sym e) d)
  ],
)

pub leaves_so : {set : List ParsedFile} {within left : List ℕ} {i n : ℕ} {after : List ℕ} → IsAt within left i
    → IsVisit set within left i n (leaves after) → Leaves within left i after
leaves_so {set} {within} {left} {i} at (ends none) = record {
  keeps = λ k c. cons_more i left k c;
  has = cons_here i left;
  apart = λ k c d. elim (cons_cases i left k d) [
    | inl e ↦ at.0 (subst (Contains within) (sym e) c)
    | inr old ↦ at.1 k (Contains-append_left within (i ∷ []) k c) old
  ];
}
leaves_so at (passes l c v) = leaves_so at v
leaves_so {set} {within} {left} {i} at (enters {after = mid} {j = j} l new v w) =
    let below = leaves_so (new_at (within ++ i ∷ []) left j at.1 new) v in
    let on : IsAt within mid i = (at.0, below.apart) in
    let then = leaves_so on w in
    record {
      keeps = λ k c. then.keeps k (below.keeps k c);
      has = then.has;
      apart = then.apart;
    }

-- ---- the outcome is unique

pub visits_one : {set : List ParsedFile} {within left : List ℕ} {i n : ℕ} {o p : TraversalOutcome} → ArePathsApart set
    → IsAt within left i → IsVisit set within left i n o → IsVisit set within left i n p → o ≡ p
visits_one apart at (ends none) (ends none') = refl
visits_one apart at (ends none) (closes l c) = absurd (leads_has l none)
visits_one apart at (ends none) (passes l c v) = absurd (leads_has l none)
visits_one apart at (ends none) (enters l new v w) = absurd (leads_has l none)
visits_one apart at (ends none) (meets l new v) = absurd (leads_has l none)
visits_one apart at (closes l c) (ends none) = absurd (leads_has l none)
visits_one apart at (closes l c) (closes l' c') = refl
visits_one {left = left} apart at (closes {j = j} l c) (passes {j = k} l' c' v) =
    absurd (at.1 j c (subst (Contains left) (sym (leads_one apart l l')) c'))
visits_one {within = within} {i = i} apart at (closes l c) (enters l' new v w) =
    absurd (new.unvisited (subst (Contains (within ++ i ∷ [])) (leads_one apart l l') c))
visits_one {within = within} {i = i} apart at (closes l c) (meets l' new v) =
    absurd (new.unvisited (subst (Contains (within ++ i ∷ [])) (leads_one apart l l') c))
visits_one apart at (passes l c v) (ends none) = absurd (leads_has l none)
visits_one {left = left} apart at (passes l c v) (closes {j = k} l' c') =
    absurd (at.1 k c' (subst (Contains left) (leads_one apart l l') c))
visits_one apart at (passes l c v) (passes l' c' v') = visits_one apart at v v'
visits_one {left = left} apart at (passes l c v) (enters l' new v' w') =
    absurd (new.unleft (subst (Contains left) (leads_one apart l l') c))
visits_one {left = left} apart at (passes l c v) (meets l' new v') =
    absurd (new.unleft (subst (Contains left) (leads_one apart l l') c))
visits_one apart at (enters l new v w) (ends none) = absurd (leads_has l none)
visits_one {within = within} {i = i} apart at (enters l new v w) (closes l' c') =
    absurd (new.unvisited (subst (Contains (within ++ i ∷ [])) (leads_one apart l' l) c'))
visits_one {left = left} apart at (enters l new v w) (passes l' c' v') =
    absurd (new.unleft (subst (Contains left) (leads_one apart l' l) c'))
visits_one {set} {within} {left} {i} {n} {p = p} apart at (enters {after = mid} {j = j} l new v w) (enters {after = mid'} {j = k} l' new' v' w') =
    let v2 : IsVisit set (within ++ i ∷ []) left j 0 (leaves mid') =
    subst (λ (x : ℕ). IsVisit set (within ++ i ∷ []) left x 0 (leaves mid')) (leads_one apart l' l) v' in
    let same : leaves mid ≡ leaves mid' = visits_one apart (new_at (within ++ i ∷ []) left j at.1 new) v v2 in
    let e : mid ≡ mid' = cc in
    let w2 : IsVisit set within mid i (n + 1) p = subst (λ (x : List ℕ). IsVisit set within x i (n + 1) p) (sym e) w' in
    let on : IsAt within mid i = (at.0, (leaves_so (new_at (within ++ i ∷ []) left j at.1 new) v).apart) in
    visits_one apart on w w2
visits_one {set} {within} {left} {i} apart at (enters {after = mid} {j = j} l new v w) (meets {k = a} {m = b} l' new' v') =
    let v2 : IsVisit set (within ++ i ∷ []) left j 0 (at_cycle a b) =
    subst (λ (x : ℕ). IsVisit set (within ++ i ∷ []) left x 0 (at_cycle a b)) (leads_one apart l' l) v' in
    let same : leaves mid ≡ at_cycle a b = visits_one apart (new_at (within ++ i ∷ []) left j at.1 new) v v2 in
    absurd cc
visits_one apart at (meets l new v) (ends none) = absurd (leads_has l none)
visits_one {within = within} {i = i} apart at (meets l new v) (closes l' c') =
    absurd (new.unvisited (subst (Contains (within ++ i ∷ [])) (leads_one apart l' l) c'))
visits_one {left = left} apart at (meets l new v) (passes l' c' v') =
    absurd (new.unleft (subst (Contains left) (leads_one apart l' l) c'))
visits_one {set} {within} {left} {i} apart at (meets {j = j} {k = a} {m = b} l new v) (enters {after = mid} l' new' v' w') =
    let v2 : IsVisit set (within ++ i ∷ []) left j 0 (leaves mid) =
    subst (λ (x : ℕ). IsVisit set (within ++ i ∷ []) left x 0 (leaves mid)) (leads_one apart l' l) v' in
    let same : at_cycle a b ≡ leaves mid = visits_one apart (new_at (within ++ i ∷ []) left j at.1 new) v v2 in
    absurd cc
visits_one {set} {within} {left} {i} apart at (meets {j = j} l new v) (meets {k = a} {m = b} l' new' v') =
    let v2 : IsVisit set (within ++ i ∷ []) left j 0 (at_cycle a b) =
    subst (λ (x : ℕ). IsVisit set (within ++ i ∷ []) left x 0 (at_cycle a b)) (leads_one apart l' l) v' in
    visits_one apart (new_at (within ++ i ∷ []) left j at.1 new) v v2

none_in : (k : ℕ) → Contains {X = ℕ} [] k → ⊥
none_in k c = absurd (let l : c.0 < 0 = c.1 in omega arith)

pub at_root : IsAt [] [] 0
at_root = (none_in 0, λ k c d. none_in k d)

pub root_one : {set : List ParsedFile} {o p : TraversalOutcome} → ArePathsApart set → IsRootVisit set o → IsRootVisit set p → o ≡ p
root_one apart v w = visits_one apart at_root v w

-- ---- a reported cycle exists

below_reached : {set : List ParsedFile} {i n j : ℕ} (visiting : List ℕ) → IsImport set i n j
    → ((k : ℕ) → Contains visiting k → IsReachable set k i) → (k : ℕ) → Contains (visiting ++ j ∷ []) k → IsReachable set k j
below_reached {set} {i} {n} {j} visiting l from k c = elim (Contains-push_cases visiting j k c) [
  | inl old ↦ onward (from k old) l
  | inr e ↦ subst (λ (x : ℕ). IsReachable set x j) e here
]

pub ring_from : {set : List ParsedFile} {within left : List ℕ} {i n k m : ℕ} → IsReachable set 0 i
    → ((k : ℕ) → Contains (within ++ i ∷ []) k → IsReachable set k i) → IsVisit set within left i n (at_cycle k m)
    → IsReachable set 0 k × ((j : ℕ) × IsImport set k m j × IsReachable set j k)
ring_from root from (closes {j = j} l c) = (root, (j, l, from j c))
ring_from root from (passes l c v) = ring_from root from v
ring_from root from (enters l new v w) = ring_from root from w
ring_from {within = within} {i = i} root from (meets l new v) =
    ring_from (onward root l) (below_reached (within ++ i ∷ []) l from) v

pub ring_is : {set : List ParsedFile} {i n : ℕ} → IsRootVisit set (at_cycle i n) → IsReachable set 0 i × ((j : ℕ) × IsImport set i n j × IsReachable set j i)
ring_is {set} v = ring_from here (λ k c. elim (cons_cases 0 [] k c) [
  | inl e ↦ subst (λ (x : ℕ). IsReachable set x 0) e here
  | inr nil ↦ absurd (none_in k nil)
]) v

-- ---- finished files

-- each file finished after those that its imports lead to
pub data AreLeft (set : List ParsedFile) : List ℕ → Type 0 where
  nothing : AreLeft set []
  behind : {i : ℕ} {left : List ℕ} → ((n j : ℕ) → IsImport set i n j → Contains left j) → (Contains left i → ⊥)
      → AreLeft set left → AreLeft set (i ∷ left)

-- the imports before index n lead to finished files
abbrev pub LedBefore : List ParsedFile → List ℕ → ℕ → ℕ → Type 0
LedBefore set left i n = (m j : ℕ) → m < n → IsImport set i m j → Contains left j

led_more : {set : List ParsedFile} (left after : List ℕ) {i n j : ℕ} → ArePathsApart set → IsImport set i n j
    → Contains after j → ((k : ℕ) → Contains left k → Contains after k) → LedBefore set left i n
    → LedBefore set after i (n + 1)
led_more {set} left after {i} {n} {j} apart l c keeps before m k below lk = elim (cases_eq m n) [
  | inl e ↦
      let lj : IsImport set i m j = subst (λ (x : ℕ). IsImport set i x j) (sym e) l in
      subst (Contains after) (leads_one apart lj lk) c
  | inr ne ↦ keeps k (before m k (omega arith) lk)
]

pub left_so : {set : List ParsedFile} {within left : List ℕ} {i n : ℕ} {after : List ℕ} → ArePathsApart set
    → IsAt within left i → LedBefore set left i n → AreLeft set left → IsVisit set within left i n (leaves after)
    → AreLeft set after
left_so {set} {within} {left} {i} {n} apart at before known (ends none) =
    behind {left = left}
    (λ m j l. elim (cases_lt m n) [
      | inl old ↦ before m j old l
      | inr past ↦ absurd (leads_has l (none_after none past))
    ])
    (λ c. at.1 i (Contains-push within i) c) known
left_so {left = left} apart at before known (passes l c v) =
    left_so apart at (led_more left left apart l c (λ k d. d) before) known v
left_so {set} {within} {left} {i} {n} apart at before known (enters {after = mid} {j = j} l new v w) =
    let below = new_at (within ++ i ∷ []) left j at.1 new in
    let so = leaves_so below v in
    let mids = left_so apart below (λ m k less lk. absurd (omega arith)) known v in
    left_so apart (at.0, so.apart) (led_more left mid apart l so.has so.keeps before) mids w

-- the finished files are closed under imports
left_closed : {set : List ParsedFile} {left : List ℕ} → AreLeft set left → (k n j : ℕ) → Contains left k → IsImport set k n j → Contains left j
left_closed nothing k n j c l = absurd (none_in k c)
left_closed {set} (behind {i = i} {left = left} leads out known) k n j c l = elim (cons_cases i left k c) [
  | inl e ↦ cons_more i left j (leads n j (subst (λ (x : ℕ). IsImport set x n j) (sym e) l))
  | inr old ↦ cons_more i left j (left_closed known k n j old l)
]

pub left_reaches : {set : List ParsedFile} {left : List ℕ} {k j : ℕ} → AreLeft set left → Contains left k → IsReachable set k j → Contains left j
left_reaches known c here = c
left_reaches known c (onward {j = j} {n = n} {k = k} r l) = left_closed known j n k (left_reaches known c r) l

pub left_open : {set : List ParsedFile} {left : List ℕ} → AreLeft set left → (k : ℕ) → Contains left k → IsInCycle set k → ⊥
left_open nothing k c r = none_in k c
left_open {set} (behind {i = i} {left = left} leads out known) k c r = elim (cons_cases i left k c) [
  | inl e ↦
      let lead : IsImport set i r.n r.j = subst (λ (x : ℕ). IsImport set x r.n r.j) (sym e) r.leads in
      let back : IsReachable set r.j i = subst (IsReachable set r.j) (sym e) r.back in
      out (left_reaches known (leads r.n r.j lead) back)
  | inr old ↦ left_open known k old r
]

pub root_left : {set : List ParsedFile} {left : List ℕ} → ArePathsApart set → IsRootVisit set (leaves left) → AreLeft set left × Contains left 0
root_left apart v = (left_so apart at_root (λ m k less lk. absurd (omega arith)) nothing v, (leaves_so at_root v).has)

pub none_in_ring : {set : List ParsedFile} {left : List ℕ} {i : ℕ} → ArePathsApart set → IsRootVisit set (leaves left) → IsReachable set 0 i → IsInCycle set i → ⊥
none_in_ring {set} {left} {i} apart v r back =
    let known = root_left apart v in
    left_open known.0 i (left_reaches known.0 known.1 r) back

-- ---- finished files are reached

left_reached : {set : List ParsedFile} {within left : List ℕ} {i n : ℕ} {after : List ℕ} → IsReachable set 0 i
    → ((k : ℕ) → Contains left k → IsReachable set 0 k) → IsVisit set within left i n (leaves after) → (k : ℕ)
    → Contains after k → IsReachable set 0 k
left_reached {set} {left = left} {i = i} root known (ends none) k c = elim (cons_cases i left k c) [
  | inl e ↦ subst (IsReachable set 0) e root
  | inr old ↦ known k old
]
left_reached root known (passes l c v) k d = left_reached root known v k d
left_reached root known (enters l new v w) k d =
    left_reached root (λ m e. left_reached (onward root l) known v m e) w k d

pub root_reaches : {set : List ParsedFile} {left : List ℕ} → ArePathsApart set → IsRootVisit set (leaves left) → (k : ℕ)
    → (Contains left k → IsReachable set 0 k) × (IsReachable set 0 k → Contains left k)
root_reaches apart v k =
    let known = root_left apart v in
    (left_reached here (λ m c. absurd (none_in m c)) v k, λ r. left_reaches known.0 known.1 r)
