-- What is returned, and which fault is the first.
use Rattle.std.proofs.Common.{◌≡◌, ℕ, ◌<◌, inl, inr, List, [], ◌∷◌, length, get_or, refl, sym, ap, ◌∙◌, subst, arith}
use Rattle.std.specs.Prelude.{Contains, All}
use Rattle.std.specs.List.{AllZip}
use Rattle.std.proofs.lemmas.Bool.{cases_order}
use Rattle.std.proofs.lemmas.List.Elements.{Contains-get_or}
use Rattle.proto_ast.specs.declared.file.Span.{Span}
use Rattle.proto_ast.specs.declared.file.Import.{Import}
use Rattle.mrpc_table.specs.Valid.{AreDistinct, IsBelow}
use Rattle.proto_set.specs.Importing.{HasImport, HasPath, IsImport, IsReachable, here, onward}
use Rattle.proto_set.specs.Visiting.{leaves, at_cycle, IsRootVisit}
use Rattle.proto_set.specs.ImportFaults.{IsImportFault, missing, twice, cycle, import_reason_rank, IsNoLaterFault, by_reason, by_file, by_statement, HasImportFault, HasNoFault}
use Rattle.proto_set.specs.Linking.{HasNoFaultOf, AllResolve}
use Rattle.proto_set.specs.Reaching.{IsPathBelow, IsResolutionOrder, AreVisible, IsReach}
use Rattle.proto_set.specs.Traversing.{AreFinished, AreReached}
use Rattle.proto_set.specs.declared.set.ParsedFile.{ParsedFile}
use Rattle.proto_set.specs.declared.set.ImportClosure.{ImportClosure}
use Rattle.proto_set.specs.declared.traversal.VisitState.{VisitState}
use Rattle.proto_set.specs.declared.import_fault.ImportReason.{ImportReason}
use Rattle.proto_set.specs.declared.import_fault.ImportReason.TheVariants.{Missing, Twice, Cycle}
use Rattle.proto_set.proofs.Visited.{ArePathsApart, import_one, root_one, ring_is, none_in_ring, root_reaches, cons_more, cons_cases}
use Rattle.proto_set.proofs.Judging.{cycle_parts}
use Rattle.proto_set.proofs.Linked.{link_file, path_same}
use Rattle.proto_set.proofs.Sorting.{below_trans, below_strict, ascends_same}

-- ---- what is returned

pub left_are_reached : (set : List ParsedFile) (marks : List VisitState) → ArePathsApart set → AreFinished set marks → AreReached set marks
left_are_reached set marks own h = record {
  those = λ i. (
    λ e. (root_reaches own h.visits i).0 ((h.marked i).0 e),
    λ r. (h.marked i).1 ((root_reaches own h.visits i).1 r),
  );
}

pub reached_within : {set : List ParsedFile} {j : ℕ} → 0 < length set → IsReachable set 0 j → j < length set
reached_within some here = some
reached_within some (onward r l) = link_file l

pub order_within : (set : List ParsedFile) (order : List ℕ) → 0 < length set → IsResolutionOrder set order → All (λ i. i < length set) order
order_within set order some h = λ k d l.
    reached_within some ((h.reached (get_or order k d)).0 (Contains-get_or order k d l))

lead_apart : {set : List ParsedFile} {i n m j : ℕ} → HasNoFaultOf set Twice → n < m → IsImport set i n j → IsImport set i m j → ⊥
lead_apart {set} {i} {n} {m} {j} once l a b =
    once i m (twice a.import b.import l a.import_at b.import_at (path_same a.path_at b.path_at))

pub leads_apart : {set : List ParsedFile} → HasNoFaultOf set Twice → (i n m j : ℕ) → IsImport set i n j → IsImport set i m j → n ≡ m
leads_apart {set} once i n m j a b = elim (cases_order n m) [
  | inl e ↦ e
  | inr apart ↦ elim apart [
    | inl less ↦ absurd (lead_apart once less a b)
    | inr more ↦ absurd (lead_apart once more b a)
  ]
]

pub reach_is : (set : List ParsedFile) (left : List ℕ) (reach : ImportClosure) → ArePathsApart set → AllResolve set
    → HasNoFaultOf set Twice → IsRootVisit set (leaves left) → IsResolutionOrder set reach.order
    → AllZip (AreVisible set) reach.order reach.sees → IsReach set reach
reach_is set left reach own led once visits order sees = record {
  led = led;
  apart = leads_apart once;
  open_ended = λ i r back. none_in_ring own visits r back;
  order = order;
  sees = sees;
}

pub reach_sound : (set : List ParsedFile) (left : List ℕ) → ArePathsApart set → HasNoFaultOf set Missing → HasNoFaultOf set Twice → IsRootVisit set (leaves left) → HasNoFault set
reach_sound set left own known once visits Missing i n f = known i n f
reach_sound set left own known once visits Twice i n f = once i n f
reach_sound set left own known once visits Cycle i n f =
    absurd (let bad : leaves left ≡ at_cycle i n = root_one own visits (cycle_parts f) in cc)

-- ---- laws

abbrev Same : ImportReason → ℕ → ℕ → ImportReason → ℕ → ℕ → Type 0
Same q i n r j m = (q ≡ r) × (i ≡ j) × (n ≡ m)

first_one : {q r : ImportReason} {i n j m : ℕ} → IsNoLaterFault q i n r j m → IsNoLaterFault r j m q i n → Same q i n r j m
first_one (by_reason l) (by_reason k) = absurd (omega arith)
first_one (by_reason l) (by_file e k) = absurd (let z = ap import_reason_rank e in omega arith)
first_one (by_reason l) (by_statement e f k) = absurd (let z = ap import_reason_rank e in omega arith)
first_one (by_file e l) (by_reason k) = absurd (let z = ap import_reason_rank e in omega arith)
first_one (by_file e l) (by_file f k) = absurd (omega arith)
first_one (by_file e l) (by_statement f g k) = absurd (omega arith)
first_one (by_statement e g l) (by_reason k) = absurd (let z = ap import_reason_rank e in omega arith)
first_one (by_statement e g l) (by_file f k) = absurd (omega arith)
first_one (by_statement e g l) (by_statement f h k) = (e, g, omega arith)

pub fault_one : {set : List ParsedFile} {q r : ImportReason} {i j : ℕ} {s t : Span} → HasImportFault set q i s → HasImportFault set r j t → (q ≡ r) × (i ≡ j) × (s ≡ t)
fault_one {set} {q} {r} {i} {j} {s} {t} a b =
    let same = first_one (a.first r j b.n b.at_fault) (b.first q i a.n a.at_fault) in
    let at : HasImport set j b.n a.import =
    subst (λ (k : ℕ). HasImport set k b.n a.import) same.1 (subst (λ (m : ℕ). HasImport set i m a.import) same.2 a.import_at) in
    let one : a.import ≡ b.import = import_one at b.import_at in
    (same.0, same.1, a.span_is ∙ ap (λ (x : Import). x.span) one ∙ sym b.span_is)

pub reach_or_fault : {set : List ParsedFile} {reach : ImportClosure} {q : ImportReason} {i n : ℕ} → IsReach set reach → IsImportFault set q i n → ⊥
reach_or_fault {set} h (missing {i = i} {n = n} x at nobody) =
    let l = h.led i n x at in
    let same : l.1.import ≡ x = import_one l.1.import_at at in
    nobody l.0 (subst (λ (y : Import). HasPath set l.0 y.path) same l.1.path_at)
reach_or_fault {set} h (twice {i = i} {k = k} {n = n} x y less a b e) =
    let l = h.led i k x a in
    let same : l.1.import ≡ x = import_one l.1.import_at a in
    let path : HasPath set l.0 y.path = subst (HasPath set l.0) (ap (λ (z : Import). z.path) same ∙ e) l.1.path_at in
    let other : IsImport set i n l.0 = record { import = y; import_at = b; path_at = path } in
    let one : k ≡ n = h.apart i k n l.0 l.1 other in
    omega arith
reach_or_fault {set} h (cycle {i = i} {n = n} v) =
    let r = ring_is v in
    h.open_ended i r.0 (record { n = n; j = r.1.0; leads = r.1.1; back = r.1.2 })

-- ---- the import closure is unique

pub path_trans : (set : List ParsedFile) (i j k : ℕ) → IsPathBelow set i j → IsPathBelow set j k → IsPathBelow set i k
path_trans set i j k a b =
    let same : a.upper ≡ b.lower = path_same a.upper_at b.lower_at in
    record {
      lower = a.lower;
      upper = b.upper;
      lower_at = a.lower_at;
      upper_at = b.upper_at;
      below = below_trans a.lower a.upper b.upper a.below (subst (λ (p : List ℕ). IsBelow p b.upper) (sym same) b.below);
    }

pub path_strict : (set : List ParsedFile) (i : ℕ) → IsPathBelow set i i → ⊥
path_strict set i a =
    let same : a.upper ≡ a.lower = path_same a.upper_at a.lower_at in
    below_strict a.lower (subst (λ (p : List ℕ). IsBelow a.lower p) same a.below)

others_in : {set : List ParsedFile} {a b : List ℕ} → (x : IsResolutionOrder set a) → (y : IsResolutionOrder set b) → (z : ℕ) → Contains x.others z → Contains y.others z
others_in {set} {a} {b} x y z c =
    let in_a : Contains a z = subst (λ (ks : List ℕ). Contains ks z) (sym x.root_first) (cons_more 0 x.others z c) in
    let in_b : Contains b z = (y.reached z).1 ((x.reached z).0 in_a) in
    elim (cons_cases 0 y.others z (subst (λ (ks : List ℕ). Contains ks z) y.root_first in_b)) [
      | inl root ↦
          let once : AreDistinct (0 ∷ x.others) = subst (λ (ks : List ℕ). AreDistinct ks) x.root_first x.once in
          absurd (once.0 (subst (Contains x.others) (sym root) c))
      | inr other ↦ other
    ]

order_one : {set : List ParsedFile} {a b : List ℕ} → IsResolutionOrder set a → IsResolutionOrder set b → a ≡ b
order_one {set} x y =
    let same : x.others ≡ y.others =
    ascends_same (IsPathBelow set) (path_trans set) (path_strict set) x.others y.others x.ascend y.ascend (others_in x y) (others_in y x) in
    x.root_first ∙ ap (λ (ks : List ℕ). 0 ∷ ks) same ∙ sym y.root_first

less_trans : (x y z : ℕ) → x < y → y < z → x < z
less_trans x y z a b = omega arith

less_strict : (x : ℕ) → x < x → ⊥
less_strict x a = omega arith

seen_one : {set : List ParsedFile} {i : ℕ} {a b : List ℕ} → AreVisible set i a → AreVisible set i b → a ≡ b
seen_one {set} {i} {a} {b} x y =
    ascends_same ◌<◌ less_trans less_strict a b x.ascend y.ascend
    (λ z c. (y.those z).1 ((x.those z).0 c)) (λ z c. (x.those z).1 ((y.those z).0 c))

sees_one : (set : List ParsedFile) (order : List ℕ) (as' bs : List (List ℕ)) → AllZip (AreVisible set) order as' → AllZip (AreVisible set) order bs → as' ≡ bs
sees_one set [] [] [] h k = refl
sees_one set [] [] (b ∷ bs) h k = absurd k
sees_one set [] (a ∷ as') bs h k = absurd h
sees_one set (i ∷ order) [] bs h k = absurd h
sees_one set (i ∷ order) (a ∷ as') [] h k = absurd k
sees_one set (i ∷ order) (a ∷ as') (b ∷ bs) h k =
    let one : a ≡ b = seen_one {set = set} {i = i} h.0 k.0 in
    let rest : as' ≡ bs = sees_one set order as' bs h.1 k.1 in
    cc

pub reach_one : {set : List ParsedFile} {a b : ImportClosure} → IsReach set a → IsReach set b → a ≡ b
reach_one {set} {a} {b} x y =
    let order : a.order ≡ b.order = order_one x.order y.order in
    let sees : a.sees ≡ b.sees =
    sees_one set b.order a.sees b.sees (subst (λ (ks : List ℕ). AllZip (AreVisible set) ks a.sees) order x.sees) y.sees in
    let made : List ℕ → List (List ℕ) → ImportClosure = λ ks ls. record { order = ks; sees = ls } in
    ap (λ ks. made ks a.sees) order ∙ ap (λ ls. made b.order ls) sees
