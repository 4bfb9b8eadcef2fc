-- A set without a first fault has an import closure.
use Rattle.std.proofs.Common.{◌≡◌, ℕ, zero, suc, ◌+◌, ◌<◌, ◌≤◌, ◌⊎◌, List, [], ◌∷◌, ◌++◌, inl, inr, length, refl, sym}
use Rattle.std.proofs.Common.{ap, ◌∙◌, subst, arith, add-one}
use Rattle.std.specs.Prelude.{slice_get, Some, None, Contains}
use Rattle.std.specs.List.{AllZip}
use Rattle.std.specs.Ordering.{nat_cmp, is_eq, ordering_reverse}
use Rattle.std.specs.Cmp.Lexicographic.{slice_cmp}
use Rattle.std.specs.declared.cmp.Ordering.{Ordering}
use Rattle.std.specs.declared.cmp.Ordering.TheVariants.{Less, Equal, Greater}
use Rattle.std.proofs.lemmas.Bool.{cases_lt, cases_eq, cases_Bool}
use Rattle.std.proofs.lemmas.Cmp.{nat_list_cmp_total}
use Rattle.std.proofs.lemmas.Map.Lookups.{exact_bytes}
use Rattle.std.proofs.lemmas.List.Elements.{Contains-append_left, Contains-push, Contains-push_cases}
use Rattle.std.proofs.lemmas.Option.{same_Some}
use Rattle.proto_ast.specs.declared.file.Span.{Span}
use Rattle.proto_ast.specs.declared.file.Import.{Import}
use Rattle.mrpc_table.specs.Valid.{IsAscendingBy}
use Rattle.proto_set.specs.Importing.{HasImport, HasPath, IsImport, IsReachable, here, IsVisible, itself, imported, publicly}
use Rattle.proto_set.specs.Visiting.{HasNoImport, IsUnvisited, TraversalOutcome, leaves, at_cycle, IsVisit, ends, closes, passes, enters, meets, IsRootVisit}
use Rattle.proto_set.specs.ImportFaults.{IsImportFault, missing as missing_at, cycle as cycle_at, HasImportFault}
use Rattle.proto_set.specs.Linking.{HasNoFaultOfAt, HasNoFaultOf, AllResolve}
use Rattle.proto_set.specs.Reaching.{HaveDistinctPaths, IsPathBelow, IsResolutionOrder, AreVisible, IsReach}
use Rattle.proto_set.specs.declared.set.ParsedFile.{ParsedFile}
use Rattle.proto_set.specs.declared.set.ImportClosure.{ImportClosure}
use Rattle.proto_set.specs.declared.import_fault.ImportReason.{ImportReason}
use Rattle.proto_set.specs.declared.import_fault.ImportReason.TheVariants.{Missing, Twice, Cycle}
use Rattle.proto_set.proofs.Visited.{ArePathsApart, paths_apart, ring_is, root_reaches, cons_here, cons_more, cons_cases, IsAt, new_at, leaves_so, at_root}
use Rattle.proto_set.proofs.Judging.{FreeBefore, free_more, fault_import, NoneAbove, none_above_missing, none_above_twice, none_above_cycle, comes_first}
use Rattle.proto_set.proofs.Remaining.{count_at, count_past}
use Rattle.proto_set.proofs.Linked.{link_file, some_at}
use Rattle.proto_set.proofs.Placing.{same_bytes, other_bytes}
use Rattle.proto_set.proofs.Sorting.{first_is_least, ascends_apart, apart_distinct, ascends_rest, ascends_push}
use Rattle.proto_set.proofs.Reached.{reach_is, path_trans, path_strict, reached_within}

-- ---- without a first fault, no import is at fault

module _ (set : List ParsedFile) (q : ImportReason) (above : NoneAbove set q) (none : (i : ℕ) (s : Span) → HasImportFault set q i s → ⊥) where
  rows : (i : ℕ) → ((k : ℕ) → k < i → HasNoFaultOfAt set q k) → (n : ℕ) → FreeBefore set q i n
  rows i files zero = λ m l f. absurd (omega arith)
  rows i files (suc n) =
      subst (FreeBefore set q i) (add-one n) (free_more set q i n (rows i files n) (λ f.
      (let x = fault_import f (λ k m v. (let r = ring_is v in (r.1.1.import, r.1.1.import_at))) in
      none i x.0.span (record {
        n = n;
        import = x.0;
        import_at = x.1;
        span_is = refl;
        at_fault = f;
        first = comes_first set q i n above files (rows i files n);
      }))))

  files_before : (i k : ℕ) → k < i → HasNoFaultOfAt set q k
  files_before zero k l n f = absurd (omega arith)
  files_before (suc i) k l n f = elim (cases_lt k i) [
    | inl old ↦ files_before i k old n f
    | inr new ↦
        let e : k ≡ i = omega arith in
        rows i (files_before i) (n + 1) n (omega arith) (subst (λ (j : ℕ). IsImportFault set q j n) e f)
  ]

  pub free : HasNoFaultOf set q
  free i n f = files_before (i + 1) i (omega arith) n f

abbrev NoFault : List ParsedFile → Type 0
NoFault set = (q : ImportReason) (i : ℕ) (s : Span) → HasImportFault set q i s → ⊥

free_missing : (set : List ParsedFile) → NoFault set → HasNoFaultOf set Missing
free_missing set none = free set Missing (none_above_missing set) (none Missing)

free_twice : (set : List ParsedFile) → NoFault set → HasNoFaultOf set Twice
free_twice set none = free set Twice (none_above_twice set (free_missing set none)) (none Twice)

free_cycle : (set : List ParsedFile) → NoFault set → HasNoFaultOf set Cycle
free_cycle set none = free set Cycle (none_above_cycle set (free_missing set none) (free_twice set none)) (none Cycle)

-- ---- finite searches

same_path : (a b : List ℕ) → (a ≡ b) ⊎ (a ≡ b → ⊥)
same_path a b = elim (cases_Bool (is_eq (slice_cmp nat_cmp a b))) [
  | inl t ↦ inl (same_bytes a b t)
  | inr f ↦ inr (other_bytes a b f)
]

no_path_in : (m : ParsedFile) (ms : List ParsedFile) (path : List ℕ) → (m.path ≡ path → ⊥) → ((j : ℕ) → HasPath ms j path → ⊥) → (j : ℕ) → HasPath (m ∷ ms) j path → ⊥
no_path_in m ms path ne none zero h =
    let same : m ≡ h.member = same_Some m h.member h.member_at in
    ne (ap (λ (x : ParsedFile). x.path) same ∙ h.path_is)
no_path_in m ms path ne none (suc j) h = none j (record { member = h.member; member_at = h.member_at; path_is = h.path_is })

find_path : (set : List ParsedFile) (path : List ℕ) → ((j : ℕ) × HasPath set j path) ⊎ ((j : ℕ) → HasPath set j path → ⊥)
find_path [] path = inr (λ j h. absurd (let e : None ≡ Some h.member = h.member_at in cc))
find_path (m ∷ ms) path = elim (same_path m.path path) [
  | inl e ↦ inl (0, record { member = m; member_at = refl; path_is = e })
  | inr ne ↦ elim (find_path ms path) [
    | inl found ↦ inl (suc found.0, record { member = found.1.member; member_at = found.1.member_at; path_is = found.1.path_is })
    | inr none ↦ inr (no_path_in m ms path ne none)
  ]
]

all_led : (set : List ParsedFile) → HasNoFaultOf set Missing → AllResolve set
all_led set known i n x at = elim (find_path set x.path) [
  | inl found ↦ (found.0, record { import = x; import_at = at; path_at = found.1 })
  | inr none ↦ absurd (known i n (missing_at x at none))
]

is_in : (xs : List ℕ) (k : ℕ) → Contains xs k ⊎ (Contains xs k → ⊥)
is_in [] k = inr (λ c. absurd (let l : c.0 < 0 = c.1 in omega arith))
is_in (x ∷ xs) k = elim (cases_eq x k) [
  | inl e ↦ inl (subst (Contains (x ∷ xs)) e (cons_here x xs))
  | inr ne ↦ elim (is_in xs k) [
    | inl c ↦ inl (cons_more x xs k c)
    | inr out ↦ inr (λ c. elim (cons_cases x xs k c) [ inl e ↦ ne e | inr d ↦ out d ])
  ]
]

cases_get : {X : Type 0} (xs : List X) (i : ℕ) → ((x : X) × (slice_get xs i ≡ Some x)) ⊎ (slice_get xs i ≡ None)
cases_get [] i = inr refl
cases_get (x ∷ xs) zero = inl (x, refl)
cases_get (x ∷ xs) (suc i) = cases_get xs i

find_import : (set : List ParsedFile) (i n : ℕ) → ((x : Import) × HasImport set i n x) ⊎ HasNoImport set i n
find_import set i n = elim (cases_get set i) [
  | inl m ↦ elim (cases_get m.0.file.imports n) [
    | inl x ↦ inl (x.0, record { member = m.0; member_at = m.1; import_at = x.1 })
    | inr past ↦ inr (λ x h.
        (let same : m.0 ≡ h.member = same_Some m.0 h.member (sym m.1 ∙ h.member_at) in
        let own : slice_get m.0.file.imports n ≡ Some x =
        subst (λ (y : ParsedFile). slice_get y.file.imports n ≡ Some x) (sym same) h.import_at in
        let bad : None ≡ Some x = sym past ∙ own in cc))
  ]
  | inr out ↦ inr (λ x h. (let bad : None ≡ Some h.member = sym out ∙ h.member_at in cc))
]

-- ---- the traversal terminates

take_out : (rest : List ℕ) (j : ℕ) → Contains rest j → (less : List ℕ) × (suc (length less) ≡ length rest) × ((k : ℕ)
    → Contains rest k → (k ≡ j → ⊥) → Contains less k)
take_out [] j c = absurd (let l : c.0 < 0 = c.1 in omega arith)
take_out (x ∷ xs) j c = elim (cons_cases x xs j c) [
  | inl e ↦ (
    xs,
    refl,
    λ k d ne. elim (cons_cases x xs k d) [
      | inl same ↦ absurd (ne (sym same ∙ e))
      | inr behind ↦ behind
    ],
  )
  | inr after ↦
      let t = take_out xs j after in (
        x ∷ t.0,
        ap suc t.1,
        λ k d ne. elim (cons_cases x xs k d) [
          | inl same ↦ subst (Contains (x ∷ t.0)) same (cons_here x t.0)
          | inr behind ↦ cons_more x t.0 k (t.2 k behind ne)
        ],
      )
]

-- the list contains all files that are not visited yet
abbrev Covers : List ParsedFile → List ℕ → List ℕ → List ℕ → Type 0
Covers set rest visiting left = (j : ℕ) → j < length set → IsUnvisited visiting left j → Contains rest j

abbrev Comes : List ParsedFile → List ℕ → List ℕ → ℕ → ℕ → Type 0
Comes set within left i n = (o : TraversalOutcome) × IsVisit set within left i n o

-- a visit has an outcome if fewer than a files are not visited yet
abbrev Solves : List ParsedFile → ℕ → Type 0
Solves set a = (within left : List ℕ) (i : ℕ) (rest : List ℕ) → length rest < a → IsAt within left i
    → Covers set rest (within ++ i ∷ []) left → Comes set within left i 0

abbrev Few : List ParsedFile → ℕ → ℕ → ℕ → Type 0
Few set i n more = (m : ℕ) (x : Import) → HasImport set i m x → m < n + more

covers_less : (set : List ParsedFile) (rest less visiting left : List ℕ) (j : ℕ)
    → ((k : ℕ) → Contains rest k → (k ≡ j → ⊥) → Contains less k) → Covers set rest visiting left
    → Covers set less (visiting ++ j ∷ []) left
covers_less set rest less visiting left j out cover k l new =
    out k (cover k l (record { unvisited = λ c. new.unvisited (Contains-append_left visiting (j ∷ []) k c); unleft = new.unleft }))
    (λ e. new.unvisited (subst (Contains (visiting ++ j ∷ [])) (sym e) (Contains-push visiting j)))

covers_after : (set : List ParsedFile) (rest visiting left after : List ℕ)
    → ((k : ℕ) → Contains left k → Contains after k) → Covers set rest visiting left → Covers set rest visiting after
covers_after set rest visiting left after keeps cover k l new =
    cover k l (record { unvisited = new.unvisited; unleft = λ c. new.unleft (keeps k c) })

module _ (set : List ParsedFile) (lead : AllResolve set) (a : ℕ) (solve : Solves set a) (within : List ℕ) (i : ℕ) (rest : List ℕ) (small : length rest ≤ a) where
  abbrev GoesOn : ℕ → Type 0
  GoesOn more = (left : List ℕ) (n : ℕ) → Few set i n more → IsAt within left i → Covers set rest (within ++ i ∷ []) left → Comes set within left i n

  after_child : (more n j : ℕ) (left : List ℕ) (o : TraversalOutcome) → GoesOn more → Few set i (n + 1) more
      → IsAt within left i → Covers set rest (within ++ i ∷ []) left → IsImport set i n j
      → IsUnvisited (within ++ i ∷ []) left j → IsVisit set (within ++ i ∷ []) left j 0 o → Comes set within left i n
  after_child more n j left (leaves after) go few at cover l new v =
      let so = leaves_so (new_at (within ++ i ∷ []) left j at.1 new) v in
      let r = go after (n + 1) few (at.0, so.apart) (covers_after set rest (within ++ i ∷ []) left after so.keeps cover) in
      (r.0, enters l new v r.1)
  after_child more n j left (at_cycle k m) go few at cover l new v = (at_cycle k m, meets l new v)

  enter_new : (more n j : ℕ) (left : List ℕ) → GoesOn more → Few set i (n + 1) more → IsAt within left i
      → Covers set rest (within ++ i ∷ []) left → IsImport set i n j → IsUnvisited (within ++ i ∷ []) left j
      → Comes set within left i n
  enter_new more n j left go few at cover l new =
      let t = take_out rest j (cover j (link_file l) new) in
      let r = solve (within ++ i ∷ []) left j t.0 (omega (arith, t.1, small)) (new_at (within ++ i ∷ []) left j at.1 new)
      (covers_less set rest t.0 (within ++ i ∷ []) left j t.2 cover) in
      after_child more n j left r.0 go few at cover l new r.1

  go_on : (more : ℕ) → GoesOn more
  go_on zero left n few at cover = elim (find_import set i n) [
    | inl x ↦ absurd (omega (arith, few n x.0 x.1))
    | inr none ↦ (leaves (i ∷ left), ends none)
  ]
  go_on (suc more) left n few at cover = elim (find_import set i n) [
    | inr none ↦ (leaves (i ∷ left), ends none)
    | inl x ↦
        let j = lead i n x.0 x.1 in
        let fewer : Few set i (n + 1) more = λ m y h. omega (arith, few m y h) in
        elim (is_in (within ++ i ∷ []) j.0) [
          | inl c ↦ (at_cycle i n, closes j.1 c)
          | inr unvisited ↦ elim (is_in left j.0) [
            | inl c ↦ let r = go_on more left (n + 1) fewer at cover in (r.0, passes j.1 c r.1)
            | inr unleft ↦
                enter_new more n j.0 left (go_on more) fewer at cover j.1 (record { unvisited = unvisited; unleft = unleft })
          ]
        ]
  ]

solves : (set : List ParsedFile) → AllResolve set → (a : ℕ) → Solves set a
solves set lead zero within left i rest l at cover = absurd (omega arith)
solves set lead (suc a) within left i rest l at cover =
    go_on set lead a (solves set lead a) within i rest (omega arith) (count_at set i) left 0
    (λ m x h. omega (arith, count_past h)) at cover

up_to : ℕ → List ℕ
up_to zero = []
up_to (suc n) = n ∷ up_to n

in_up_to : (n k : ℕ) → k < n → Contains (up_to n) k
unfolding up_to
in_up_to zero k l = absurd (omega arith)
in_up_to (suc n) k l = elim (cases_lt k n) [
  | inl old ↦ cons_more n (up_to n) k (in_up_to n k old)
  | inr new ↦ let e : n ≡ k = omega arith in subst (Contains (n ∷ up_to n)) e (cons_here n (up_to n))
]

root_comes : (set : List ParsedFile) → AllResolve set → Comes set [] [] 0 0
root_comes set lead =
    solves set lead (suc (length (up_to (length set)))) [] [] 0 (up_to (length set)) (omega arith) at_root
    (λ j l new. in_up_to (length set) j l)

-- ---- the order

order_cases : (set : List ParsedFile) (i j : ℕ) (a b : List ℕ) (o : Ordering) → ArePathsApart set → HasPath set i a
    → HasPath set j b → slice_cmp nat_cmp a b ≡ o → (i ≡ j → ⊥) → IsPathBelow set i j ⊎ IsPathBelow set j i
order_cases set i j a b Less own p q e ne = inl (record { lower = a; upper = b; lower_at = p; upper_at = q; below = e })
order_cases set i j a b Equal own p q e ne =
    let same : a ≡ b = exact_bytes a b e in
    absurd (ne (own.one (subst (HasPath set i) same p) q))
order_cases set i j a b Greater own p q e ne =
    let less : slice_cmp nat_cmp b a ≡ Less = nat_list_cmp_total.antisymm b a ∙ ap ordering_reverse e in
    inr (record { lower = b; upper = a; lower_at = q; upper_at = p; below = less })

path_cases : (set : List ParsedFile) (i j : ℕ) → ArePathsApart set → i < length set → j < length set → (i ≡ j → ⊥) → IsPathBelow set i j ⊎ IsPathBelow set j i
path_cases set i j own li lj ne =
    let m = some_at set i li in
    let n = some_at set j lj in
    order_cases set i j m.0.path n.0.path (slice_cmp nat_cmp m.0.path n.0.path) own
    (record { member = m.0; member_at = m.1; path_is = refl }) (record { member = n.0; member_at = n.1; path_is = refl }) refl ne

ascends_cons : {X : Type 0} (R : X → X → Type 0) (x : X) (xs : List X) → ((y : X) → Contains xs y → R x y) → IsAscendingBy R xs → IsAscendingBy R (x ∷ xs)
ascends_cons R x [] least h = tt
ascends_cons R x (y ∷ ys) least h = (least y (cons_here y ys), h)

record Inserted (set : List ParsedFile) (k : ℕ) (xs : List ℕ) : Type 0 where
  pub all : List ℕ
  pub ascend : IsAscendingBy (IsPathBelow set) all
  pub has : Contains all k
  pub keeps : (z : ℕ) → Contains xs z → Contains all z
  pub alone : (z : ℕ) → Contains all z → (z ≡ k) ⊎ Contains xs z

insert_file : (set : List ParsedFile) (k : ℕ) (xs : List ℕ) → ArePathsApart set → k < length set
    → ((z : ℕ) → Contains xs z → z < length set) → (Contains xs k → ⊥) → IsAscendingBy (IsPathBelow set) xs
    → Inserted set k xs
insert_file set k [] own l within out h = record {
  all = k ∷ [];
  ascend = tt;
  has = cons_here k [];
  keeps = λ z c. cons_more k [] z c;
  alone = λ z c. elim (cons_cases k [] z c) [ inl e ↦ inl (sym e) | inr behind ↦ inr behind ];
}
insert_file set k (x ∷ xs) own l within out h =
    elim (path_cases set k x own l (within x (cons_here x xs)) (λ e. out (subst (Contains (x ∷ xs)) (sym e) (cons_here x xs)))) [
      | inl below ↦ record {
        all = k ∷ x ∷ xs;
        ascend = (below, h);
        has = cons_here k (x ∷ xs);
        keeps = λ z c. cons_more k (x ∷ xs) z c;
        alone = λ z c. elim (cons_cases k (x ∷ xs) z c) [ inl e ↦ inl (sym e) | inr behind ↦ inr behind ];
      }
      | inr above ↦
          let t = insert_file set k xs own l (λ z c. within z (cons_more x xs z c)) (λ c. out (cons_more x xs k c))
          (ascends_rest (IsPathBelow set) x xs h) in
          record {
            all = x ∷ t.all;
            ascend = ascends_cons (IsPathBelow set) x t.all
                (λ y c. elim (t.alone y c) [
                  | inl e ↦ subst (IsPathBelow set x) (sym e) above
                  | inr old ↦ first_is_least (IsPathBelow set) (path_trans set) x xs h y old
                ]) t.ascend;
            has = cons_more x t.all k t.has;
            keeps = λ z c. elim (cons_cases x xs z c) [
              | inl e ↦ subst (Contains (x ∷ t.all)) e (cons_here x t.all)
              | inr behind ↦ cons_more x t.all z (t.keeps z behind)
            ];
            alone = λ z c. elim (cons_cases x t.all z c) [
              | inl e ↦ inr (subst (Contains (x ∷ xs)) e (cons_here x xs))
              | inr behind ↦ elim (t.alone z behind) [ inl e ↦ inl e | inr old ↦ inr (cons_more x xs z old) ]
            ];
          }
    ]

record Others (set : List ParsedFile) (xs : List ℕ) : Type 0 where
  pub all : List ℕ
  pub ascend : IsAscendingBy (IsPathBelow set) all
  pub those : (z : ℕ) → Contains all z → Contains xs z × (z ≡ 0 → ⊥)
  pub each : (z : ℕ) → Contains xs z → (z ≡ 0 → ⊥) → Contains all z

others_of : (set : List ParsedFile) (xs : List ℕ) → ArePathsApart set → ((z : ℕ) → Contains xs z → z < length set) → Others set xs
others_of set [] own within = record {
  all = [];
  ascend = tt;
  those = λ z c. absurd (let l : c.0 < 0 = c.1 in omega arith);
  each = λ z c ne. absurd (let l : c.0 < 0 = c.1 in omega arith);
}
others_of set (x ∷ xs) own within =
    let t = others_of set xs own (λ z c. within z (cons_more x xs z c)) in
    let old : Contains t.all x ⊎ (x ≡ 0) → Others set (x ∷ xs) = λ known. record {
      all = t.all;
      ascend = t.ascend;
      those = λ z c. (cons_more x xs z (t.those z c).0, (t.those z c).1);
      each = λ z c ne. elim (cons_cases x xs z c) [
        | inl e ↦ elim known [
          | inl has ↦ subst (Contains t.all) e has
          | inr root ↦ absurd (ne (sym e ∙ root))
        ]
        | inr behind ↦ t.each z behind ne
      ];
    } in
    elim (cases_eq x 0) [
      | inl root ↦ old (inr root)
      | inr other ↦ elim (is_in t.all x) [
        | inl has ↦ old (inl has)
        | inr out ↦
            let r = insert_file set x t.all own (within x (cons_here x xs)) (λ z c. within z (cons_more x xs z (t.those z c).0)) out t.ascend in
            record {
              all = r.all;
              ascend = r.ascend;
              those = λ z c. elim (r.alone z c) [
                | inl e ↦ (subst (Contains (x ∷ xs)) (sym e) (cons_here x xs), λ f. other (sym e ∙ f))
                | inr before ↦ (cons_more x xs z (t.those z before).0, (t.those z before).1)
              ];
              each = λ z c ne. elim (cons_cases x xs z c) [
                | inl e ↦ subst (Contains r.all) e r.has
                | inr behind ↦ r.keeps z (t.each z behind ne)
              ];
            }
      ]
    ]

joined_of : (set : List ParsedFile) (left : List ℕ) → ArePathsApart set → 0 < length set → IsRootVisit set (leaves left) → (order : List ℕ) × IsResolutionOrder set order
joined_of set left own some v =
    let within : (z : ℕ) → Contains left z → z < length set = λ z c. reached_within some ((root_reaches own v z).0 c) in
    let t = others_of set left own within in (
      0 ∷ t.all,
      record {
        others = t.all;
        root_first = refl;
        ascend = t.ascend;
        reached = λ j. (
          λ c. elim (cons_cases 0 t.all j c) [
            | inl e ↦ subst (IsReachable set 0) e here
            | inr other ↦ (root_reaches own v j).0 (t.those j other).0
          ],
          λ r. elim (cases_eq j 0) [
            | inl root ↦ subst (Contains (0 ∷ t.all)) (sym root) (cons_here 0 t.all)
            | inr other ↦ cons_more 0 t.all j (t.each j ((root_reaches own v j).1 r) other)
          ],
        );
        once = (
          λ c. (t.those 0 c).1 refl,
          apart_distinct t.all (ascends_apart (IsPathBelow set) (path_trans set) (path_strict set) t.all t.ascend),
        );
      },
    )

-- ---- the files that are seen

record SeenBelow (set : List ParsedFile) (i n : ℕ) : Type 0 where
  pub seen : List ℕ
  pub ascend : IsAscendingBy ◌<◌ seen
  pub those : (k : ℕ) → Contains seen k → (k < n) × IsVisible set i k
  pub each : (k : ℕ) → k < n → IsVisible set i k → Contains seen k

seen_step : (set : List ParsedFile) (i n : ℕ) → SeenBelow set i n → (IsVisible set i n) ⊎ (IsVisible set i n → ⊥) → SeenBelow set i (suc n)
seen_step set i n h d = elim d [
  | inl sees ↦ record {
    seen = h.seen ++ n ∷ [];
    ascend = ascends_push h.seen n (λ k c. (h.those k c).0) h.ascend;
    those = λ k c. elim (Contains-push_cases h.seen n k c) [
      | inl old ↦ (omega (arith, (h.those k old).0), (h.those k old).1)
      | inr e ↦ (omega (arith, e), subst (IsVisible set i) e sees)
    ];
    each = λ k l s. elim (cases_lt k n) [
      | inl old ↦ Contains-append_left h.seen (n ∷ []) k (h.each k old s)
      | inr new ↦ let e : n ≡ k = omega arith in subst (Contains (h.seen ++ n ∷ [])) e (Contains-push h.seen n)
    ];
  }
  | inr blind ↦ record {
    seen = h.seen;
    ascend = h.ascend;
    those = λ k c. (omega (arith, (h.those k c).0), (h.those k c).1);
    each = λ k l s. elim (cases_lt k n) [
      | inl old ↦ h.each k old s
      | inr new ↦ let e : k ≡ n = omega arith in absurd (blind (subst (IsVisible set i) e s))
    ];
  }
]

not_no_seen : (set : List ParsedFile) (i n : ℕ) → (SeenBelow set i n → ⊥) → ⊥
not_no_seen set i zero never = never (record {
  seen = [];
  ascend = tt;
  those = λ k c. absurd (let l : c.0 < 0 = c.1 in omega arith);
  each = λ k l s. absurd (omega arith);
})
not_no_seen set i (suc n) never = not_no_seen set i n (λ h.
    never (seen_step set i n h (inr (λ s. never (seen_step set i n h (inl s))))))

sees_within : {set : List ParsedFile} {i j : ℕ} → i < length set → IsVisible set i j → j < length set
sees_within l itself = l
sees_within l (imported h) = link_file h
sees_within l (publicly s h) = link_file h.leads

seen_of : (set : List ParsedFile) (i : ℕ) → i < length set → SeenBelow set i (length set) → (seen : List ℕ) × AreVisible set i seen
seen_of set i l h = (
  h.seen,
  record {
    those = λ j. (λ c. (h.those j c).1, λ s. h.each j (sees_within l s) s);
    ascend = h.ascend;
  },
)

not_no_sees : (set : List ParsedFile) (order : List ℕ) → ((k : ℕ) → Contains order k → k < length set)
    → ((sees : List (List ℕ)) → AllZip (AreVisible set) order sees → ⊥) → ⊥
not_no_sees set [] within never = never [] tt
not_no_sees set (i ∷ order) within never =
    not_no_sees set order (λ k c. within k (cons_more i order k c)) (λ sees all.
    not_no_seen set i (length set) (λ h.
    (let s = seen_of set i (within i (cons_here i order)) h in never (s.0 ∷ sees) (s.1, all))))

-- ---- the law

comes_left : (set : List ParsedFile) (o : TraversalOutcome) → HasNoFaultOf set Cycle → IsRootVisit set o → (left : List ℕ) × IsRootVisit set (leaves left)
comes_left set (leaves left) sound v = (left, v)
comes_left set (at_cycle i n) sound v = absurd (sound i n (cycle_at v))

pub not_neither : (set : List ParsedFile) → 0 < length set → HaveDistinctPaths set → ((reach : ImportClosure) → IsReach set reach → ⊥) → NoFault set → ⊥
not_neither set some distinct never none =
    let own = paths_apart distinct in
    let lead = all_led set (free_missing set none) in
    let root = root_comes set lead in
    let left = comes_left set root.0 (free_cycle set none) root.1 in
    let order = joined_of set left.0 own some left.1 in
    not_no_sees set order.0 (λ k c. reached_within some ((order.1.reached k).0 c)) (λ sees all.
    never (record { order = order.0; sees = sees })
    (reach_is set left.0 (record { order = order.0; sees = sees }) own lead (free_twice set none) left.1 order.1 all))
