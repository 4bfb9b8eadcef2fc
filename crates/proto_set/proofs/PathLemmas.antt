-- Valid paths, and the first rejected one.
use Rattle.std.proofs.Common.{◌≡◌, ◌≢◌, ℕ, zero, suc, ◌+◌, ◌-◌, ◌<◌, ◌||◌, Bool, true, false, List, [], ◌∷◌, ◌++◌}
use Rattle.std.proofs.Common.{length, get_or, take, drop, ◌⊎◌, inl, inr, refl, ap, sym, subst, ◌∙◌, arith}
use Rattle.std.proofs.Common.{append_assoc, length-append}
use Rattle.std.specs.Prelude.{All, AllPairs, Contains, IsTrue, ◌↔◌}
use Rattle.std.specs.List.{list_all, list_any}
use Rattle.std.specs.Str.{bytes_eq}
use Rattle.std.proofs.lemmas.Bool.{cases_lt}
use Rattle.std.proofs.lemmas.List.{append-nil, map-append, length-map, length-take-le, take-append-drop, get_or_default, get_or-append_right, get_or_append_left, take_more}
use Rattle.std.proofs.lemmas.List.Elements.{All-push, All-nil}
use Rattle.std.proofs.lemmas.List.Quantifiers.{all_pairs_push}
use Rattle.std.proofs.lemmas.Slice.Eq.{bytes_eq-Decides}
use Rattle.proto_set.specs.Bundle.{BundledFile, paths_of}
use Rattle.proto_set.specs.Named.{file_of, files_of}
use Rattle.proto_set.specs.Paths.{IsPath, HaveValidPaths, IsRejectedPath, no_path, second, IsFirstRejected, is_path_byte}
use Rattle.proto_set.specs.declared.named.Named.{Named}

-- ---- one more path

pub right_none : HaveValidPaths []
right_none = record { each = All-nil IsPath; distinct = λ i j d lt within. absurd (omega (arith, within)) }

pub right_push : (files : List BundledFile) (f : BundledFile) → HaveValidPaths files → IsPath f.0 → (Contains (paths_of files) f.0 → ⊥) → HaveValidPaths (files ++ f ∷ [])
right_push files f r is new =
    let paths : paths_of (files ++ f ∷ []) ≡ paths_of files ++ f.0 ∷ [] = map-append (λ (g : BundledFile). g.0) files (f ∷ []) in record {
      each = subst (All IsPath) (sym paths) (All-push IsPath (paths_of files) f.0 r.each is);
      distinct = subst (AllPairs (λ (path later : List ℕ). later ≢ path)) (sym paths)
          (all_pairs_push (λ (path later : List ℕ). later ≢ path) (paths_of files) f.0 r.distinct
          (λ k d within same. new (k, within, get_or_default (paths_of files) k f.0 d within ∙ sym same)));
    }

-- ---- a rejected path isn't valid

refused_here : (before later : List (List ℕ)) (path : List ℕ) → All IsPath (before ++ path ∷ later)
    → AllPairs (λ (path later : List ℕ). later ≢ path) (before ++ path ∷ later)
    → IsPath path × (Contains before path → ⊥)
refused_here before later path each distinct =
    let here : get_or (before ++ path ∷ later) (length before) path ≡ path =
    get_or-append_right before (path ∷ later) (length before) (length before) path refl (omega arith)
    ∙ ap (λ (i : ℕ). get_or (path ∷ later) i path) (let none : length before - length before ≡ 0 = omega arith in
    none) in
    let within : length before < length (before ++ path ∷ later) = omega (arith, length-append before (path ∷ later)) in (
      subst IsPath here (each (length before) path within),
      λ c. distinct c.0 (length before) path c.1 within (here ∙ sym (get_or_append_left before (path ∷ later) path c.0 c.1 ∙ c.2)),
    )

pub not_refused : (before : List BundledFile) (file : BundledFile) (later : List BundledFile) → HaveValidPaths (before ++ file ∷ later) → IsRejectedPath before file.0 → ⊥
not_refused before file later r refused =
    let paths : paths_of (before ++ file ∷ later) ≡ paths_of before ++ file.0 ∷ paths_of later = map-append (λ (g : BundledFile). g.0) before (file ∷ later) in
    let here = refused_here (paths_of before) (paths_of later) file.0 (subst (All IsPath) paths r.each) (subst (AllPairs (λ (path later : List ℕ). later ≢ path)) paths r.distinct) in
    by_cases here refused
  where
    by_cases : IsPath file.0 × (Contains (paths_of before) file.0 → ⊥) → IsRejectedPath before file.0 → ⊥
    by_cases h (no_path none) = none h.0
    by_cases h (second has) = h.1 has

pub never_right_and_refused : (files : List BundledFile) (k : ℕ) → HaveValidPaths files → IsFirstRejected files k → ⊥
never_right_and_refused files k r f = not_refused f.before f.file f.later (subst HaveValidPaths f.order r) f.refused

-- ---- the first one is unique

-- two lists with a marked element: the mark of the shorter one is in the longer one
record Within (xs : List BundledFile) (x : BundledFile) (ys : List BundledFile) : Type 0 where
  more : List BundledFile
  is : ys ≡ xs ++ x ∷ more

heads : (x y : BundledFile) (xs ys : List BundledFile) → x ∷ xs ≡ y ∷ ys → (x ≡ y) × (xs ≡ ys)
heads x y xs ys e = (cc, cc)

which_first : (xs ys : List BundledFile) (x y : BundledFile) (ms ns : List BundledFile) → xs ++ x ∷ ms ≡ ys ++ y ∷ ns → (length xs ≡ length ys) ⊎ (Within xs x ys ⊎ Within ys y xs)
which_first [] [] x y ms ns e = inl refl
which_first [] (z ∷ zs) x y ms ns e = inr (inl (record { more = zs; is = ap (λ (w : BundledFile). w ∷ zs) (sym (heads x z ms (zs ++ y ∷ ns) e).0) }))
which_first (w ∷ ws) [] x y ms ns e = inr (inr (record { more = ws; is = ap (λ (z : BundledFile). z ∷ ws) (heads w y (ws ++ x ∷ ms) ns e).0 }))
which_first (w ∷ ws) (z ∷ zs) x y ms ns e =
    let h = heads w z (ws ++ x ∷ ms) (zs ++ y ∷ ns) e in
    elim (which_first ws zs x y ms ns h.1) [
      | inl same ↦ inl (omega (arith, same))
      | inr one ↦ elim one [
        | inl i ↦ inr (inl (record { more = i.more; is = λ j. sym h.0 j ∷ i.is j }))
        | inr i ↦ inr (inr (record { more = i.more; is = λ j. h.0 j ∷ i.is j }))
      ]
    ]

pub refused_once : (files : List BundledFile) (k j : ℕ) → IsFirstRejected files k → IsFirstRejected files j → k ≡ j
refused_once files k j a b = elim (which_first a.before b.before a.file b.file a.later b.later (sym a.order ∙ b.order)) [
  | inl same ↦ omega (arith, a.number, b.number, same)
  | inr one ↦ elim one [
    | inl i ↦ absurd (not_refused a.before a.file i.more (subst HaveValidPaths i.is b.right) a.refused)
    | inr i ↦ absurd (not_refused b.before b.file i.more (subst HaveValidPaths i.is a.right) b.refused)
  ]
]

-- ---- a path is valid or not, and is among others or not

form_or_not : (path : List ℕ) (b : Bool) → list_all is_path_byte path ≡ b → IsPath path ⊎ (IsPath path → ⊥)
form_or_not path false e = inr (λ p. let yes : list_all is_path_byte path ≡ true = p.form in cc)
form_or_not path true e = elim (cases_lt 0 (length path)) [
  | inr none ↦ inr (λ p. omega (arith, p.some, none))
  | inl some ↦ elim (cases_lt 255 (length path)) [
    | inl long ↦ inr (λ p. omega (arith, p.short, long))
    | inr short ↦ inl (record { some = omega arith; short = short; form = e })
  ]
]

pub path_or_not : (path : List ℕ) → IsPath path ⊎ (IsPath path → ⊥)
path_or_not path = form_or_not path (list_all is_path_byte path) refl

-- a search of the paths finds exactly those among them
pub found_or_not : (paths : List (List ℕ)) (path : List ℕ)
    → (list_any (λ p. bytes_eq p path) paths ≡ true → Contains paths path) × (Contains paths path
    → list_any (λ p. bytes_eq p path) paths ≡ true)
found_or_not [] path = (λ e. absurd cc, λ c. absurd (omega (arith, c.1)))
found_or_not (p ∷ ps) path = in_cases (bytes_eq p path) refl (found_or_not ps path)
  where
    in_cases : (b : Bool) → bytes_eq p path ≡ b → (list_any (λ p. bytes_eq p path) ps ≡ true → Contains ps path)
        × (Contains ps path → list_any (λ p. bytes_eq p path) ps ≡ true)
        → ((b || list_any (λ p. bytes_eq p path) ps) ≡ true → Contains (p ∷ ps) path) × (Contains (p ∷ ps) path → (b || list_any (λ p. bytes_eq p path) ps) ≡ true)
    in_cases true e rest = (λ _. (0, omega arith, (bytes_eq-Decides p path).0 e), λ _. refl)
    in_cases false e rest = (λ found. let c = rest.0 found in (suc c.0, omega (arith, c.1), c.2), there)
      where
        there : Contains (p ∷ ps) path → list_any (λ p. bytes_eq p path) ps ≡ true
        there (zero, within, same) = let yes : bytes_eq p path ≡ true = (bytes_eq-Decides p path).1 same in absurd cc
        there (suc k, within, same) = rest.1 (k, omega (arith, within), same)

contained_or_not : (paths : List (List ℕ)) (path : List ℕ) (b : Bool) → list_any (λ p. bytes_eq p path) paths ≡ b → Contains paths path ⊎ (Contains paths path → ⊥)
contained_or_not paths path true e = inl ((found_or_not paths path).0 e)
contained_or_not paths path false e = inr (λ c. let yes = (found_or_not paths path).1 c in cc)

-- ---- files have valid paths, or one is the first that is rejected

right_on : (before later : List BundledFile) → HaveValidPaths before → HaveValidPaths (before ++ later) ⊎ ((k : ℕ) × IsFirstRejected (before ++ later) k)
right_on before [] r = inl (subst HaveValidPaths (sym (append-nil before)) r)
right_on before (f ∷ fs) r = elim (path_or_not f.0) [
  | inr none ↦ inr (length before, record { before = before; file = f; later = fs; order = refl; right = r; refused = no_path none; number = refl })
  | inl is ↦ elim (contained_or_not (paths_of before) f.0 (list_any (λ p. bytes_eq p f.0) (paths_of before)) refl) [
    | inl has ↦ inr (length before, record { before = before; file = f; later = fs; order = refl; right = r; refused = second has; number = refl })
    | inr new ↦
        let on = right_on (before ++ f ∷ []) fs (right_push before f r is new) in
        let same : (before ++ f ∷ []) ++ fs ≡ before ++ f ∷ fs = append_assoc before (f ∷ []) fs in
        subst (λ (gs : List BundledFile). HaveValidPaths gs ⊎ ((k : ℕ) × IsFirstRejected gs k)) same on
  ]
]

pub right_or_refused : (files : List BundledFile) → HaveValidPaths files ⊎ ((k : ℕ) × IsFirstRejected files k)
right_or_refused files = right_on [] files right_none

-- ---- one borrowed file after another

any_path : (ps : List Named) (path : List ℕ) → list_any (λ f. bytes_eq f.path.now path) ps ≡ list_any (λ p. bytes_eq p path) (paths_of (files_of ps))
any_path [] path = refl
any_path (p ∷ ps) path = ap (λ (b : Bool). bytes_eq p.path.now path || b) (any_path ps path)

parted : (ps : List Named) (i : ℕ) (d : Named) → i < length ps → files_of ps ≡ files_of (take i ps) ++ file_of (get_or ps i d) ∷ files_of (drop (i + 1) ps)
parted ps i d within =
    let whole : take i ps ++ get_or ps i d ∷ drop (i + 1) ps ≡ ps =
    sym (append_assoc (take i ps) (get_or ps i d ∷ []) (drop (i + 1) ps))
    ∙ ap (λ (t : List Named). t ++ drop (i + 1) ps) (sym (take_more ps i d within))
    ∙ take-append-drop (i + 1) ps in
    ap files_of (sym whole) ∙ map-append file_of (take i ps) (get_or ps i d ∷ drop (i + 1) ps)

refused_first : (ps : List Named) (i : ℕ) (d : Named) → i < length ps → HaveValidPaths (files_of (take i ps))
    → IsRejectedPath (files_of (take i ps)) (get_or ps i d).path.now → IsFirstRejected (files_of ps) i
refused_first ps i d within right refused = record {
  before = files_of (take i ps);
  file = file_of (get_or ps i d);
  later = files_of (drop (i + 1) ps);
  order = parted ps i d within;
  right = right;
  refused = refused;
  number = let long : length (files_of (take i ps)) ≡ i = length-map (take i ps) file_of ∙ length-take-le i ps (omega (arith, within)) in omega (arith, long);
}

pub no_path_first : (ps : List Named) (i : ℕ) (d : Named) (r : Bool) → i < length ps
    → HaveValidPaths (files_of (take i ps)) → (IsTrue r ↔ IsPath (get_or ps i d).path.now) → r ≡ false
    → IsFirstRejected (files_of ps) i
no_path_first ps i d r within right tells is = refused_first ps i d within right (no_path (λ p. let yes : r ≡ true = tells.1 p in cc))

pub second_first : (ps : List Named) (i : ℕ) (d : Named) → i < length ps → HaveValidPaths (files_of (take i ps))
    → true ≡ list_any (λ f. bytes_eq f.path.now (get_or ps i d).path.now) (take i ps)
    → IsFirstRejected (files_of ps) i
second_first ps i d within right found =
    refused_first ps i d within right
    (second ((found_or_not (paths_of (files_of (take i ps))) (get_or ps i d).path.now).0
    (sym (any_path (take i ps) (get_or ps i d).path.now) ∙ sym found)))

pub right_more : (ps : List Named) (i : ℕ) (d : Named) → i < length ps → HaveValidPaths (files_of (take i ps)) → IsPath (get_or ps i d).path.now
    → false ≡ list_any (λ f. bytes_eq f.path.now (get_or ps i d).path.now) (take i ps) → HaveValidPaths (files_of (take (i + 1) ps))
right_more ps i d within right is none =
    let files : files_of (take (i + 1) ps) ≡ files_of (take i ps) ++ file_of (get_or ps i d) ∷ [] =
    ap files_of (take_more ps i d within) ∙ map-append file_of (take i ps) (get_or ps i d ∷ []) in
    subst HaveValidPaths (sym files)
    (right_push (files_of (take i ps)) (file_of (get_or ps i d)) right is
    (λ c. let yes = (found_or_not (paths_of (files_of (take i ps))) (get_or ps i d).path.now).1 c in let no = any_path (take i ps) (get_or ps i d).path.now in cc))
