-- The lines of an ordered file that exceed the limit of a table's text.
use Rattle.std.proofs.Common.{◌≡◌, ◌≢◌, ℕ, ◌+◌, ◌-◌, ◌^◌, ◌<◌, ◌≤◌, ◌⊎◌, inl, inr, Bool, false, eqb, List, [], ◌∷◌}
use Rattle.std.proofs.Common.{◌++◌, zero, suc, length, get_or, take, refl, sym, ap, ◌∙◌, subst, arith, length-append}
use Rattle.std.specs.Prelude.{Option, Some, option_map, map, sum_by, slice_get, All, Contains, min}
use Rattle.std.specs.List.{flat_map, IsDistinct}
use Rattle.std.specs.List.Sorted.{IsNonDecreasingBy, IsPermutation}
use Rattle.std.proofs.lemmas.Bool.{cases_lt, ne_eqb, eqb-false}
use Rattle.std.proofs.lemmas.Bool.Decides.{nat_tests}
use Rattle.std.proofs.lemmas.List.{length-map, length-take, get_or-take, get_or_default}
use Rattle.std.proofs.lemmas.List.Concat.{flat_map-cons, get_or-flat_map}
use Rattle.std.proofs.lemmas.List.Folds.{length-flat_map-take}
use Rattle.std.proofs.lemmas.List.Sums.{sum_by-cons}
use Rattle.std.proofs.lemmas.List.Sorted.{IsPermutation-sym, Contains-permutation}
use Rattle.std.proofs.lemmas.List.Elements.{All-cons, All-nil, All-contains, Contains-get_or, recursion_from_All}
use Rattle.std.proofs.lemmas.Map.Keys.{IsDistinct-IsPermutation, apart_from_distinct}
use Rattle.std.proofs.lemmas.Option.{same_Some, none-some, slice_get_within, slice_get_read, slice_get-get_or, get_or_from_slice_get, slice_get-map}
use Rattle.mrpc_table.specs.Valid.{IsAscendingBy}
use Rattle.mrpc_table.specs.declared.limits.TheConstants.{MAX_TEXT}
use Rattle.proto_ast.specs.Together.{DeclIndex, message_decl, field_decl, enum_decl, value_decl, rpc_decl}
use Rattle.proto_ast.specs.declared.file.Span.{Span}
use Rattle.proto_ast.specs.declared.file.RpcDecl.{RpcDecl}
use Rattle.proto_ast.specs.declared.file.ServiceDecl.{ServiceDecl}
use Rattle.proto_ast.specs.Joined.{Joined}
use Rattle.schema_validation.specs.Methods.{service_rpcs, rpcs_of}
use Rattle.schema_validation.specs.Lines
use Rattle.schema_validation.specs.Lines.{HasLine}
use Rattle.schema_validation.specs.Recording.{IsOfAny, IsOfElement, IsLongTextViolation}
use Rattle.schema_validation.specs.Lengths
use Rattle.mrpc_table.specs.Capped.{capped}
use Rattle.schema_validation.specs.Lengths.{IsNameLine, HaveDistinctSpans, HasAllLines, IsPast, IsEarlierThan}
use Rattle.schema_validation.specs.declared.reason.ResolveReason.{ResolveReason}
use Rattle.schema_validation.proofs.FullLengths.{contains_at}
use Rattle.schema_validation.proofs.LongNames.{placed}

-- ---- methods of all services

mapped_or_later : (s : ServiceDecl) (rs : List RpcDecl) (later : List (ServiceDecl × RpcDecl)) (i : ℕ)
    (x : ServiceDecl) (r : RpcDecl) → slice_get (map (λ y. (s, y)) rs ++ later) i ≡ Some (x, r)
    → ((s ≡ x) × (slice_get rs i ≡ Some r))
    ⊎ ((k : ℕ) × (slice_get later k ≡ Some (x, r)) × (i ≡ length rs + k))
mapped_or_later s [] later i x r e = inr (i, e, omega arith)
mapped_or_later s (y ∷ ys) later zero x r e =
    let p : ◌≡◌ {A = ServiceDecl × RpcDecl} (s, y) (x, r) = same_Some (s, y) (x, r) e in
    inl (ap (λ (q : ServiceDecl × RpcDecl). q.0) p, ap (λ (q : ServiceDecl × RpcDecl). Some q.1) p)
mapped_or_later s (y ∷ ys) later (suc i) x r e = elim (mapped_or_later s ys later i x r e) [
  | inl p ↦ inl p
  | inr p ↦ inr (p.0, p.1, (let k : i ≡ length ys + p.0 = p.2 in omega arith))
]

service_length : (x : ServiceDecl) → length (service_rpcs x) ≡ length x.rpcs
service_length x =
    let pair : RpcDecl → ServiceDecl × RpcDecl = λ (r : RpcDecl). (x, r) in
    length-map x.rpcs pair

rpc_placed : (services : List ServiceDecl) (i : ℕ) (x : ServiceDecl) (r : RpcDecl)
    → slice_get (flat_map service_rpcs services) i ≡ Some (x, r)
    → (a : ℕ) × (b : ℕ) × (slice_get services a ≡ Some x) × (slice_get x.rpcs b ≡ Some r)
    × (i ≡ length (flat_map service_rpcs (take a services)) + b)
rpc_placed [] i x r e = absurd (none-some (x, r) e)
rpc_placed (s ∷ ss) i x r e = elim (mapped_or_later s s.rpcs (flat_map service_rpcs ss) i x r e) [
  | inl p ↦ (0, i, ap Some p.0, subst (λ (y : ServiceDecl). slice_get y.rpcs i ≡ Some r) p.0 p.1, omega arith)
  | inr p ↦
      let o = rpc_placed ss p.0 x r p.1 in
      let k : p.0 ≡ length (flat_map service_rpcs (take o.0 ss)) + o.1 = o.4 in
      let n : i ≡ length s.rpcs + p.0 = p.2 in (
        suc o.0,
        o.1,
        o.2,
        o.3,
        omega (
          arith,
          ap length (flat_map-cons service_rpcs s (take o.0 ss)),
          length-append (service_rpcs s) (flat_map service_rpcs (take o.0 ss)),
          service_length s,
        ),
      )
]

rpc_at : (services : List ServiceDecl) (a b : ℕ) (x : ServiceDecl) (r : RpcDecl) → slice_get services a ≡ Some x
    → slice_get x.rpcs b ≡ Some r
    → slice_get (flat_map service_rpcs services) (length (flat_map service_rpcs (take a services)) + b) ≡ Some (x, r)
rpc_at services a b x r at rat =
    let d : ServiceDecl × RpcDecl = (x, r) in
    let l : a < length services = slice_get_within services a x at in
    let k : b < length x.rpcs = slice_get_within x.rpcs b r rat in
    let this : get_or services a x ≡ x = get_or_from_slice_get services a x x at in
    let many : length (service_rpcs (get_or services a x)) ≡ length x.rpcs =
    ap (λ (y : ServiceDecl). length (service_rpcs y)) this ∙ service_length x in
    let room : length (flat_map service_rpcs (take a services)) + length (service_rpcs (get_or services a x))
    ≤ length (flat_map service_rpcs services) = length-flat_map-take service_rpcs services a x l in
    let there = get_or-flat_map service_rpcs services a b x d l (omega arith) in
    let pair : RpcDecl → ServiceDecl × RpcDecl = λ (y : RpcDecl). (x, y) in
    let mapped : slice_get (service_rpcs x) b ≡ Some d =
    slice_get-map pair x.rpcs b ∙ ap (λ (o : Option RpcDecl). option_map pair o) rat in
    slice_get-get_or (flat_map service_rpcs services) (length (flat_map service_rpcs (take a services)) + b) d
    (omega arith)
    ∙ ap Some (there ∙ ap (λ (y : ServiceDecl). get_or (service_rpcs y) b d) this
    ∙ get_or_from_slice_get (service_rpcs x) b d d mapped)

-- ---- lines by names and by declarations

-- the declaration of a line
pub line_at : (F : Joined) (s : Span) (text : List ℕ) → HasLine F s text → (d : DeclIndex) × IsNameLine F d s text
line_at F s text (Lines.of_message m c is) =
    let p = placed F.messages m c in
    (message_decl p.0, Lengths.of_message p.0 m p.1 is)
line_at F s text (Lines.of_enum e c is) =
    let p = placed F.enums e c in
    (enum_decl p.0, Lengths.of_enum p.0 e p.1 is)
line_at F s text (Lines.of_value e v h fits) =
    let p = placed F.enums e h.enum in
    let o = placed e.values v h.value in
    (value_decl p.0 o.0, Lengths.of_value p.0 o.0 e v p.1 o.1 fits)
line_at F s text (Lines.of_field m f n h e k form) =
    let o = placed m.fields f h.field in
    (field_decl h.place o.0, Lengths.of_field h.place o.0 m f n h.message o.1 h.is_scope e k form)
line_at F s text (Lines.of_method x r i at a b) =
    let p = rpc_placed F.services i x r at in
    (rpc_decl p.0 p.1, Lengths.of_method p.0 p.1 i x r p.2 p.3 p.4 a b)

has_line : (F : Joined) (d : DeclIndex) (s : Span) (text : List ℕ) → IsNameLine F d s text → HasLine F s text
has_line F d s text (Lengths.of_message i m at is) = Lines.of_message m (contains_at F.messages i m at) is
has_line F d s text (Lengths.of_enum i e at is) = Lines.of_enum e (contains_at F.enums i e at) is
has_line F d s text (Lengths.of_value i j e v at vat fits) =
    Lines.of_value e v (record { enum = contains_at F.enums i e at; value = contains_at e.values j v vat }) fits
has_line F d s text (Lengths.of_field i j m f n at fat is e k form) =
    Lines.of_field m f n
    (record { place = i; message = at; is_scope = is; field = contains_at m.fields j f fat }) e k form
has_line F d s text (Lengths.of_method i j n x r at rat e a b) =
    let there : slice_get (rpcs_of F) n ≡ Some (x, r) =
    ap (λ (k : ℕ). slice_get (rpcs_of F) k) e ∙ rpc_at F.services i j x r at rat in
    Lines.of_method x r n there a b

-- ---- all lines

every_before : (F : Joined) (d : DeclIndex) (s : Span) (text : List ℕ) → IsNameLine F d s text → IsEarlierThan 3 0 0 d
every_before F d s text (Lengths.of_message i m at is) = inl (omega arith)
every_before F d s text (Lengths.of_field i j m f n at fat is e k form) = inl (omega arith)
every_before F d s text (Lengths.of_enum i e at is) = inl (omega arith)
every_before F d s text (Lengths.of_value i j e v at vat fits) = inl (omega arith)
every_before F d s text (Lengths.of_method i j n x r at rat e a b) = inl (omega arith)

-- ---- ascending starts

abbrev pub Rise : List (Span × ℕ) → Type 0
Rise xs = (i j : ℕ) (d : Span × ℕ) → i < j → j < length xs → (get_or xs i d).0.start < (get_or xs j d).0.start

abbrev same_start : Span × ℕ → Span × ℕ → Bool
same_start x y = eqb x.0.start y.0.start

eqb_flips : (m n : ℕ) → eqb m n ≡ eqb n m
eqb_flips m n = grind (arith, nat_tests)

distinct : (xs : List (Span × ℕ)) → HaveDistinctSpans xs → IsDistinct same_start xs
unfolding IsDistinct
distinct [] a = tt
distinct (x ∷ xs) a = (
  recursion_from_All (λ (y : Span × ℕ). same_start x y ≡ false) xs
      (λ k d l. ne_eqb x.0.start (get_or xs k d).0.start (a.0 (get_or xs k d) (Contains-get_or xs k d l))),
  distinct xs a.1,
)

pub rise : (xs ys : List (Span × ℕ)) → HaveDistinctSpans xs → IsPermutation xs ys
    → IsNonDecreasingBy {X = Span × ℕ} (λ x. x.0.start) ys → Rise ys
rise xs ys a p up i j d l k =
    let flips : (x y : Span × ℕ) → same_start x y ≡ same_start y x =
    λ x y. eqb_flips x.0.start y.0.start in
    let apart : same_start (get_or ys i d) (get_or ys j d) ≡ false =
    apart_from_distinct same_start ys i j d
    (IsDistinct-IsPermutation same_start flips xs ys p (distinct xs a)) l k in
    let le : (get_or ys i d).0.start ≤ (get_or ys j d).0.start = up i j d (omega arith) k in
    let ne : (get_or ys i d).0.start ≢ (get_or ys j d).0.start =
    eqb-false (get_or ys i d).0.start (get_or ys j d).0.start apart in
    omega arith

rise_tail : (x : Span × ℕ) (xs : List (Span × ℕ)) → Rise (x ∷ xs) → Rise xs
rise_tail x xs r i j d l k = r (suc i) (suc j) d (omega arith) (omega arith)

rise_take : (n : ℕ) (xs : List (Span × ℕ)) → Rise xs → Rise (take n xs)
rise_take n xs r i j d l k =
    let m : length (take n xs) ≡ min n (length xs) = length-take n xs in
    subst (λ (y : Span × ℕ). y.0.start < (get_or (take n xs) j d).0.start) (sym (get_or-take n xs i d (omega arith)))
    (subst (λ (y : Span × ℕ). (get_or xs i d).0.start < y.0.start) (sym (get_or-take n xs j d (omega arith)))
    (r i j d l (omega arith)))

-- ---- lists of names with their lines

-- each name has a line that is at least as long
abbrev HaveLines : Joined → List (Span × ℕ) → Type 0
HaveLines F xs = (x : Span × ℕ) → Contains xs x → (text : List ℕ) × HasLine F x.0 text × (x.1 ≤ length text)

here : {X : Type 0} (x : X) (xs : List X) → Contains (x ∷ xs) x
here x xs = (0, omega arith, refl)

later : {X : Type 0} (y x : X) (xs : List X) → Contains xs x → Contains (y ∷ xs) x
later y x xs c = (suc c.0, (let l : c.0 < length xs = c.1 in omega arith), c.2)

module _ (F : Joined) where
  lines_of : (xs : List (Span × ℕ)) → HaveLines F xs → List (Span × List ℕ)
  lines_of [] has = []
  lines_of (x ∷ xs) has = (x.0, (has x (here x xs)).0) ∷ lines_of xs (λ y c. has y (later x y xs c))

  lines_are : (xs : List (Span × ℕ)) (has : HaveLines F xs) → All (λ l. HasLine F l.0 l.1) (lines_of xs has)
  unfolding lines_of
  lines_are [] has = All-nil (λ (l : Span × List ℕ). HasLine F l.0 l.1)
  lines_are (x ∷ xs) has =
      All-cons (λ (l : Span × List ℕ). HasLine F l.0 l.1) (x.0, (has x (here x xs)).0)
      (lines_of xs (λ y c. has y (later x y xs c))) (has x (here x xs)).1
      (lines_are xs (λ y c. has y (later x y xs c)))

  lines_ascend : (xs : List (Span × ℕ)) (has : HaveLines F xs) → Rise xs
      → IsAscendingBy (λ a b. a.0.start < b.0.start) (lines_of xs has)
  unfolding lines_of
  lines_ascend [] has r = tt
  lines_ascend (x ∷ []) has r = tt
  lines_ascend (x ∷ y ∷ xs) has r = (
    r 0 1 x (omega arith) (omega arith),
    lines_ascend (y ∷ xs) (λ z c. has z (later x z (y ∷ xs) c)) (rise_tail x (y ∷ xs) r),
  )

  lines_enough : (xs : List (Span × ℕ)) (has : HaveLines F xs)
      → sum_by (λ (x : Span × ℕ). x.1) xs ≤ length (flat_map (λ (l : Span × List ℕ). l.1) (lines_of xs has))
  unfolding lines_of
  lines_enough [] has = omega arith
  lines_enough (x ∷ xs) has =
      let rest = lines_of xs (λ y c. has y (later x y xs c)) in
      let text = (has x (here x xs)).0 in
      let flat : flat_map (λ (l : Span × List ℕ). l.1) ((x.0, text) ∷ rest)
      ≡ text ++ flat_map (λ (l : Span × List ℕ). l.1) rest =
      flat_map-cons (λ (l : Span × List ℕ). l.1) (x.0, text) rest in
      let own : x.1 ≤ length text = (has x (here x xs)).2 in
      omega (
        arith,
        sum_by-cons (λ (y : Span × ℕ). y.1) x xs,
        lines_enough xs (λ y c. has y (later x y xs c)),
        ap length flat,
        length-append text (flat_map (λ (l : Span × List ℕ). l.1) rest),
      )

  lines_last : (xs : List (Span × ℕ)) (has : HaveLines F xs) (k : ℕ) (d : Span × ℕ) → k < length xs
      → (own : List ℕ) × Contains (lines_of xs has) ((get_or xs k d).0, own)
  unfolding lines_of
  lines_last [] has k d l = absurd (omega arith)
  lines_last (x ∷ xs) has zero d l =
      let text = (has x (here x xs)).0 in
      (text, here (x.0, text) (lines_of xs (λ y c. has y (later x y xs c))))
  lines_last (x ∷ xs) has (suc k) d l =
      let more = λ (y : Span × ℕ) (c : Contains xs y). has y (later x y xs c) in
      let o = lines_last xs more k d (omega arith) in
      (o.0, later (x.0, (has x (here x xs)).0) ((get_or xs k d).0, o.0) (lines_of xs more) o.1)

  lines_behind : (xs : List (Span × ℕ)) (has : HaveLines F xs) (n : ℕ)
      → ((x : Span × ℕ) → Contains xs x → x.0.start ≤ n) → All (λ l. l.0.start ≤ n) (lines_of xs has)
  unfolding lines_of
  lines_behind [] has n below = All-nil (λ (l : Span × List ℕ). l.0.start ≤ n)
  lines_behind (x ∷ xs) has n below =
      All-cons (λ (l : Span × List ℕ). l.0.start ≤ n) (x.0, (has x (here x xs)).0)
      (lines_of xs (λ y c. has y (later x y xs c))) (below x (here x xs))
      (lines_behind xs (λ y c. has y (later x y xs c)) n (λ y c. below y (later x y xs c)))

-- ---- sums of lines

-- a later line starts later
ascends_all : (l : Span × List ℕ) (ls : List (Span × List ℕ)) → IsAscendingBy (λ a b. a.0.start < b.0.start) (l ∷ ls)
    → (m : Span × List ℕ) → Contains ls m → l.0.start < m.0.start
ascends_all l [] a m c = absurd (let k : c.0 < 0 = c.1 in omega arith)
ascends_all l (x ∷ ls) a m (zero, k, e) = subst (λ (y : Span × List ℕ). l.0.start < y.0.start) e a.0
ascends_all l (x ∷ ls) a m (suc n, k, e) =
    let far = ascends_all x ls a.1 m (n, omega arith, e) in
    let near : l.0.start < x.0.start = a.0 in
    omega arith

ascends_tail : (l : Span × List ℕ) (ls : List (Span × List ℕ)) → IsAscendingBy (λ a b. a.0.start < b.0.start) (l ∷ ls)
    → IsAscendingBy (λ a b. a.0.start < b.0.start) ls
ascends_tail l [] a = tt
ascends_tail l (x ∷ ls) a = a.1

-- a name with the capped length of its line
abbrev cut : Span × List ℕ → Span × ℕ
cut l = (l.0, capped (length l.1))

-- an element that starts after the first one isn't the first
behind_first : (x : Span × ℕ) (xs : List (Span × ℕ)) (y : Span × ℕ) → x.0.start < y.0.start → Contains (x ∷ xs) y
    → Contains xs y
behind_first x xs y l (zero, k, e) =
    let same : x.0.start ≡ y.0.start = ap (λ (z : Span × ℕ). z.0.start) e in
    absurd (omega arith)
behind_first x xs y l (suc n, k, e) = (n, omega arith, e)

abbrev AreAmong : List (Span × List ℕ) → List (Span × ℕ) → Type 0
AreAmong ls xs = (l : Span × List ℕ) → Contains ls l → Contains xs (cut l)

cut_le : (a b m n : ℕ) → min a (2 ^ 64 - 1) ≤ m → min b (2 ^ 64 - 1) ≤ n → min (a + b) (2 ^ 64 - 1) ≤ m + n
cut_le a b m n x y = omega arith

first_or_rest : (x : Span × ℕ) (xs : List (Span × ℕ)) (y : Span × ℕ) → Contains (x ∷ xs) y → (x ≡ y) ⊎ Contains xs y
first_or_rest x xs y (zero, k, e) = inl e
first_or_rest x xs y (suc n, k, e) = inr (n, omega arith, e)

first_or_rest_line : (x : Span × List ℕ) (xs : List (Span × List ℕ)) (y : Span × List ℕ) → Contains (x ∷ xs) y
    → (x ≡ y) ⊎ Contains xs y
first_or_rest_line x xs y (zero, k, e) = inl e
first_or_rest_line x xs y (suc n, k, e) = inr (n, omega arith, e)

first_below : (x : Span × ℕ) (xs : List (Span × ℕ)) (y : Span × ℕ) → Rise (x ∷ xs) → Contains xs y
    → x.0.start < y.0.start
first_below x xs y r c =
    let k : c.0 < length xs = c.1 in
    let l : x.0.start < (get_or xs c.0 y).0.start = r 0 (suc c.0) y (omega arith) (omega arith) in
    subst (λ (z : Span × ℕ). x.0.start < z.0.start) c.2 l

all_covered : (xs : List (Span × ℕ)) (ls : List (Span × List ℕ)) → Rise xs → IsAscendingBy (λ a b. a.0.start < b.0.start) ls
    → AreAmong ls xs
    → capped (length (flat_map (λ (l : Span × List ℕ). l.1) ls)) ≤ sum_by (λ (x : Span × ℕ). x.1) xs
all_covered xs [] r a among = omega arith
all_covered [] (l ∷ ls) r a among = absurd (let c = among l (here l ls) in let k : c.0 < 0 = c.1 in omega arith)
all_covered (x ∷ xs) (l ∷ ls) r a among =
    let sum = sum_by-cons (λ (y : Span × ℕ). y.1) x xs in
    elim (first_or_rest x xs (cut l) (among l (here l ls))) [
      | inl e ↦
          let start : x.0.start ≡ l.0.start = ap (λ (y : Span × ℕ). y.0.start) e in
          let own : x.1 ≡ capped (length l.1) = ap (λ (y : Span × ℕ). y.1) e in
          let rest = all_covered xs ls (rise_tail x xs r) (ascends_tail l ls a) (λ m c.
          let far : l.0.start < m.0.start = ascends_all l ls a m c in
          behind_first x xs (cut m) (omega arith) (among m (later l m ls c))) in
          let flat : length (flat_map (λ (m : Span × List ℕ). m.1) (l ∷ ls))
          ≡ length l.1 + length (flat_map (λ (m : Span × List ℕ). m.1) ls) =
          ap length (flat_map-cons (λ (m : Span × List ℕ). m.1) l ls)
          ∙ length-append l.1 (flat_map (λ (m : Span × List ℕ). m.1) ls) in
          omega (
            arith,
            sum,
            rest,
            cut_le (length l.1) (length (flat_map (λ (m : Span × List ℕ). m.1) ls)) x.1
                (sum_by (λ (y : Span × ℕ). y.1) xs) (omega arith) rest,
          )
      | inr c ↦
          let behind : x.0.start < l.0.start = first_below x xs (cut l) r c in
          let rest = all_covered xs (l ∷ ls) (rise_tail x xs r) a (λ m k. elim (first_or_rest_line l ls m k) [
            | inl e ↦ subst (λ (y : Span × List ℕ). Contains xs (cut y)) e c
            | inr k2 ↦
                let far : l.0.start < m.0.start = ascends_all l ls a m k2 in
                behind_first x xs (cut m) (omega arith) (among m k)
          ]) in
          omega (arith, sum, rest)
    ]

-- ---- the violation of a long text

module _ (F : Joined) (lines ys : List (Span × ℕ)) (v : HasAllLines F lines) (p : IsPermutation lines ys)
    (up : IsNonDecreasingBy {X = Span × ℕ} (λ x. x.0.start) ys)
    (one : (d : DeclIndex) (s t : Span) (text other : List ℕ) → IsNameLine F d s text → IsNameLine F d t other
    → (s ≡ t) × (text ≡ other)) where
  risen : Rise ys
  risen = rise lines ys v.once p up

  in_front : (n : ℕ) (x : Span × ℕ) → Contains (take n ys) x → Contains ys x
  in_front n x c =
      let l : c.0 < length (take n ys) = c.1 in
      let m : length (take n ys) ≡ min n (length ys) = length-take n ys in
      (c.0, omega arith, sym (get_or-take n ys c.0 x (omega arith)) ∙ c.2)

  have_lines : (n : ℕ) → HaveLines F (take n ys)
  have_lines n x c =
      let o = v.sound x (Contains-permutation ys lines x (IsPermutation-sym lines ys p) (in_front n x c)) in
      let is : x.1 ≡ capped (length o.2.text) = o.2.is in
      (o.2.text, has_line F o.0 x.0 o.2.text o.2.at, omega arith)

  known : (s : Span) (text : List ℕ) → HasLine F s text → Contains ys (s, capped (length text))
  known s text has =
      let d = line_at F s text has in
      let o = v.whole d.0 s text (every_before F d.0 s text d.1) d.1 in
      let x = o.0 in
      let same = one d.0 x.0 s o.2.text text o.2.at d.1 in
      let length_is : x.1 ≡ capped (length text) =
      o.2.is ∙ ap (λ (t : List ℕ). capped (length t)) same.1 in
      subst (λ (t : Span). Contains ys (t, capped (length text))) same.0
      (subst (λ (n : ℕ). Contains ys (x.0, n)) length_is (Contains-permutation lines ys x p o.1))

  pub text_to : (q : ResolveReason) (s : Span) → IsOfAny (IsOfElement ys (IsPast ys)) q s → IsLongTextViolation F q s
  text_to q s k =
      let i = k.place in
      let x = k.is.element in
      let n = i + 1 in
      let l : i < length ys = slice_get_within ys i x k.is.at in
      let has = have_lines n in
      let m : length (take n ys) ≡ min n (length ys) = length-take n ys in
      let own = lines_last F (take n ys) has i x (omega arith) in
      let read : get_or ys i x ≡ x = get_or_from_slice_get ys i x x k.is.at in
      let this : get_or (take n ys) i x ≡ x = get_or-take n ys i x (omega arith) ∙ read in
      let past : MAX_TEXT < sum_by (λ (y : Span × ℕ). y.1) (take n ys) = k.is.is.0 in (
        x.0,
        record {
          lines = lines_of F (take n ys) has;
          are = lines_are F (take n ys) has;
          ascend = lines_ascend F (take n ys) has (rise_take n ys risen);
          own = own.0;
          last = subst (λ (y : Span × ℕ). Contains (lines_of F (take n ys) has) (y.0, own.0)) this own.1;
          none_behind = lines_behind F (take n ys) has x.0.start (λ y c.
              let j : c.0 < length (take n ys) = c.1 in
              let le : (get_or ys c.0 y).0.start ≤ (get_or ys i y).0.start = up c.0 i y (omega arith) l in
              let a : get_or ys c.0 y ≡ y = sym (get_or-take n ys c.0 y (omega arith)) ∙ c.2 in
              let b : get_or ys i y ≡ x = get_or_from_slice_get ys i x y k.is.at in
              omega (arith, ap (λ (z : Span × ℕ). z.0.start) a, ap (λ (z : Span × ℕ). z.0.start) b));
          pass = omega (arith, lines_enough F (take n ys) has);
        },
        k.is.is.1,
      )

  pub text_from : (q : ResolveReason) (s : Span) → IsLongTextViolation F q s → IsOfAny (IsOfElement ys (IsPast ys)) q s
  text_from q s k =
      let span = k.0 in
      let passes = k.1 in
      let line_of : (l : Span × List ℕ) → Contains passes.lines l → HasLine F l.0 l.1 =
      λ l c. All-contains (λ (m : Span × List ℕ). HasLine F m.0 m.1) passes.lines l passes.are c in
      let x : Span × ℕ = (span, capped (length passes.own)) in
      let there : Contains ys x = known span passes.own (line_of (span, passes.own) passes.last) in
      let i = there.0 in
      let l : i < length ys = there.1 in
      let n = i + 1 in
      let m : length (take n ys) ≡ min n (length ys) = length-take n ys in
      let among : AreAmong passes.lines (take n ys) = λ y c.
      let in_all : Contains ys (cut y) = known y.0 y.1 (line_of y c) in
      let le : y.0.start ≤ span.start =
      All-contains (λ (z : Span × List ℕ). z.0.start ≤ span.start) passes.lines y passes.none_behind c in
      let j : in_all.0 < length ys = in_all.1 in
      let not_behind : in_all.0 ≤ i = elim (cases_lt i in_all.0) [
        | inl far ↦
            let after : (get_or ys i (cut y)).0.start < (get_or ys in_all.0 (cut y)).0.start =
            risen i in_all.0 (cut y) far j in
            let a : get_or ys i (cut y) ≡ x = get_or_default ys i (cut y) x l ∙ there.2 in
            absurd (omega (arith, ap (λ (z : Span × ℕ). z.0.start) a, ap (λ (z : Span × ℕ). z.0.start) in_all.2))
        | inr near ↦ near
      ] in
      (in_all.0, omega arith, get_or-take n ys in_all.0 (cut y) (omega arith) ∙ in_all.2) in
      let covered : capped (length (flat_map (λ (z : Span × List ℕ). z.1) passes.lines))
      ≤ sum_by (λ (z : Span × ℕ). z.1) (take n ys) =
      all_covered (take n ys) passes.lines (rise_take n ys risen) passes.ascend among in
      record {
        place = i;
        is = record {
          element = x;
          at = slice_get_read ys (length ys) i x refl l (sym there.2);
          is = (omega (arith, passes.pass), k.2);
        };
      }
