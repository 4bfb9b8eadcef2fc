-- The methods of a service, index by index.
use Rattle.std.proofs.Common.{◌≡◌, ◌≢◌, ℕ, zero, suc, ◌+◌, ◌<◌, ◌≤◌, ◌↔◌, Bool, true, false, cond, List, [], ◌∷◌}
use Rattle.std.proofs.Common.{length, Option, Some, None, map, inl, inr, refl, sym, ap, subst, ◌∙◌, arith, add-zero}
use Rattle.std.proofs.Common.{Bor}
use Rattle.std.specs.Prelude.{Contains, slice_get, option_map, option_and_then, if◌then◌else◌, is_some, IsTrue}
use Rattle.std.specs.List.{filter_map, filter, enumerate_from, range_with_len, cons_option}
use Rattle.std.specs.Option.{option_copied}
use Rattle.std.specs.Str.{bytes_eq}
use Rattle.std.proofs.lemmas.Bool.{cases_Bool, cond-true, cond-false, false≢true, true≢false}
use Rattle.std.proofs.lemmas.Option.{slice_get_past, slice_get_within, same_Some, none-some, option_and_then_some}
use Rattle.std.proofs.lemmas.Slice.Eq.{bytes_eq-Decides}
use Rattle.mrpc_table.specs.declared.table.Method.{Method}
use Rattle.mrpc_table.specs.declared.table.Table.{Table}
use Rattle.schema_binding.specs.Agreement.{Signature, signature, methods_of, HasMethodOf}
use Rattle.schema_binding.specs.Places.{method_at, signature_at}
use Rattle.schema_binding.specs.Disagreement.{AreFirstDifferentFrom}

-- ---- lists by index

-- a function of elements with their indices gives the same list as a function of the indices
by_place : {X Y : Type 0} (h : ℕ × X → Option Y) (g : ℕ → Option Y) (xs : List X) (a n : ℕ) → length xs ≤ n
    → ((k : ℕ) (x : X) → slice_get xs k ≡ Some x → g (a + k) ≡ h (a + k, x)) → ((k : ℕ) → length xs ≤ k → g (a + k) ≡ None)
    → filter_map h (enumerate_from a xs) ≡ filter_map g (range_with_len a n)
by_place h g [] a zero few here past = refl
by_place {X} {Y} h g [] a (suc n) few here past =
    let none : g a ≡ None = ap g (sym (add-zero a)) ∙ past 0 (omega arith) in
    let rest : [] ≡ filter_map g (range_with_len (a + 1) n) =
    by_place h g [] (a + 1) n (omega arith) (λ k x e. absurd (none-some x e)) (λ k le. ap g (omega arith) ∙ past (k + 1) (omega arith)) in
    rest ∙ ap (λ (o : Option Y). cons_option o (filter_map g (range_with_len (a + 1) n))) (sym none)
by_place h g (x ∷ xs) a zero few here past = absurd (omega arith)
by_place {X} {Y} h g (x ∷ xs) a (suc n) few here past =
    let first : g a ≡ h (a, x) = subst (λ b. g b ≡ h (b, x)) (add-zero a) (here 0 x refl) in
    let rest : filter_map h (enumerate_from (a + 1) xs) ≡ filter_map g (range_with_len (a + 1) n) =
    by_place h g xs (a + 1) n (omega arith)
    (λ k y e. subst (λ b. g b ≡ h (b, y)) (let same : a + suc k ≡ a + 1 + k = omega arith in same) (here (suc k) y e))
    (λ k le. ap g (let same : a + 1 + k ≡ a + suc k = omega arith in same) ∙ past (suc k) (omega arith)) in
    ap (cons_option (h (a, x))) rest ∙ ap (λ (o : Option Y). cons_option o (filter_map g (range_with_len (a + 1) n))) (sym first)

-- a signature has the index that it is given for
record IsIndexed (g : ℕ → Option Signature) : Type 0 where
  pub index : (i : ℕ) (s : Signature) → g i ≡ Some s → s.index ≡ i

-- the first of a list is at or above an index
from_first : (g : ℕ → Option Signature) → IsIndexed g → (a n : ℕ) (s : Signature) → slice_get (filter_map g (range_with_len a n)) 0 ≡ Some s → a ≤ s.index
from_first g is a zero s e = absurd (none-some s e)
from_first g is a (suc n) s e = at_first (λ t h. from_first g is (a + 1) n t h) (g a) refl e
  where
    at_first : ((t : Signature) → slice_get (filter_map g (range_with_len (a + 1) n)) 0 ≡ Some t → a + 1 ≤ t.index)
        → (o : Option Signature) → g a ≡ o → slice_get (cons_option o (filter_map g (range_with_len (a + 1) n))) 0 ≡ Some s → a ≤ s.index
    at_first later None here e = let more : a + 1 ≤ s.index = later s e in omega arith
    at_first later (Some t) here e = let at : s.index ≡ a = is.index a s (here ∙ e) in omega arith

-- two lists that differ in the first element
heads_differ : (o p : Option Signature) (a : ℕ) (xs ys : List Signature) → o ≢ p
    → ((s : Signature) → o ≡ Some s → s.index ≡ a) → ((s : Signature) → p ≡ Some s → s.index ≡ a)
    → ((s : Signature) → slice_get xs 0 ≡ Some s → a + 1 ≤ s.index) → ((s : Signature) → slice_get ys 0 ≡ Some s → a + 1 ≤ s.index)
    → slice_get (cons_option o xs) 0 ≢ slice_get (cons_option p ys) 0
heads_differ None None a xs ys other at_o at_p above_x above_y e = other refl
heads_differ None (Some t) a xs ys other at_o at_p above_x above_y e =
    let low : a + 1 ≤ t.index = above_x t e in
    let is : t.index ≡ a = at_p t refl in
    omega (arith, low, is)
heads_differ (Some s) None a xs ys other at_o at_p above_x above_y e =
    let low : a + 1 ≤ s.index = above_y s (sym e) in
    let is : s.index ≡ a = at_o s refl in
    omega (arith, low, is)
heads_differ (Some s) (Some t) a xs ys other at_o at_p above_x above_y e = other e

-- one more element before both
shift : (o p : Option Signature) (front xs ys : List Signature) → o ≡ p → AreFirstDifferentFrom xs ys (length front)
    → AreFirstDifferentFrom (cons_option o xs) (cons_option p ys) (length (cons_option o front))
shift None None front xs ys same d = d
shift None (Some t) front xs ys same d = absurd (none-some t same)
shift (Some s) None front xs ys same d = absurd (none-some s (sym same))
shift (Some s) (Some t) front xs ys same d =
    let e : s ≡ t = same_Some s t same in
    (d.0, d.1, record { same = λ i. e i ∷ d.2.same i; ours = d.2.ours; theirs = d.2.theirs; other = d.2.other })

differ_from : (g h : ℕ → Option Signature) → IsIndexed g → IsIndexed h → (i a n : ℕ) → i < n → ((k : ℕ) → k < i → g (a + k) ≡ h (a + k)) → g (a + i) ≢ h (a + i)
    → AreFirstDifferentFrom (filter_map g (range_with_len a n)) (filter_map h (range_with_len a n)) (length (filter_map g (range_with_len a i)))
differ_from g h is_g is_h i a zero below same other = absurd (omega (arith, below))
differ_from g h is_g is_h zero a (suc n) below same other =
    let xs = filter_map g (range_with_len (a + 1) n) in
    let ys = filter_map h (range_with_len (a + 1) n) in
    let apart : g a ≢ h a = subst (λ b. g b ≢ h b) (add-zero a) other in (
      slice_get (cons_option (g a) xs) 0,
      slice_get (cons_option (h a) ys) 0,
      record {
        same = refl;
        ours = refl;
        theirs = refl;
        other = heads_differ (g a) (h a) a xs ys apart (is_g.index a) (is_h.index a) (from_first g is_g (a + 1) n) (from_first h is_h (a + 1) n);
      },
    )
differ_from g h is_g is_h (suc i) a (suc n) below same other =
    let first : g a ≡ h a = subst (λ b. g b ≡ h b) (add-zero a) (same 0 (omega arith)) in
    let later : AreFirstDifferentFrom (filter_map g (range_with_len (a + 1) n)) (filter_map h (range_with_len (a + 1) n)) (length (filter_map g (range_with_len (a + 1) i))) =
    differ_from g h is_g is_h i (a + 1) n (omega arith)
    (λ k le. subst (λ b. g b ≡ h b) (let e : a + suc k ≡ a + 1 + k = omega arith in e) (same (suc k) (omega arith)))
    (subst (λ b. g b ≢ h b) (let e : a + suc i ≡ a + 1 + i = omega arith in e) other) in
    shift (g a) (h a) (filter_map g (range_with_len (a + 1) i)) (filter_map g (range_with_len (a + 1) n)) (filter_map h (range_with_len (a + 1) n)) first later

equal_from : (g h : ℕ → Option Signature) (a n : ℕ) → ((k : ℕ) → k < n → g (a + k) ≡ h (a + k)) → filter_map g (range_with_len a n) ≡ filter_map h (range_with_len a n)
equal_from g h a zero same = refl
equal_from g h a (suc n) same =
    let first : g a ≡ h a = subst (λ b. g b ≡ h b) (add-zero a) (same 0 (omega arith)) in
    let rest : filter_map g (range_with_len (a + 1) n) ≡ filter_map h (range_with_len (a + 1) n) =
    equal_from g h (a + 1) n (λ k le. subst (λ b. g b ≡ h b) (let e : a + suc k ≡ a + 1 + k = omega arith in e) (same (suc k) (omega arith))) in
    λ i. cons_option (first i) (rest i)

record AreSame (o p : Option Signature) (xs ys : List Signature) : Type 0 where
  pub first : o ≡ p
  pub rest : xs ≡ ys

heads_same : (o p : Option Signature) (a : ℕ) (xs ys : List Signature) → ((s : Signature) → o ≡ Some s → s.index ≡ a) → ((s : Signature) → p ≡ Some s → s.index ≡ a)
    → ((s : Signature) → slice_get xs 0 ≡ Some s → a + 1 ≤ s.index) → ((s : Signature) → slice_get ys 0 ≡ Some s → a + 1 ≤ s.index)
    → cons_option o xs ≡ cons_option p ys → AreSame o p xs ys
heads_same None None a xs ys at_o at_p above_x above_y e = record { first = refl; rest = e }
heads_same None (Some t) a xs ys at_o at_p above_x above_y e =
    let low : a + 1 ≤ t.index = above_x t (ap (λ (zs : List Signature). slice_get zs 0) e) in
    let is : t.index ≡ a = at_p t refl in
    absurd (omega (arith, low, is))
heads_same (Some s) None a xs ys at_o at_p above_x above_y e =
    let low : a + 1 ≤ s.index = above_y s (ap (λ (zs : List Signature). slice_get zs 0) (sym e)) in
    let is : s.index ≡ a = at_o s refl in
    absurd (omega (arith, low, is))
heads_same (Some s) (Some t) a xs ys at_o at_p above_x above_y e =
    record { first = ap (λ (zs : List Signature). slice_get zs 0) e; rest = let tails : xs ≡ ys = cc in tails }

same_from : (g h : ℕ → Option Signature) → IsIndexed g → IsIndexed h → (k a n : ℕ) → k < n
    → filter_map g (range_with_len a n) ≡ filter_map h (range_with_len a n) → g (a + k) ≡ h (a + k)
same_from g h is_g is_h k a zero below e = absurd (omega (arith, below))
same_from g h is_g is_h zero a (suc n) below e =
    let parts : AreSame (g a) (h a) (filter_map g (range_with_len (a + 1) n)) (filter_map h (range_with_len (a + 1) n)) =
    heads_same (g a) (h a) a (filter_map g (range_with_len (a + 1) n)) (filter_map h (range_with_len (a + 1) n))
    (is_g.index a) (is_h.index a) (from_first g is_g (a + 1) n) (from_first h is_h (a + 1) n) e in
    subst (λ b. g b ≡ h b) (sym (add-zero a)) parts.first
same_from g h is_g is_h (suc k) a (suc n) below e =
    let parts : AreSame (g a) (h a) (filter_map g (range_with_len (a + 1) n)) (filter_map h (range_with_len (a + 1) n)) =
    heads_same (g a) (h a) a (filter_map g (range_with_len (a + 1) n)) (filter_map h (range_with_len (a + 1) n))
    (is_g.index a) (is_h.index a) (from_first g is_g (a + 1) n) (from_first h is_h (a + 1) n) e in
    subst (λ b. g b ≡ h b) (let same : a + 1 + k ≡ a + suc k = omega arith in same) (same_from g h is_g is_h k (a + 1) n (omega arith) parts.rest)

-- an element of the list, and its index
record IsGiven (g : ℕ → Option Signature) (s : Signature) : Type 0 where
  pub place : ℕ
  pub given : g place ≡ Some s

given_cons : (g : ℕ → Option Signature) (s : Signature) (a : ℕ) (o : Option Signature) (xs : List Signature) → g a ≡ o
    → (Contains xs s → IsGiven g s) → Contains (cons_option o xs) s → IsGiven g s
given_cons g s a None xs here later has = later has
given_cons g s a (Some t) xs here later (zero, within, same) = record { place = a; given = here ∙ ap Some same }
given_cons g s a (Some t) xs here later (suc k, within, same) = later (k, omega (arith, within), same)

given_of : (g : ℕ → Option Signature) (s : Signature) (a n : ℕ) → Contains (filter_map g (range_with_len a n)) s → IsGiven g s
given_of g s a zero has = absurd (omega (arith, has.1))
given_of g s a (suc n) has = given_cons g s a (g a) (filter_map g (range_with_len (a + 1) n)) refl (given_of g s (a + 1) n) has

has_cons : (o : Option Signature) (xs : List Signature) (s : Signature) → Contains xs s → Contains (cons_option o xs) s
has_cons None xs s has = has
has_cons (Some t) xs s has = let within : has.0 < length xs = has.1 in (suc has.0, omega arith, has.2)

has_given : (g : ℕ → Option Signature) (s : Signature) (k a n : ℕ) → k < n → g (a + k) ≡ Some s → Contains (filter_map g (range_with_len a n)) s
has_given g s k a zero below e = absurd (omega (arith, below))
has_given g s zero a (suc n) below e =
    let here : g a ≡ Some s = ap g (sym (add-zero a)) ∙ e in
    subst (λ (o : Option Signature). Contains (cons_option o (filter_map g (range_with_len (a + 1) n))) s) (sym here) (0, omega arith, refl)
has_given g s (suc k) a (suc n) below e =
    has_cons (g a) (filter_map g (range_with_len (a + 1) n)) s (has_given g s k (a + 1) n (omega arith) (ap g (let same : a + 1 + k ≡ a + suc k = omega arith in same) ∙ e))

length_cons : (o : Option Signature) (xs : List Signature) (n : ℕ) → length xs ≤ n → length (cons_option o xs) ≤ n + 1
length_cons None xs n few = omega arith
length_cons (Some s) xs n few = omega arith

pub few_given : (g : ℕ → Option Signature) (a n : ℕ) → length (filter_map g (range_with_len a n)) ≤ n
few_given g a zero = omega arith
few_given g a (suc n) = let more : length (cons_option (g a) (filter_map g (range_with_len (a + 1) n))) ≤ n + 1 =
    length_cons (g a) (filter_map g (range_with_len (a + 1) n)) n (few_given g (a + 1) n) in omega (arith, more)

-- ---- the methods of a service

indexed : (T : Table) (service : List ℕ) → IsIndexed (signature_at T service)
indexed T service = record { index = λ i s e. at (method_at T service i) i s e }
  where
    at : (o : Option Method) (i : ℕ) (s : Signature) → option_map (λ m. signature T (i, m)) o ≡ Some s → s.index ≡ i
    at None i s e = absurd (none-some s e)
    at (Some m) i s e = ap (λ (t : Signature). t.index) (sym (same_Some (signature T (i, m)) s e))

of_method : (T : Table) (service : List ℕ) (i : ℕ) (m : Method) (b : Bool) → option_map (λ n. signature T (i, n)) (cond b (Some m) None) ≡ cond b (Some (signature T (i, m))) None
of_method T service i m true = refl
of_method T service i m false = refl

pub methods_by_place : (T : Table) (service : List ℕ) (n : ℕ) → length T.methods ≤ n → methods_of T service ≡ filter_map (signature_at T service) (range_with_len 0 n)
methods_by_place T service n few =
    by_place (λ m. if bytes_eq m.1.service service then Some (signature T m) else None) (signature_at T service) T.methods 0 n few
    (λ k m e. subst (λ b. signature_at T service b ≡ (if bytes_eq m.service service then Some (signature T (b, m)) else None)) (let same : k ≡ 0 + k = omega arith in same)
    (ap (λ (o : Option Method). option_map (λ n. signature T (k, n)) (option_and_then (λ m. if bytes_eq m.service service then Some m else None) o)) e
    ∙ of_method T service k m (bytes_eq m.service service)))
    (λ k le. subst (λ b. signature_at T service b ≡ None) (let same : k ≡ 0 + k = omega arith in same)
    (ap (λ (o : Option Method). option_map (λ n. signature T (k, n)) (option_and_then (λ m. if bytes_eq m.service service then Some m else None) o)) (slice_get_past T.methods k le)))

-- the walk

abbrev pub given_below : Table → List ℕ → ℕ → List Signature
given_below T service n = filter_map (signature_at T service) (range_with_len 0 n)

pub methods_differ : (T U : Table) (service : List ℕ) (i n : ℕ) → i < n → length T.methods ≤ n → length U.methods ≤ n
    → ((k : ℕ) → k < i → signature_at T service k ≡ signature_at U service k) → signature_at T service i ≢ signature_at U service i
    → AreFirstDifferentFrom (methods_of T service) (methods_of U service) (length (given_below T service i))
methods_differ T U service i n below few_T few_U same other =
    let d : AreFirstDifferentFrom (given_below T service n) (given_below U service n) (length (given_below T service i)) =
    differ_from (signature_at T service) (signature_at U service) (indexed T service) (indexed U service) i 0 n below
    (λ k le. subst (λ b. signature_at T service b ≡ signature_at U service b) (let e : k ≡ 0 + k = omega arith in e) (same k le))
    (subst (λ b. signature_at T service b ≢ signature_at U service b) (let e : i ≡ 0 + i = omega arith in e) other) in
    subst (λ (xs : List Signature). AreFirstDifferentFrom xs (methods_of U service) (length (given_below T service i))) (sym (methods_by_place T service n few_T))
    (subst (λ (ys : List Signature). AreFirstDifferentFrom (given_below T service n) ys (length (given_below T service i))) (sym (methods_by_place U service n few_U)) d)

pub methods_equal : (T U : Table) (service : List ℕ) (n : ℕ) → length T.methods ≤ n → length U.methods ≤ n
    → ((k : ℕ) → k < n → signature_at T service k ≡ signature_at U service k) → methods_of T service ≡ methods_of U service
methods_equal T U service n few_T few_U same =
    methods_by_place T service n few_T
    ∙ equal_from (signature_at T service) (signature_at U service) 0 n
    (λ k le. subst (λ b. signature_at T service b ≡ signature_at U service b) (let e : k ≡ 0 + k = omega arith in
    e) (same k le))
    ∙ sym (methods_by_place U service n few_U)

with_first : (o : Option Signature) (xs ys : List Signature) (m : ℕ) → length xs ≡ length ys + m → length (cons_option o xs) ≡ length (cons_option o ys) + m
with_first None xs ys m e = e
with_first (Some s) xs ys m e = omega (arith, e)

more_given : (g : ℕ → Option Signature) (a n : ℕ)
    → length (filter_map g (range_with_len a (suc n))) ≡ length (filter_map g (range_with_len a n))
    + length (cons_option (g (a + n)) [])
more_given g a zero =
    let here : length (cons_option (g (a + 0)) []) ≡ length (cons_option (g a) []) = ap (λ (b : ℕ). length (cons_option (g b) [])) (add-zero a) in
    omega (arith, here)
more_given g a (suc n) =
    let later : length (filter_map g (range_with_len (a + 1) (suc n)))
    ≡ length (filter_map g (range_with_len (a + 1) n)) + length (cons_option (g (a + 1 + n)) []) =
    more_given g (a + 1) n in
    let same : a + 1 + n ≡ a + suc n = omega arith in
    with_first (g a) (filter_map g (range_with_len (a + 1) (suc n))) (filter_map g (range_with_len (a + 1) n)) (length (cons_option (g (a + suc n)) []))
    (later ∙ ap (λ (b : ℕ). length (filter_map g (range_with_len (a + 1) n)) + length (cons_option (g b) [])) same)

next_given : (T : Table) (service : List ℕ) (i : ℕ) (o : Option Signature) → signature_at T service i ≡ o
    → length (given_below T service (i + 1)) ≡ length (given_below T service i) + length (cons_option o [])
next_given T service i o e =
    let one : i + 1 ≡ suc i = omega arith in
    let here : 0 + i ≡ i = omega arith in
    ap (λ (k : ℕ). length (given_below T service k)) one ∙ more_given (signature_at T service) 0 i
    ∙ ap (λ (p : Option Signature). length (given_below T service i) + length (cons_option p [])) (ap (signature_at T service) here ∙ e)

-- how many there are below the next index
pub one_more : (T : Table) (service : List ℕ) (i : ℕ) (m : Method) → method_at T service i ≡ Some m
    → length (given_below T service (i + 1)) ≡ length (given_below T service i) + 1
one_more T service i m e = next_given T service i (Some (signature T (i, m))) (ap (option_map (λ n. signature T (i, n))) e)

pub no_more : (T : Table) (service : List ℕ) (i : ℕ) → method_at T service i ≡ None → length (given_below T service (i + 1)) ≡ length (given_below T service i)
no_more T service i e =
    let count : length (given_below T service (i + 1)) ≡ length (given_below T service i) + 0 = next_given T service i None (ap (option_map (λ n. signature T (i, n))) e) in
    omega (arith, count)

pub some_more : (T : Table) (service : List ℕ) (i : ℕ) (o : Option (Bor Method)) → option_copied o ≡ method_at T service i → is_some o ≡ true
    → length (given_below T service (i + 1)) ≡ length (given_below T service i) + 1
some_more T service i None e some = absurd (false≢true some)
some_more T service i (Some m) e some = one_more T service i m.now (sym e)

pub none_more : (T : Table) (service : List ℕ) (i : ℕ) (o : Option (Bor Method)) → option_copied o ≡ method_at T service i → is_some o ≡ false
    → length (given_below T service (i + 1)) ≡ length (given_below T service i)
none_more T service i None e none = no_more T service i (sym e)
none_more T service i (Some m) e none = absurd (true≢false none)

-- ---- one method in both tables

pub both_at : (T U : Table) (service : List ℕ) (i : ℕ) (m n : Method) (r : Bool) → Some m ≡ method_at T service i → Some n ≡ method_at U service i
    → IsTrue r ↔ (signature T (i, m) ≡ signature U (i, n)) → IsTrue r ↔ (signature_at T service i ≡ signature_at U service i)
both_at T U service i m n r at_m at_n h =
    let ours : Some (signature T (i, m)) ≡ signature_at T service i = ap (option_map (λ k. signature T (i, k))) at_m in
    let theirs : Some (signature U (i, n)) ≡ signature_at U service i = ap (option_map (λ k. signature U (i, k))) at_n in
    (λ e. sym ours ∙ ap Some (h.0 e) ∙ theirs, λ same. h.1 (same_Some (signature T (i, m)) (signature U (i, n)) (ours ∙ same ∙ sym theirs)))

pub record IsAlso (T U : Table) (service : List ℕ) (i : ℕ) (m : Method) : Type 0 where
  pub other : Method
  pub is : method_at U service i ≡ Some other
  pub same : signature T (i, m) ≡ signature U (i, other)

also_of : (T U : Table) (service : List ℕ) (i : ℕ) (m : Method) (o : Option Method) → method_at U service i ≡ o
    → Some (signature T (i, m)) ≡ option_map (λ n. signature U (i, n)) o → IsAlso T U service i m
also_of T U service i m None here e = absurd (none-some (signature T (i, m)) (sym e))
also_of T U service i m (Some n) here e = record { other = n; is = here; same = same_Some (signature T (i, m)) (signature U (i, n)) e }

index_within : (T : Table) (service : List ℕ) (i : ℕ) (m : Method) → method_at T service i ≡ Some m → i < length T.methods
index_within T service i m e =
    option_and_then_some (λ n. if bytes_eq n.service service then Some n else None) (slice_get T.methods i) m e (λ n at is. slice_get_within T.methods i n at)

-- the other table has the same method at the index
pub also : (T U : Table) (service : List ℕ) → methods_of T service ≡ methods_of U service → (i : ℕ) (m : Method) → method_at T service i ≡ Some m → IsAlso T U service i m
also T U service same i m e =
    let n = length T.methods + length U.methods in
    let within : i < length T.methods = index_within T service i m e in
    let lists : given_below T service (length T.methods + length U.methods) ≡ given_below U service (length T.methods + length U.methods) =
    sym (methods_by_place T service (length T.methods + length U.methods) (omega arith)) ∙ same ∙ methods_by_place U service (length T.methods + length U.methods) (omega arith) in
    let both : signature_at T service (0 + i) ≡ signature_at U service (0 + i) =
    same_from (signature_at T service) (signature_at U service) (indexed T service) (indexed U service) i 0 (length T.methods + length U.methods) (omega arith) lists in
    let here : signature_at T service i ≡ signature_at U service i = subst (λ b. signature_at T service b ≡ signature_at U service b) (let z : 0 + i ≡ i = omega arith in z) both in
    also_of T U service i m (method_at U service i) refl (sym (ap (option_map (λ n. signature T (i, n))) e) ∙ here)

-- a method at an index is one of the list
pub at_index : (T : Table) (service : List ℕ) (i : ℕ) (m : Method) → method_at T service i ≡ Some m → Contains (methods_of T service) (signature T (i, m))
at_index T service i m e =
    let here : signature_at T service (0 + i) ≡ Some (signature T (i, m)) =
    ap (signature_at T service) (let z : 0 + i ≡ i = omega arith in z)
    ∙ ap (option_map (λ n. signature T (i, n))) e in
    subst (λ (xs : List Signature). Contains xs (signature T (i, m))) (sym (methods_by_place T service (length T.methods) (omega arith)))
    (has_given (signature_at T service) (signature T (i, m)) i 0 (length T.methods) (index_within T service i m e) here)

-- and one of the list is at an index
pub record StandsAt (T : Table) (service : List ℕ) (s : Signature) : Type 0 where
  pub place : ℕ
  pub method : Method
  pub is : method_at T service place ≡ Some method
  pub same : signature T (place, method) ≡ s
  pub within : place < length T.methods

stands_at : (T : Table) (service : List ℕ) (s : Signature) (i : ℕ) (o : Option Method) → method_at T service i ≡ o
    → option_map (λ n. signature T (i, n)) o ≡ Some s → StandsAt T service s
stands_at T service s i None here e = absurd (none-some s e)
stands_at T service s i (Some m) here e = record { place = i; method = m; is = here; same = same_Some (signature T (i, m)) s e; within = index_within T service i m here }

pub index_of : (T : Table) (service : List ℕ) (s : Signature) → Contains (methods_of T service) s → StandsAt T service s
index_of T service s has =
    let given : IsGiven (signature_at T service) s =
    given_of (signature_at T service) s 0 (length T.methods) (subst (λ (xs : List Signature). Contains xs s) (methods_by_place T service (length T.methods) (omega arith)) has) in
    stands_at T service s given.place (method_at T service given.place) refl given.given

-- ---- how many there are

count_step : (T : Table) (a : ℕ) (m : Method) (b : Bool) (xs : List Signature) (ms : List Method)
    → length xs ≡ length ms → length (cons_option (cond b (Some (signature T (a, m))) None) xs)
    ≡ length (cond b (m ∷ ms) ms)
count_step T a m true xs ms e = omega arith
count_step T a m false xs ms e = e

pub as_many : (T : Table) (service : List ℕ) (a : ℕ) (ms : List Method)
    → length (filter_map (λ (m : ℕ × Method). if bytes_eq m.1.service service then Some (signature T m) else None)
    (enumerate_from a ms)) ≡ length (filter (λ m. bytes_eq m.service service) ms)
as_many T service a [] = refl
as_many T service a (m ∷ ms) =
    count_step T a m (bytes_eq m.service service)
    (filter_map (λ (m : ℕ × Method). if bytes_eq m.1.service service then Some (signature T m) else None)
    (enumerate_from (a + 1) ms)) (filter (λ m. bytes_eq m.service service) ms) (as_many T service (a + 1) ms)

some_filtered : (service : List ℕ) (ms : List Method) → Contains (map (λ (m : Method). m.service) ms) service → 0 < length (filter (λ m. bytes_eq m.service service) ms)
some_filtered service [] has = absurd (omega (arith, has.1))
some_filtered service (m ∷ ms) (zero, within, same) =
    let hit : bytes_eq m.service service ≡ true = (bytes_eq-Decides m.service service).1 same in
    let e : cond (bytes_eq m.service service) (m ∷ filter (λ m. bytes_eq m.service service) ms)
    (filter (λ m. bytes_eq m.service service) ms) ≡ m ∷ filter (λ m. bytes_eq m.service service) ms =
    cond-true (bytes_eq m.service service) (m ∷ filter (λ m. bytes_eq m.service service) ms) (filter (λ m. bytes_eq m.service service) ms) hit in
    omega (arith, ap length e)
some_filtered service (m ∷ ms) (suc k, within, same) =
    let more : 0 < length (filter (λ m. bytes_eq m.service service) ms) = some_filtered service ms (k, omega (arith, within), same) in
    kept (bytes_eq m.service service) m (filter (λ m. bytes_eq m.service service) ms) more
  where
    kept : (b : Bool) (m : Method) (ms : List Method) → 0 < length ms → 0 < length (cond b (m ∷ ms) ms)
    kept true m ms h = omega arith
    kept false m ms h = h

filtered_some : (service : List ℕ) (ms : List Method) → 0 < length (filter (λ m. bytes_eq m.service service) ms) → Contains (map (λ (m : Method). m.service) ms) service
filtered_some service [] some = absurd (omega (arith, some))
filtered_some service (m ∷ ms) some = elim (cases_Bool (bytes_eq m.service service)) [
  | inl hit ↦ (0, omega arith, (bytes_eq-Decides m.service service).0 hit)
  | inr miss ↦
      let e : cond (bytes_eq m.service service) (m ∷ filter (λ m. bytes_eq m.service service) ms)
      (filter (λ m. bytes_eq m.service service) ms) ≡ filter (λ m. bytes_eq m.service service) ms =
      cond-false (bytes_eq m.service service) (m ∷ filter (λ m. bytes_eq m.service service) ms) (filter (λ m. bytes_eq m.service service) ms) miss in
      let later : Contains (map (λ (m : Method). m.service) ms) service = filtered_some service ms (omega (arith, ap length e, some)) in
      let within : later.0 < length (map (λ (m : Method). m.service) ms) = later.1 in
      (suc later.0, omega arith, later.2)
]

pub offers_some : (T : Table) (service : List ℕ) → HasMethodOf T service → 0 < length (methods_of T service)
offers_some T service has = let some : 0 < length (filter (λ m. bytes_eq m.service service) T.methods) =
    some_filtered service T.methods has in omega (arith, some, as_many T service 0 T.methods)

pub some_offers : (T : Table) (service : List ℕ) → 0 < length (methods_of T service) → HasMethodOf T service
some_offers T service some = filtered_some service T.methods (omega (arith, some, as_many T service 0 T.methods))
