-- A tree is its content at one number, added to its other fields.
use Rattle.std.proofs.Common.{◌≡◌, ◌⊎◌, ℕ, ◌+◌, ◌<◌, ◌≤◌, Bool, true, false, cond, ◌||◌, ◌==◌, List, Option, Some}
use Rattle.std.proofs.Common.{None, refl, sym, ap, subst, ◌∙◌, arith, inl, inr}
use Rattle.std.proofs.lemmas.Bool.{eq-eqb, ne_eqb, lt-ltb, le-ltb, cases_Bool, cases_lt, or_right}
use Rattle.std.proofs.lemmas.Bool.Decides.{eqb_tells}
use Rattle.mrpc_table.specs.Normal.{kind_at}
use Rattle.mrpc_table.specs.Node.{Node, no_fields, field, Content, content_at, AreNumbersAscending}
use Rattle.mrpc_table.specs.declared.table.Field.{Field}
use Rattle.mrpc_table.specs.declared.table.Table.{Table}
use Rattle.graph_form.specs.Forgotten.{insert_field, with_field}
use Rattle.graph_place.specs.Laid.{keep, optional_content_words}
use Rattle.graph_place.specs.Size.{fields_words, content_words}

-- each number of a tree has a property
abbrev pub Each : (ℕ → Type 0) → Node → Type 0
Each P no_fields = Unit {0}
Each P (field n c t) = P n × Each P t

pub each_weaker : (P Q : ℕ → Type 0) (t : Node) → ((n : ℕ) → P n → Q n) → Each P t → Each Q t
each_weaker P Q no_fields f h = tt
each_weaker P Q (field n c t) f h = (f n h.0, each_weaker P Q t f h.1)

pub each_always : (P : ℕ → Type 0) (t : Node) → ((n : ℕ) → P n) → Each P t
each_always P no_fields f = tt
each_always P (field n c t) f = (f n, each_always P t f)

pub each_both : (P Q R : ℕ → Type 0) (t : Node) → ((n : ℕ) → P n → Q n → R n) → Each P t → Each Q t → Each R t
each_both P Q R no_fields f g h = tt
each_both P Q R (field n c t) f g h = (f n g.0 h.0, each_both P Q R t f g.1 h.1)

pub each_above : (last : ℕ) (t : Node) → AreNumbersAscending last t → Each (λ n. last < n) t
each_above last no_fields up = tt
each_above last (field n c t) up = (up.0, each_weaker (λ k. n < k) (λ k. last < k) t (λ k below. omega (arith, below, up.0)) (each_above n t up.1))

pub ascends_less : (k last : ℕ) (t : Node) → k ≤ last → AreNumbersAscending last t → AreNumbersAscending k t
ascends_less k last no_fields le up = tt
ascends_less k last (field n c t) le up = (omega (arith, le, up.0), up.1)

pub absent : (n last : ℕ) (t : Node) → n ≤ last → AreNumbersAscending last t → content_at t n ≡ None
absent n last no_fields le up = refl
absent n last (field m c t) le up =
    ap (λ b. cond b (Some c) (content_at t n)) (ne_eqb m n (λ e. omega (arith, e, le, up.0))) ∙ absent n m t (omega (arith, le, up.0)) up.1

pub keep_same : (p q : ℕ → Bool) (t : Node) → Each (λ n. p n ≡ q n) t → keep p t ≡ keep q t
keep_same p q no_fields h = refl
keep_same p q (field n c t) h =
    ap (λ b. cond b (field n c (keep p t)) (keep p t)) h.0 ∙ ap (λ u. cond (q n) (field n c u) u) (keep_same p q t h.1)

pub keep_all : (p : ℕ → Bool) (t : Node) → Each (λ n. p n ≡ true) t → keep p t ≡ t
keep_all p no_fields h = refl
keep_all p (field n c t) h = ap (λ b. cond b (field n c (keep p t)) (keep p t)) h.0 ∙ ap (field n c) (keep_all p t h.1)

pub keep_none : (p : ℕ → Bool) (t : Node) → Each (λ n. p n ≡ false) t → keep p t ≡ no_fields
keep_none p no_fields h = refl
keep_none p (field n c t) h = ap (λ b. cond b (field n c (keep p t)) (keep p t)) h.0 ∙ keep_none p t h.1

ascends_keep : (p : ℕ → Bool) (last : ℕ) (t : Node) → AreNumbersAscending last t → AreNumbersAscending last (keep p t)
ascends_keep p last no_fields up = tt
ascends_keep p last (field n c t) up =
    let rest = ascends_keep p n t up.1 in
    elim (cases_Bool (p n)) [
      | inl holds ↦ subst (λ b. AreNumbersAscending last (cond b (field n c (keep p t)) (keep p t))) (sym holds) (up.0, rest)
      | inr fails ↦ subst (λ b. AreNumbersAscending last (cond b (field n c (keep p t)) (keep p t))) (sym fails) (ascends_less last n (keep p t) (omega (arith, up.0)) rest)
    ]

insert_first : (m : ℕ) (c : Content) (t : Node) → AreNumbersAscending m t → insert_field m c t ≡ field m c t
insert_first m c no_fields up = refl
insert_first m c (field n d t) up = ap (λ b. cond b (field m c (field n d t)) (field n d (insert_field m c t))) (lt-ltb m n up.0)

with_behind : (m n : ℕ) (o : Option Content) (c : Content) (u : Node) → (o ≡ None) ⊎ (n < m) → with_field m o (field n c u) ≡ field n c (with_field m o u)
with_behind m n None c u h = refl
with_behind m n (Some d) c u h =
    elim h [
      | inl none ↦ absurd (cc)
      | inr above ↦ ap (λ b. cond b (field m d (field n c u)) (field n c (insert_field m d u))) (le-ltb m n (omega (arith, above)))
    ]

pub or_none : (b : Bool) → (b || false) ≡ b
or_none true = refl
or_none false = refl

agree : (p q : ℕ → Bool) (m k : ℕ) → p k ≡ (q k || m == k) → m < k → p k ≡ q k
agree p q m k h below = h ∙ ap (λ b. q k || b) (ne_eqb m k (λ e. omega (arith, e, below))) ∙ or_none (q k)

-- the fields that pass one test and those that pass another, or have the number m
pub keep_step : (p q : ℕ → Bool) (m last : ℕ) (t : Node) → AreNumbersAscending last t → Each (λ n. p n ≡ (q n || m == n)) t
    → q m ≡ false → keep p t ≡ with_field m (content_at t m) (keep q t)
keep_step p q m last no_fields up h without = refl
keep_step p q m last (field n c t) up h without =
    elim (eqb_tells n m) [
      | inl same ↦
          let is : m ≡ n = sym same.1 in
          let none : q n ≡ false = ap q same.1 ∙ without in
          let holds : p n ≡ true = h.0 ∙ or_right (q n) (m == n) (eq-eqb m n is) in
          let rest : keep p t ≡ keep q t =
          keep_same p q t (each_both (λ k. p k ≡ (q k || m == k)) (λ k. n < k) (λ k. p k ≡ q k) t
          (λ k e above. agree p q m k e (omega (arith, above, is))) h.1 (each_above n t up.1)) in
          let left : keep p (field n c t) ≡ field n c (keep q t) = ap (λ b. cond b (field n c (keep p t)) (keep p t)) holds ∙ ap (field n c) rest in
          let kept : keep q (field n c t) ≡ keep q t = ap (λ b. cond b (field n c (keep q t)) (keep q t)) none in
          let found : content_at (field n c t) m ≡ Some c = ap (λ b. cond b (Some c) (content_at t m)) same.0 in
          let put : insert_field m c (keep q t) ≡ field m c (keep q t) = insert_first m c (keep q t) (subst (λ k. AreNumbersAscending k (keep q t)) (sym is) (ascends_keep q n t up.1)) in
          left ∙ ap (λ k. field k c (keep q t)) same.1 ∙ sym put ∙ ap (insert_field m c) (sym kept) ∙ ap (λ o. with_field m o (keep q (field n c t))) (sym found)
      | inr other ↦
          let differ : m ≡ n → ⊥ = λ e. other.1 (sym e) in
          let same : p n ≡ q n = h.0 ∙ ap (λ b. q n || b) (ne_eqb m n differ) ∙ or_none (q n) in
          let found : content_at (field n c t) m ≡ content_at t m = ap (λ b. cond b (Some c) (content_at t m)) other.0 in
          let rest : keep p t ≡ with_field m (content_at t m) (keep q t) = keep_step p q m n t up.1 h.1 without in
          let place : (content_at t m ≡ None) ⊎ (n < m) = elim (cases_lt n m) [ inl above ↦ inr above | inr le ↦ inl (absent m n t le up.1) ] in
          let back : with_field m (content_at t m) (keep q (field n c t)) ≡ with_field m (content_at (field n c t) m)
          (keep q (field n c t)) = ap (λ o. with_field m o (keep q (field n c t))) (sym found) in
          elim (cases_Bool (q n)) [
            | inl holds ↦
                ap (λ b. cond b (field n c (keep p t)) (keep p t)) (same ∙ holds) ∙ ap (field n c) rest ∙ sym (with_behind m n (content_at t m) c (keep q t) place)
                ∙ ap (λ b. with_field m (content_at t m) (cond b (field n c (keep q t)) (keep q t))) (sym holds) ∙ back
            | inr fails ↦
                ap (λ b. cond b (field n c (keep p t)) (keep p t)) (same ∙ fails) ∙ rest
                ∙ ap (λ b. with_field m (content_at t m) (cond b (field n c (keep q t)) (keep q t))) (sym fails) ∙ back
          ]
    ]

insert_words : (T : Table) (fs : List Field) (m : ℕ) (c : Content) (t : Node) → fields_words T fs (insert_field m c t) ≡ content_words T (kind_at fs m) c + fields_words T fs t
insert_words T fs m c no_fields = refl
insert_words T fs m c (field n d t) =
    elim (cases_lt m n) [
      | inl below ↦ ap (λ b. fields_words T fs (cond b (field m c (field n d t)) (field n d (insert_field m c t)))) (lt-ltb m n below)
      | inr above ↦
          let moved = ap (λ b. fields_words T fs (cond b (field m c (field n d t)) (field n d (insert_field m c t)))) (le-ltb m n above) in
          let rest = insert_words T fs m c t in
          omega (arith, moved, rest)
    ]

pub with_words : (T : Table) (fs : List Field) (m : ℕ) (o : Option Content) (t : Node) → fields_words T fs (with_field m o t) ≡ optional_content_words T (kind_at fs m) o + fields_words T fs t
with_words T fs m None t = omega arith
with_words T fs m (Some c) t = insert_words T fs m c t
