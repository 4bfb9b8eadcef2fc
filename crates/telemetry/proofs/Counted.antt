-- Totals as the counts of a list of events.
use Rattle.std.proofs.Common.{◌≡◌, ◌≢◌, ℕ, zero, suc, ◌+◌, ◌<◌, ◌==◌, ◌&&◌, true, false, if◌then◌else◌, List, [], ◌∷◌}
use Rattle.std.proofs.Common.{◌++◌, sum_by, refl, ap, sym, ◌∙◌, arith, inl, inr, ◌⊎◌, Contains, length, get_or}
use Rattle.std.proofs.Common.{zero-add, subst}
use Rattle.std.specs.List.{AllByRecursion, flat_map}
use Rattle.std.specs.List.Sorted.{IsStrictlyIncreasing, IsStrictlySortedBy}
use Rattle.std.specs.Map.{keys_of, values_of}
use Rattle.std.specs.Ordering.{nat_cmp}
use Rattle.std.specs.declared.cmp.Ordering.TheVariants.{Less}
use Rattle.std.proofs.lemmas.Bool.{eqb-true, eqb-false, eq-eqb, ne_eqb}
use Rattle.std.proofs.lemmas.List.Sums.{sum_by-cons}
use Rattle.telemetry.specs.declared.counts.Counts.{Counts}
use Rattle.telemetry.specs.declared.counts.What.{What}
use Rattle.telemetry.specs.declared.counts.What.TheVariants.{Took, Sent, Refused, Standing}
use Rattle.telemetry.specs.Counts.{CountedEvent, count_all, count_of, counts_of, is_what, no_counts, count_named}
use Rattle.telemetry.specs.Totals.{IsCountOf, AreSumsOfEvents, IsTextOfEvents, counts_in, entry_line, method_counts_line, sums_of, totals_line}
use Rattle.telemetry.proofs.Adding.{bool_cases, counts-below, same_counts, sorted-tail}
use Rattle.telemetry.proofs.Merging.{is_at-same}

-- the events of other methods
abbrev pub others : ℕ → List CountedEvent → List CountedEvent
others k [] = []
others k (h ∷ hs) = if h.method == k then others k hs else h ∷ others k hs

is_what-refl : (w : What) → is_what w w ≡ true
is_what-refl Took = refl
is_what-refl Sent = refl
is_what-refl Refused = refl
is_what-refl Standing = refl

of-cons : (h : CountedEvent) (hs : List CountedEvent) (m : ℕ) (w : What) → count_of (h ∷ hs) m w ≡ (if (h.method == m) && is_what w h.what then 1 else 0) + count_of hs m w
of-cons h hs m w = sum_by-cons (λ (g : CountedEvent). if (g.method == m) && is_what w g.what then 1 else 0) h hs

all-cons : (h : CountedEvent) (hs : List CountedEvent) (w : What) → count_all (h ∷ hs) w ≡ (if is_what w h.what then 1 else 0) + count_all hs w
all-cons h hs w = sum_by-cons (λ (g : CountedEvent). if is_what w g.what then 1 else 0) h hs

of-off : (h : CountedEvent) (hs : List CountedEvent) (m : ℕ) (w : What) → (h.method == m) ≡ false → count_of (h ∷ hs) m w ≡ count_of hs m w
of-off h hs m w off = of-cons h hs m w ∙ (rw off (zero-add (count_of hs m w)))

of-on : (h : CountedEvent) (hs : List CountedEvent) (m : ℕ) (w : What) → (h.method == m) ≡ true → is_what w h.what ≡ true → count_of (h ∷ hs) m w ≡ 1 + count_of hs m w
of-on h hs m w on what = of-cons h hs m w ∙ (rw (on, what) refl)

-- all events are those of one method and those of the others
split_count : (k : ℕ) (w : What) (hs : List CountedEvent) → count_all hs w ≡ count_of hs k w + count_all (others k hs) w
split_count k w [] = refl
split_count k w (h ∷ hs) =
    let all = all-cons h hs w in
    let one = of-cons h hs k w in
    let rest = split_count k w hs in
    elim (bool_cases (h.method == k)) [
      | inl same ↦ let here = rw same at one in rw same (omega arith)
      | inr other ↦ let here = rw other at one in let aside = all-cons h (others k hs) w in rw other (omega arith)
    ]

others-same : (k m : ℕ) (w : What) (hs : List CountedEvent) → m ≢ k → count_of (others k hs) m w ≡ count_of hs m w
others-same k m w [] ne = refl
others-same k m w (h ∷ hs) ne =
    let one = of-cons h hs m w in
    let rest = others-same k m w hs ne in
    elim (bool_cases (h.method == k)) [
      | inl same ↦
          let off : (h.method == m) ≡ false = ne_eqb h.method m (λ e. ne (sym e ∙ eqb-true h.method k same)) in
          rw same (rest ∙ sym (of-off h hs m w off))
      | inr other ↦ let aside = of-cons h (others k hs) m w in rw other (omega arith)
    ]

others-none : (k : ℕ) (w : What) (hs : List CountedEvent) → count_of (others k hs) k w ≡ 0
others-none k w [] = refl
others-none k w (h ∷ hs) = elim (bool_cases (h.method == k)) [
  | inl same ↦ rw same (others-none k w hs)
  | inr other ↦ let aside = rw other at (of-cons h (others k hs) k w) in let rest = others-none k w hs in rw other (omega arith)
]

number-counts_of : (w : What) (hs : List CountedEvent) (m : ℕ) → count_named w (counts_of hs m) ≡ count_of hs m w
number-counts_of Took hs m = refl
number-counts_of Sent hs m = refl
number-counts_of Refused hs m = refl
number-counts_of Standing hs m = refl

number-none : (w : What) → count_named w no_counts ≡ 0
number-none Took = refl
number-none Sent = refl
number-none Refused = refl
number-none Standing = refl

-- there are no events if nothing is counted
empty_of_none : (hs : List CountedEvent) → IsCountOf hs [] → hs ≡ []
empty_of_none [] counted = refl
empty_of_none (h ∷ hs) counted =
    let none : 0 ≡ count_of (h ∷ hs) h.method h.what = sym (number-none h.what) ∙ ap (count_named h.what) (counted h.method) ∙ number-counts_of h.what (h ∷ hs) h.method in
    let step : count_of (h ∷ hs) h.method h.what ≡ 1 + count_of hs h.method h.what = of-on h hs h.method h.what (eq-eqb h.method h.method refl) (is_what-refl h.what) in
    absurd (omega arith)

first_in : (k : ℕ) (c : Counts) (rest : List (ℕ × Counts)) → counts_in ((k, c) ∷ rest) k ≡ c
first_in k c rest = rw (is_at-same k k, eq-eqb k k refl) refl

later_in : (k m : ℕ) (c : Counts) (rest : List (ℕ × Counts)) → m ≢ k → counts_in ((k, c) ∷ rest) m ≡ counts_in rest m
later_in k m c rest ne = rw (is_at-same m k, ne_eqb m k ne) refl

-- the remaining totals count the events of the other methods
others_counted : (k : ℕ) (c : Counts) (rest : List (ℕ × Counts)) (hs : List CountedEvent)
    → IsStrictlySortedBy nat_cmp (keys_of ((k, c) ∷ rest)) → IsCountOf hs ((k, c) ∷ rest)
    → IsCountOf (others k hs) rest
others_counted k c rest hs sorted counted m = elim (bool_cases (m == k)) [
  | inl same ↦
      let e : m ≡ k = eqb-true m k same in
      rw e (counts-below k c rest sorted
      ∙ sym (same_counts (counts_of (others k hs) k) no_counts (others-none k Took hs) (others-none k Sent hs)
      (others-none k Refused hs) (others-none k Standing hs)))
  | inr other ↦
      let ne = eqb-false m k other in
      sym (later_in k m c rest ne) ∙ counted m
      ∙ sym (same_counts (counts_of (others k hs) m) (counts_of hs m) (others-same k m Took hs ne)
      (others-same k m Sent hs ne) (others-same k m Refused hs ne) (others-same k m Standing hs ne))
]

sum_is_count : (w : What) (hs : List CountedEvent) (totals : List (ℕ × Counts))
    → IsStrictlySortedBy nat_cmp (keys_of totals) → IsCountOf hs totals
    → sum_by (count_named w) (values_of totals) ≡ count_all hs w
sum_is_count w hs [] sorted counted = rw (empty_of_none hs counted) refl
sum_is_count w hs ((k, c) ∷ rest) sorted counted =
    let here : count_named w c ≡ count_of hs k w = ap (count_named w) (sym (first_in k c rest) ∙ counted k) ∙ number-counts_of w hs k in
    let step = sum_by-cons (count_named w) c (values_of rest) in
    let behind = sum_is_count w (others k hs) rest (sorted-tail (k, c) rest sorted) (others_counted k c rest hs sorted counted) in
    let parts = split_count k w hs in
    step ∙ sums here behind ∙ sym parts
  where
    sums : {a b c d : ℕ} → a ≡ b → c ≡ d → a + c ≡ b + d
    sums p q = cc

pub sums_count : AreSumsOfEvents
sums_count happened totals sound counted =
    same_counts _ _ (sum_is_count Took happened totals sound.ascends counted)
    (sum_is_count Sent happened totals sound.ascends counted)
    (sum_is_count Refused happened totals sound.ascends counted)
    (sum_is_count Standing happened totals sound.ascends counted)

-- the methods of which a call was accepted
abbrev pub taken : List (ℕ × Counts) → List ℕ
taken [] = []
taken (e ∷ es) = if e.1.took == 0 then taken es else e.0 ∷ taken es

-- their lines, by any function that agrees with their counts
lines_taken : (g : ℕ → Counts) (es : List (ℕ × Counts)) → AllByRecursion (λ e. g e.0 ≡ e.1) es
    → flat_map entry_line es ≡ flat_map (λ m. method_counts_line m (g m)) (taken es)
lines_taken g [] agree = refl
lines_taken g (e ∷ es) agree = elim (bool_cases (e.1.took == 0)) [
  | inl none ↦ rw none (lines_taken g es agree.1)
  | inr some ↦ rw some (ap (λ (c : Counts). method_counts_line e.0 c ++ flat_map entry_line es) (sym agree.0) ∙ ap (λ (t : List ℕ). method_counts_line e.0 (g e.0) ++ t) (lines_taken g es agree.1))
]

above : (k y : ℕ) → nat_cmp k y ≡ Less → k < y
above k y less = grind arith

agree_more : (k : ℕ) (c : Counts) (es xs : List (ℕ × Counts)) → AllByRecursion (λ y. nat_cmp k y ≡ Less) (keys_of xs)
    → AllByRecursion (λ e. counts_in es e.0 ≡ e.1) xs → AllByRecursion (λ e. counts_in ((k, c) ∷ es) e.0 ≡ e.1) xs
agree_more k c es [] below agree = tt
agree_more k c es (x ∷ xs) below agree = (later_in k x.0 c es (let lt = above k x.0 below.0 in λ e. omega arith) ∙ agree.0, agree_more k c es xs below.1 agree.1)

-- each entry has the counts of its method
agree_all : (es : List (ℕ × Counts)) → IsStrictlySortedBy nat_cmp (keys_of es) → AllByRecursion (λ e. counts_in es e.0 ≡ e.1) es
unfolding IsStrictlySortedBy
agree_all [] sorted = tt
agree_all ((k, c) ∷ es) sorted = (first_in k c es, agree_more k c es es sorted.0 (agree_all es sorted.1))

counted_all : (hs : List CountedEvent) (es xs : List (ℕ × Counts)) → IsCountOf hs es
    → AllByRecursion (λ e. counts_in es e.0 ≡ e.1) xs → AllByRecursion (λ e. counts_of hs e.0 ≡ e.1) xs
counted_all hs es [] counted agree = tt
counted_all hs es (x ∷ xs) counted agree = (sym (counted x.0) ∙ agree.0, counted_all hs es xs counted agree.1)

taken_above : (k : ℕ) (es : List (ℕ × Counts)) → AllByRecursion (λ y. nat_cmp k y ≡ Less) (keys_of es) → AllByRecursion (λ y. k < y) (taken es)
taken_above k [] below = tt
taken_above k (e ∷ es) below = elim (bool_cases (e.1.took == 0)) [
  | inl none ↦ rw none (taken_above k es below.1)
  | inr some ↦ rw some (above k e.0 below.0, taken_above k es below.1)
]

rising_cons : (n : ℕ) (ns : List ℕ) → AllByRecursion (λ y. n < y) ns → IsStrictlyIncreasing ns → IsStrictlyIncreasing (n ∷ ns)
rising_cons n [] up rising k within = absurd (omega arith)
rising_cons n (m ∷ ns) up rising zero within = up.0
rising_cons n (m ∷ ns) up rising (suc k) within = let e : suc k + 1 ≡ suc (k + 1) = omega arith in rw e (rising k (omega arith))

taken_rise : (es : List (ℕ × Counts)) → IsStrictlySortedBy nat_cmp (keys_of es) → IsStrictlyIncreasing (taken es)
unfolding IsStrictlySortedBy
taken_rise [] sorted = λ k within. absurd (omega arith)
taken_rise (e ∷ es) sorted = elim (bool_cases (e.1.took == 0)) [
  | inl none ↦ rw none (taken_rise es sorted.1)
  | inr some ↦ rw some (rising_cons e.0 (taken es) (taken_above e.0 es sorted.0) (taken_rise es sorted.1))
]

cons_cases : (n : ℕ) (ns : List ℕ) (m k : ℕ) → k < length (n ∷ ns) → get_or (n ∷ ns) k m ≡ m → (n ≡ m) ⊎ Contains ns m
cons_cases n ns m zero within is = inl is
cons_cases n ns m (suc k) within is = inr (k, omega arith, is)

positive : (n : ℕ) → (n == 0) ≡ false → 0 < n
positive n some = grind arith

not_zero : (n : ℕ) → 0 < n → (n == 0) ≡ false
not_zero n some = grind arith

-- a method has a line exactly if a call of it was accepted
is_taken : (es : List (ℕ × Counts)) (m : ℕ) → IsStrictlySortedBy nat_cmp (keys_of es) → Contains (taken es) m → 0 < (counts_in es m).took
is_taken [] m sorted there = absurd (omega (arith, there.1))
is_taken ((k, c) ∷ es) m sorted there =
    let tail = sorted-tail (k, c) es sorted in
    let behind : Contains (taken es) m → 0 < (counts_in ((k, c) ∷ es) m).took = λ rest.
    let some = is_taken es m tail rest in
    let apart : m ≢ k = λ e. let none = rw (← e) at (counts-below k c es sorted) in omega (arith, ap (λ (s : Counts). s.took) none) in
    rw (later_in k m c es apart) some in
    elim (bool_cases (c.took == 0)) [
      | inl none ↦ behind (rw none at there)
      | inr some ↦ let here = rw some at there in elim (cons_cases k (taken es) m here.0 here.1 here.2) [
        | inl same ↦
            let at : counts_in ((k, c) ∷ es) m ≡ c = subst (λ (n : ℕ). counts_in ((k, c) ∷ es) n ≡ c) same (first_in k c es) in
            subst (λ (s : Counts). 0 < s.took) (sym at) (positive c.took some)
        | inr rest ↦ behind rest
      ]
    ]

taken_is : (es : List (ℕ × Counts)) (m : ℕ) → 0 < (counts_in es m).took → Contains (taken es) m
taken_is [] m some = absurd (omega arith)
taken_is ((k, c) ∷ es) m some = elim (bool_cases (m == k)) [
  | inl same ↦
      let e : m ≡ k = eqb-true m k same in
      let at : counts_in ((k, c) ∷ es) m ≡ c = subst (λ (n : ℕ). counts_in ((k, c) ∷ es) n ≡ c) (sym e) (first_in k c es) in
      let here : 0 < c.took = subst (λ (s : Counts). 0 < s.took) at some in
      rw (not_zero c.took here) (0, omega arith, sym e)
  | inr other ↦
      let rest = taken_is es m (rw (later_in k m c es (eqb-false m k other)) at some) in
      elim (bool_cases (c.took == 0)) [
        | inl none ↦ rw none rest
        | inr some ↦ rw some (suc rest.0, omega (arith, rest.1), rest.2)
      ]
]

pub text_counts : IsTextOfEvents
text_counts happened totals sound counted = record {
  methods = taken totals;
  ascends = taken_rise totals sound.ascends;
  taken = λ m.
      let took : (counts_in totals m).took ≡ count_of happened m Took = ap (λ (c : Counts). c.took) (counted m) in
      (λ there. rw (← took) (is_taken totals m sound.ascends there), λ some. taken_is totals m (rw took some));
  lines =
      let lines = lines_taken (counts_of happened) totals (counted_all happened totals totals counted (agree_all totals sound.ascends)) in
      let sums = sums_count happened totals sound counted in
      ap (λ (t : List ℕ). t ++ totals_line (sums_of totals)) lines ∙ ap (λ (c : Counts). flat_map (λ m. method_counts_line m (counts_of happened m)) (taken totals) ++ totals_line c) sums;
}
