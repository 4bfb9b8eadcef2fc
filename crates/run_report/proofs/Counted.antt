-- Totals while they are counted.
use Rattle.std.proofs.Common.{◌≡◌, ℕ, zero, suc, ◌+◌, ◌<◌, ◌^◌, ◌≤◌, ◌==◌, if◌then◌else◌, Bool, List, [], ◌∷◌, ◌++◌, length}
use Rattle.std.proofs.Common.{take, Some, refl, sym, ap, ◌∙◌, subst, append_assoc, append-nil, length-append, arith}
use Rattle.std.specs.Prelude.{slice_get}
use Rattle.std.specs.List.{flat_map}
use Rattle.telemetry.specs.Counts.{CountedEvent as Counted, AreIn64Bits, counts_of, count_named, one_more, plus}
use Rattle.telemetry.specs.Totals.{IsJoinedCountSum, IsCountOneMore, counts_in, sums_of}
use Rattle.telemetry.specs.declared.counts.Counts.{Counts}
use Rattle.telemetry.specs.declared.counts.What.{What}
use Rattle.telemetry.specs.declared.counts.What.TheVariants.{Took, Sent, Refused, Standing}
use Rattle.run_report.specs.Counts.{CanCount, HaveCounted, counts_together}
use Rattle.run_report.proofs.Lines.{all-of, one-more}

pub number-within : (what : What) (counts : Counts) → count_named what counts ≤ counts_together counts
number-within Took counts = omega arith
number-within Sent counts = omega arith
number-within Refused counts = omega arith
number-within Standing counts = omega arith

together-more : (what : What) (counts : Counts) → counts_together (one_more what counts) ≡ counts_together counts + 1
together-more Took counts = omega arith
together-more Sent counts = omega arith
together-more Refused counts = omega arith
together-more Standing counts = omega arith

flip : (m k : ℕ) → (m == k) ≡ (k == m)
flip m k = grind arith

-- one more event is counted
pub counted-one : IsCountOneMore → (happened : List Counted) (one : Counted) (totals next : List (ℕ × Counts)) → HaveCounted happened totals
    → ((m : ℕ) → counts_in next m ≡ (if m == one.method then one_more one.what (counts_in totals m) else counts_in totals m))
    → sums_of next ≡ one_more one.what (sums_of totals) → HaveCounted (happened ++ one ∷ []) next
counted-one law happened one totals next so at sums = record {
  each = λ m.
      let here : counts_in next m ≡ (if m == one.method then one_more one.what (counts_in totals m) else counts_in totals m) = at m in
      let flipped : (if m == one.method then one_more one.what (counts_in totals m) else counts_in totals m)
      ≡ (if one.method == m then one_more one.what (counts_in totals m) else counts_in totals m) =
      ap (λ (b : Bool). if b then one_more one.what (counts_in totals m) else counts_in totals m) (flip m one.method) in
      let same : (if one.method == m then one_more one.what (counts_in totals m) else counts_in totals m)
      ≡ (if one.method == m then one_more one.what (counts_of happened m) else counts_of happened m) =
      ap (λ (c : Counts). if one.method == m then one_more one.what c else c) (so.each m) in
      here ∙ flipped ∙ same ∙ sym (law happened one m);
  all = ap counts_together sums ∙ together-more one.what (sums_of totals) ∙ ap (λ n. n + 1) so.all
      ∙ sym (length-append happened (one ∷ []));
}

pub counted-none : (happened : List Counted) (totals : List (ℕ × Counts)) → HaveCounted happened totals → HaveCounted (happened ++ []) totals
counted-none happened totals so = subst (λ h. HaveCounted h totals) (sym (append-nil happened)) so

pub none-counted : HaveCounted [] []
none-counted = record { each = λ m. refl; all = refl }

plus-together : (a b : Counts) → counts_together (plus a b) ≡ counts_together a + counts_together b
plus-together a b = omega arith

-- sums of so few are small
pub plus-small : (a b : Counts) → counts_together a + counts_together b < 2 ^ 64 → AreIn64Bits (plus a b)
plus-small a b few = record {
  took = omega (arith, few);
  sent = omega (arith, few);
  refused = omega (arith, few);
  standing = omega (arith, few);
}

-- the counts of others are added
pub counted-more : IsJoinedCountSum → (happened more : List Counted) (all own next : List (ℕ × Counts)) → HaveCounted happened all
    → HaveCounted more own → ((m : ℕ) → counts_in next m ≡ plus (counts_in all m) (counts_in own m))
    → sums_of next ≡ plus (sums_of all) (sums_of own) → HaveCounted (happened ++ more) next
counted-more law happened more all own next so its at sums = record {
  each = λ m. at m ∙ ap (λ (c : Counts). plus c (counts_in own m)) (so.each m)
      ∙ ap (λ (c : Counts). plus (counts_of happened m) c) (its.each m) ∙ sym (law happened more m);
  all = ap counts_together sums ∙ plus-together (sums_of all) (sums_of own)
      ∙ ap (λ n. n + counts_together (sums_of own)) so.all ∙ ap (λ n. length happened + n) its.all
      ∙ sym (length-append happened more);
}

-- what was counted before, and then more
abbrev pub CountsOn : List Counted → (old new : List (ℕ × Counts)) → Type 0
CountsOn more old new = (happened : List Counted) → HaveCounted happened old → HaveCounted (happened ++ more) new

pub counts-then : (xs ys : List Counted) (old mid new : List (ℕ × Counts)) → CountsOn xs old mid → CountsOn ys mid new
    → CountsOn (xs ++ ys) old new
counts-then xs ys old mid new first second happened so =
    subst (λ h. HaveCounted h new) (append_assoc happened xs ys) (second (happened ++ xs) (first happened so))

pub can-first : (xs ys : List Counted) (old : List (ℕ × Counts)) → CanCount (xs ++ ys) old → CanCount xs old
can-first xs ys old can = record {
  happened = can.happened;
  so_far = can.so_far;
  few = omega (arith, can.few, length-append xs ys);
}

pub can-then : (xs ys : List Counted) (old mid : List (ℕ × Counts)) → CanCount (xs ++ ys) old → CountsOn xs old mid → CanCount ys mid
can-then xs ys old mid can first = record {
  happened = can.happened ++ xs;
  so_far = first can.happened can.so_far;
  few = omega (arith, can.few, length-append xs ys, length-append can.happened xs);
}

module _ {X : Type 0} (f : X → List Counted) where
  pub part-within : (xs : List X) (k : ℕ) → length (flat_map f (take k xs)) ≤ length (flat_map f xs)
  part-within [] zero = omega arith
  part-within [] (suc k) = omega arith
  part-within (x ∷ xs) zero = omega arith
  part-within (x ∷ xs) (suc k) =
      let rest = part-within xs k in
      let left = length-append (f x) (flat_map f (take k xs)) in
      let right = length-append (f x) (flat_map f xs) in
      omega (arith, rest, left, right)

  -- the next one can be counted
  pub can-next : (xs : List X) (place : ℕ) (x : X) (old now : List (ℕ × Counts)) → slice_get xs place ≡ Some x
      → CanCount (flat_map f xs) old → CountsOn (flat_map f (take place xs)) old now → CanCount (f x) now
  can-next xs place x old now at can so = record {
    happened = can.happened ++ flat_map f (take place xs);
    so_far = so can.happened can.so_far;
    few =
        let more : flat_map f (take (suc place) xs) ≡ flat_map f (take place xs) ++ f x = one-more f xs place x at in
        let both : length (flat_map f (take (suc place) xs)) ≡ length (flat_map f (take place xs)) + length (f x) =
        ap length more ∙ length-append (flat_map f (take place xs)) (f x) in
        omega (arith, can.few, part-within xs (suc place), both, length-append can.happened (flat_map f (take place xs)));
  }

  -- it was counted
  pub counts-next : (xs : List X) (place : ℕ) (x : X) (old now next : List (ℕ × Counts)) → slice_get xs place ≡ Some x
      → CountsOn (flat_map f (take place xs)) old now → CountsOn (f x) now next → CountsOn (flat_map f (take (place + 1) xs)) old next
  counts-next xs place x old now next at so more =
      let step : suc place ≡ place + 1 = omega arith in
      let same : flat_map f (take place xs) ++ f x ≡ flat_map f (take (place + 1) xs) =
      sym (one-more f xs place x at) ∙ ap (λ n. flat_map f (take n xs)) step in
      subst (λ l. CountsOn l old next) same (counts-then (flat_map f (take place xs)) (f x) old now next so more)

  pub counts-all : (xs : List X) (place : ℕ) (old now : List (ℕ × Counts)) → length xs ≤ place
      → CountsOn (flat_map f (take place xs)) old now → CountsOn (flat_map f xs) old now
  counts-all xs place old now low so = subst (λ l. CountsOn l old now) (all-of f xs place low) so
