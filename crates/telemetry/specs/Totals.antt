-- The counts of each method together, and their text (this project's own).
use Rattle.std.specs.Prelude.{◌≡◌, ◌↔◌, ℕ, ◌<◌, ◌==◌, if◌then◌else◌, List, [], ◌∷◌, ◌++◌, sum_by, Contains, unwrap_or, codes, decimal}
use Rattle.std.specs.List.{flat_map}
use Rattle.std.specs.List.Sorted.{IsStrictlyIncreasing, IsStrictlySortedBy}
use Rattle.std.specs.Map.{keys_of, lookup, values_of}
use Rattle.std.specs.BTreeMap.{is_at}
use Rattle.std.specs.Ordering.{nat_cmp}
use Rattle.telemetry.specs.declared.counts.Counts.{Counts}
use Rattle.telemetry.specs.declared.counts.What.TheVariants.{Took}
use Rattle.telemetry.specs.Counts.{CountedEvent, AreIn64Bits, all_counts, count_of, counts_of, no_counts, one_more, plus}

-- totals are methods with their counts; a method that isn't listed has counts of zero
abbrev pub counts_in : List (ℕ × Counts) → ℕ → Counts
counts_in totals method = unwrap_or (lookup (is_at (nat_cmp method)) totals) no_counts

-- the counts over all methods
abbrev pub sums_of : List (ℕ × Counts) → Counts
sums_of totals = record {
  took = sum_by (λ c. c.took) (values_of totals);
  sent = sum_by (λ c. c.sent) (values_of totals);
  refused = sum_by (λ c. c.refused) (values_of totals);
  standing = sum_by (λ c. c.standing) (values_of totals);
}

-- the methods ascend, and the counts over all of them fit 64 bits
pub record IsTotals (totals : List (ℕ × Counts)) : Type 0 where
  pub ascends : IsStrictlySortedBy nat_cmp (keys_of totals)
  pub small : AreIn64Bits (sums_of totals)

-- a space and a number
abbrev pub word : ℕ → List ℕ
word number = 32 ∷ decimal number

-- four counts as words of a line, each after a space
abbrev pub count_words : Counts → List ℕ
count_words counts = word counts.took ++ word counts.sent ++ word counts.refused ++ word counts.standing

-- the line of a method's counts
abbrev pub method_counts_line : ℕ → Counts → List ℕ
method_counts_line method counts = codes "method" ++ word method ++ count_words counts ++ 10 ∷ []

-- the line of the counts over all methods
abbrev pub totals_line : Counts → List ℕ
totals_line counts = codes "totals" ++ count_words counts ++ 10 ∷ []

-- the line of a method in totals; empty if no call of it was accepted
abbrev pub entry_line : ℕ × Counts → List ℕ
entry_line entry = if entry.1.took == 0 then [] else method_counts_line entry.0 entry.1

-- the lines of the methods, and one for all
abbrev pub totals_text : List (ℕ × Counts) → List ℕ
totals_text totals = flat_map entry_line totals ++ totals_line (sums_of totals)

-- totals are the counts of this list of events
abbrev pub IsCountOf : List CountedEvent → List (ℕ × Counts) → Type 0
IsCountOf happened totals = (method : ℕ) → counts_in totals method ≡ counts_of happened method

-- the text of a list of events: a line for each method of which a call was accepted, by ascending number, and one for
-- all
pub record IsTextOf (happened : List CountedEvent) (text : List ℕ) : Type 0 where
  pub methods : List ℕ
  pub ascends : IsStrictlyIncreasing methods
  pub taken : (method : ℕ) → Contains methods method ↔ (0 < count_of happened method Took)
  pub lines : text ≡ flat_map (λ m. method_counts_line m (counts_of happened m)) methods ++ totals_line
      (all_counts happened)

-- an empty list has counts of zero
abbrev pub IsEmptyCountZero : Type 0
IsEmptyCountZero = (method : ℕ) → counts_of [] method ≡ no_counts

-- an event adds one to a count of its method
abbrev pub IsCountOneMore : Type 0
IsCountOneMore = (happened : List CountedEvent) (one : CountedEvent) (method : ℕ)
    → counts_of (happened ++ one ∷ []) method
    ≡ (if one.method == method then one_more one.what (counts_of happened method) else counts_of happened method)

-- the counts of two lists add up
abbrev pub IsJoinedCountSum : Type 0
IsJoinedCountSum = (happened others : List CountedEvent) (method : ℕ)
    → counts_of (happened ++ others) method ≡ plus (counts_of happened method) (counts_of others method)

-- the sums of totals are the counts of all events
abbrev pub AreSumsOfEvents : Type 0
AreSumsOfEvents = (happened : List CountedEvent) (totals : List (ℕ × Counts))
    → IsTotals totals → IsCountOf happened totals → sums_of totals ≡ all_counts happened

-- their text is the text of the events
abbrev pub IsTextOfEvents : Type 0
IsTextOfEvents = (happened : List CountedEvent) (totals : List (ℕ × Counts))
    → IsTotals totals → IsCountOf happened totals → IsTextOf happened (totals_text totals)
