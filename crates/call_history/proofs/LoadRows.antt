-- Worked by hand: loads of small histories.
use Rattle.std.proofs.Common.{◌≡◌, ℕ, ◌+◌, ◌<◌, ◌≤◌, ◌^◌, [], ◌∷◌, ◌++◌, length, refl, ap, arith, length-append}
use Rattle.mrpc_table.specs.declared.table.Kind.TheVariants.{Uint64}
use Rattle.graph_form.specs.Malformed.{is_copied as comes_copied, is_malformed as comes_malformed, no_root}
use Rattle.graph_form.specs.Placed.{Placed, nothing, first, word, IsValidWord, IsSound}
use Rattle.graph_form.specs.Roles.{value}
use Rattle.graph_form.specs.declared.reason.Reason.TheVariants.{Address, Presence, Case, Length, Utf8, Narrow, Depth, Loads as TooMany, NoMethod}
use Rattle.call_history.specs.Trace.{Trace}
use Rattle.call_history.specs.Loads.{no_method, is_copied, is_malformed, AreSpelled}
use Rattle.call_history.specs.declared.happening.Cause.TheVariants as cause
use Rattle.call_history.specs.declared.happening.Happening.TheVariants.{Took, Sent, Refused}
use Rattle.call_history.specs.declared.happening.AcceptedCall.{AcceptedCall}
use Rattle.call_history.specs.declared.happening.TookCopy.TheVariants.{Copy, Malformed}
use Rattle.call_history.proofs.Rows.{table, with_number, denied}

-- ---- numbers in a heap of 16 words

fine : (v : ℕ) → v < 2 ^ 64 → IsValidWord table 16 (value Uint64) v
fine v small Address offends = offends
fine v small Presence offends = offends
fine v small Case offends = offends
fine v small Length offends = offends
fine v small Utf8 offends = offends
fine v small Narrow offends = offends small
fine v small Depth offends = offends
fine v small TooMany offends = offends
fine v small NoMethod offends = offends

-- the message at a place has one word
abbrev placed : ℕ → ℕ → Placed
placed at v = first (word at v nothing) nothing

sound : (at v : ℕ) → 1 ≤ at → at + 2 ≤ 16 → v < 2 ^ 64 → IsSound table 16 0 at (placed at v)
sound at v low high small = record { root = record { from_one = low; to_end = high }; words = (refl, small, fine v small, tt, tt) }

-- ---- three calls: one with a number at place 14, one past the heap's end, and one of a method that the table
-- lacks

abbrev five : AcceptedCall
five = record { seq = 1; method = 0; number = 0; addr = 14; after = 1; count = 1; copy = Copy (with_number 5) }

abbrev outside : AcceptedCall
outside = record { seq = 2; method = 0; number = 0; addr = 15; after = 1; count = 0; copy = Malformed Address 0 15 }

abbrev unknown : AcceptedCall
unknown = record { seq = 3; method = 9; number = 0; addr = 2; after = 1; count = 0; copy = Malformed NoMethod 0 9 }

abbrev three_calls : Trace
three_calls = Sent 1 18 ∷ Refused 3 cause.Malformed ∷ Took unknown ∷ Refused 2 cause.Malformed ∷ Took outside ∷ Took five ∷ []

spelled-three : AreSpelled table 16 1024 three_calls ((14, 5) ∷ [])
spelled-three = (
  (14, 5) ∷ [],
  [],
  refl,
  record { taken = no_method (omega arith) refl refl; counted = refl },
  (
    (14, 5) ∷ [],
    [],
    refl,
    record { taken = is_malformed Address 0 15 (omega arith) (comes_malformed Address 0 15 (no_root (λ root. omega (arith, root.to_end)) refl refl refl refl) refl) refl; counted = refl },
    (
      [],
      (14, 5) ∷ [],
      refl,
      record {
        taken = is_copied (with_number 5) (omega arith)
            (comes_copied (placed 14 5) (sound 14 5 (omega arith) (omega arith) (omega arith)) refl (omega arith) refl)
            refl;
        counted = refl;
      },
      refl,
    ),
  ),
)

-- ---- a denied call: only it was loaded, and no word twice

spelled-denied : AreSpelled table 16 1024 denied ((2, 150) ∷ [])
spelled-denied = (
  [],
  (2, 150) ∷ [],
  refl,
  record {
    taken = is_copied (with_number 150) (omega arith)
        (comes_copied (placed 2 150) (sound 2 150 (omega arith) (omega arith) (omega arith)) refl (omega arith) refl)
        refl;
    counted = refl;
  },
  refl,
)

not-loaded_twice : (v : ℕ) → AreSpelled table 16 1024 denied ((2, 150) ∷ (2, v) ∷ []) → ⊥
not-loaded_twice v (before, own, joined, loaded, none) =
    let total : 2 ≡ length (before ++ own) = ap length joined in
    let nothing_before : length before ≡ 0 = ap length none in
    omega (arith, total, length-append before own, nothing_before, loaded.counted)
