-- Counts worked out by hand.
use Rattle.std.proofs.Common.{◌≡◌, ℕ, List, [], ◌∷◌, refl}
use Rattle.telemetry.specs.declared.counts.Counts.{Counts}
use Rattle.telemetry.specs.declared.counts.What.TheVariants.{Took, Sent, Refused, Standing}
use Rattle.telemetry.specs.Counts.{CountedEvent, all_counts, counts_of, no_counts}
use Rattle.telemetry.specs.Totals.{counts_in, entry_line, method_counts_line, sums_of}

abbrev happened : List CountedEvent
happened = record { method = 700; what = Took } ∷ record { method = 3; what = Took } ∷ record {
  method = 700;
  what = Refused;
} ∷ record { method = 9; what = Sent } ∷ record { method = 3; what = Took } ∷ record {
  method = 3;
  what = Standing;
} ∷ []

abbrev totals : List (ℕ × Counts)
totals = (3, record { took = 2; sent = 0; refused = 0; standing = 1 })
    ∷ (9, record { took = 0; sent = 1; refused = 0; standing = 0 })
    ∷ (700, record { took = 1; sent = 0; refused = 1; standing = 0 }) ∷ []

of_700 : counts_of happened 700 ≡ record { took = 1; sent = 0; refused = 1; standing = 0 }
of_700 = refl

of_3 : counts_of happened 3 ≡ counts_in totals 3
of_3 = refl

of_none : counts_of happened 4 ≡ no_counts
of_none = refl

in_none : counts_in totals 4 ≡ no_counts
in_none = refl

all : all_counts happened ≡ sums_of totals
all = refl

-- a method of which no call was accepted has no line
no_line : entry_line (9, record { took = 0; sent = 1; refused = 0; standing = 0 }) ≡ []
no_line = refl

a_line : entry_line (3, record { took = 2; sent = 0; refused = 0; standing = 1 }) ≡ method_counts_line 3 (record { took = 2; sent = 0; refused = 0; standing = 1 })
a_line = refl
