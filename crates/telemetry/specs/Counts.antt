-- What became of calls, and how often (this project's own).
use Rattle.std.specs.Prelude.{ℕ, ◌+◌, ◌<◌, ◌^◌, ◌==◌, ◌&&◌, Bool, true, false, List, count_by}
use Rattle.telemetry.specs.declared.counts.Counts.{Counts}
use Rattle.telemetry.specs.declared.counts.What.{What}
use Rattle.telemetry.specs.declared.counts.What.TheVariants.{Took, Sent, Refused, Standing}

-- an event of a call of a method
pub record CountedEvent : Type 0 where
  pub method : ℕ
  pub what : What

-- whether the two are the same
abbrev pub is_what : What → What → Bool
is_what Took Took = true
is_what Sent Sent = true
is_what Refused Refused = true
is_what Standing Standing = true
is_what what other = false

-- how often this became of a call of the method
abbrev pub count_of : List CountedEvent → ℕ → What → ℕ
count_of happened method what = count_by (λ h. (h.method == method) && is_what what h.what) happened

-- the counts of a method's events
abbrev pub counts_of : List CountedEvent → ℕ → Counts
counts_of happened method = record {
  took = count_of happened method Took;
  sent = count_of happened method Sent;
  refused = count_of happened method Refused;
  standing = count_of happened method Standing;
}

-- how often this became of a call of any method
abbrev pub count_all : List CountedEvent → What → ℕ
count_all happened what = count_by (λ h. is_what what h.what) happened

-- the counts of the events of all methods
abbrev pub all_counts : List CountedEvent → Counts
all_counts happened = record {
  took = count_all happened Took;
  sent = count_all happened Sent;
  refused = count_all happened Refused;
  standing = count_all happened Standing;
}

-- counts of zero
abbrev pub no_counts : Counts
no_counts = record { took = 0; sent = 0; refused = 0; standing = 0 }

-- one of the four counts
abbrev pub count_named : What → Counts → ℕ
count_named Took counts = counts.took
count_named Sent counts = counts.sent
count_named Refused counts = counts.refused
count_named Standing counts = counts.standing

-- the four counts, with one more of this
abbrev pub one_more : What → Counts → Counts
one_more Took counts = record counts { took = counts.took + 1 }
one_more Sent counts = record counts { sent = counts.sent + 1 }
one_more Refused counts = record counts { refused = counts.refused + 1 }
one_more Standing counts = record counts { standing = counts.standing + 1 }

-- the sums of the four counts
abbrev pub plus : Counts → Counts → Counts
plus counts others = record {
  took = counts.took + others.took;
  sent = counts.sent + others.sent;
  refused = counts.refused + others.refused;
  standing = counts.standing + others.standing;
}

-- each count fits 64 bits
pub record AreIn64Bits (counts : Counts) : Type 0 where
  pub took : counts.took < 2 ^ 64
  pub sent : counts.sent < 2 ^ 64
  pub refused : counts.refused < 2 ^ 64
  pub standing : counts.standing < 2 ^ 64
