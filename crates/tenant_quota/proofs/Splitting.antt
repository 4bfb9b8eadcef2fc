-- Seats of a list of which a prefix was split.
use Rattle.std.proofs.Common.{◌≡◌, ℕ, zero, suc, ◌+◌, ◌-◌, ◌/◌, ◌<◌, ◌≤◌, List, [], ◌∷◌, ◌++◌, length, map, All, refl}
use Rattle.std.proofs.Common.{sym, ap, ◌∙◌, subst, append-nil, arith}
use Rattle.std.specs.Prelude.{slice_index_or, slice_set}
use Rattle.std.proofs.lemmas.List.Elements.{All-nil, All-cons, All-head, All-tail}
use Rattle.tenant_quota.specs.Drawing.{Drawing, kept_half, new_half, after_join, all_after_join}
use Rattle.tenant_quota.specs.Splitting.{AreOfQuotas, split_prefix, halves_of}

pub length_front : (n : ℕ) (seats : List Drawing) → length (split_prefix n seats) ≡ length seats
length_front zero seats = refl
length_front (suc n) [] = refl
length_front (suc n) (s ∷ seats) = ap suc (length_front n seats)

pub next_is : (n : ℕ) (seats : List Drawing) (d : Drawing) → d ≡ slice_index_or (split_prefix n seats) n d → d ≡ slice_index_or seats n d
next_is zero seats d is = is
next_is (suc n) [] d is = is
next_is (suc n) (s ∷ seats) d is = next_is n seats d is

pub one_split : (n : ℕ) (seats : List Drawing) (d new : Drawing) → n < length seats → d ≡ slice_index_or seats n d
    → new ≡ kept_half d → slice_set (split_prefix n seats) n new ≡ split_prefix (suc n) seats
one_split n [] d new inside at is = absurd (omega (arith, inside))
one_split zero (s ∷ seats) d new inside at is = ap (λ x. x ∷ seats) (is ∙ ap kept_half at)
one_split (suc n) (s ∷ seats) d new inside at is = ap (λ l. kept_half s ∷ l) (one_split n seats d new (omega (arith, inside)) at is)

pub one_half : (n : ℕ) (seats : List Drawing) (d half : Drawing) → n < length seats → d ≡ slice_index_or seats n d
    → half ≡ new_half d → halves_of n seats ++ half ∷ [] ≡ halves_of (suc n) seats
one_half n [] d half inside at is = absurd (omega (arith, inside))
one_half zero (s ∷ seats) d half inside at is = ap (λ x. x ∷ []) (is ∙ ap new_half at)
one_half (suc n) (s ∷ seats) d half inside at is = ap (λ l. new_half s ∷ l) (one_half n seats d half (omega (arith, inside)) at is)

halves_back : (n : ℕ) → (n - n / 2) + n / 2 ≡ n
halves_back n = omega arith

pub one_back : (s : Drawing) → after_join (kept_half s) (new_half s) ≡ s
one_back s = λ i. record { quota = s.quota; draws = append-nil s.draws i; share = halves_back s.share i }

pub all_back : (n : ℕ) (seats : List Drawing) → all_after_join (split_prefix n seats) (halves_of n seats) ≡ seats
all_back zero [] = refl
all_back zero (s ∷ seats) = refl
all_back (suc n) [] = refl
all_back (suc n) (s ∷ seats) = ap (λ x. x ∷ all_after_join (split_prefix n seats) (halves_of n seats)) (one_back s) ∙ ap (λ l. s ∷ l) (all_back n seats)

pub quotas_fit : (n : ℕ) (seats : List Drawing) → AreOfQuotas (split_prefix n seats) (halves_of n seats)
quotas_fit zero [] = tt
quotas_fit zero (s ∷ seats) = tt
quotas_fit (suc n) [] = tt
quotas_fit (suc n) (s ∷ seats) = (refl, quotas_fit n seats)

pub all_kept : (n : ℕ) (seats : List Drawing) → length seats ≤ n → split_prefix n seats ≡ map kept_half seats
all_kept zero [] end = refl
all_kept zero (s ∷ seats) end = absurd (omega (arith, end))
all_kept (suc n) [] end = refl
all_kept (suc n) (s ∷ seats) end = ap (λ l. kept_half s ∷ l) (all_kept n seats (omega (arith, end)))

pub all_halves : (n : ℕ) (seats : List Drawing) → length seats ≤ n → halves_of n seats ≡ map new_half seats
all_halves zero [] end = refl
all_halves zero (s ∷ seats) end = absurd (omega (arith, end))
all_halves (suc n) [] end = refl
all_halves (suc n) (s ∷ seats) end = ap (λ l. new_half s ∷ l) (all_halves n seats (omega (arith, end)))

module _ (P : Drawing → Type 0) where
  pub at_next : (n : ℕ) (seats : List Drawing) (d : Drawing) → n < length seats → d ≡ slice_index_or seats n d → All P seats → P d
  at_next n [] d inside at all = absurd (omega (arith, inside))
  at_next zero (s ∷ seats) d inside at all = subst P (sym at) (All-head P s seats all)
  at_next (suc n) (s ∷ seats) d inside at all = at_next n seats d (omega (arith, inside)) at (All-tail P s seats all)

  pub front_stays : ((s : Drawing) → P s → P (kept_half s)) → (n : ℕ) (seats : List Drawing) → All P seats → All P (split_prefix n seats)
  front_stays keeps zero seats all = all
  front_stays keeps (suc n) [] all = all
  front_stays keeps (suc n) (s ∷ seats) all = All-cons P (kept_half s) (split_prefix n seats) (keeps s (All-head P s seats all)) (front_stays keeps n seats (All-tail P s seats all))

  pub halves_are : ((s : Drawing) → P s → P (new_half s)) → (n : ℕ) (seats : List Drawing) → All P seats → All P (halves_of n seats)
  halves_are gives zero seats all = All-nil P
  halves_are gives (suc n) [] all = All-nil P
  halves_are gives (suc n) (s ∷ seats) all = All-cons P (new_half s) (halves_of n seats) (gives s (All-head P s seats all)) (halves_are gives n seats (All-tail P s seats all))
