-- Seats of a list that are joined: their draws and their shares.
use Rattle.std.proofs.Common.{◌≡◌, ℕ, zero, suc, ◌+◌, ◌-◌, ◌/◌, ◌<◌, ◌≤◌, List, [], ◌∷◌, ◌++◌, map, All, Some, refl, ap, ◌∙◌, arith}
use Rattle.std.proofs.lemmas.List.Elements.{All-nil, All-cons, All-head, All-tail}
use Rattle.tenant_quota.specs.Drawing.{Drawing, AreLater, IsShareAfter, all_shares, all_after_join, tickets_of_tenant, kept_half, new_half, quotas_of, shares_of}
use Rattle.tenant_quota.specs.Splitting.{AreOfQuotas}
use Rattle.tenant_quota.proofs.Shares.{once_more, enough}
use Rattle.tenant_quota.proofs.Splitting.{one_back}
use Rattle.tenant_quota.proofs.Tickets.{tickets-append}

pub halves_together : (seats : List Drawing) → all_after_join (map kept_half seats) (map new_half seats) ≡ seats
halves_together [] = refl
halves_together (s ∷ seats) = ap (λ x. x ∷ all_after_join (map kept_half seats) (map new_half seats)) (one_back s) ∙ ap (λ l. s ∷ l) (halves_together seats)

some_is : {X : Type 0} (x y : X) → Some x ≡ Some y → x ≡ y
some_is x y e = cc

pub drawn_together : (seats others : List Drawing) (tenant window : ℕ) (mine theirs : List ℕ)
    → tickets_of_tenant seats tenant window ≡ Some mine → tickets_of_tenant others tenant window ≡ Some theirs
    → tickets_of_tenant (all_after_join seats others) tenant window ≡ Some (mine ++ theirs)
drawn_together [] others tenant window mine theirs e f = absurd (cc)
drawn_together (s ∷ seats) [] tenant window mine theirs e f = absurd (cc)
drawn_together (s ∷ seats) (o ∷ others) zero window mine theirs e f =
    ap Some (tickets-append window s.draws o.draws ∙ (λ i. some_is _ _ e i ++ some_is _ _ f i))
drawn_together (s ∷ seats) (o ∷ others) (suc tenant) window mine theirs e f = drawn_together seats others tenant window mine theirs e f

pub kept_quotas : (seats : List Drawing) → quotas_of (map kept_half seats) ≡ quotas_of seats
kept_quotas [] = refl
kept_quotas (s ∷ seats) = ap (λ l. s.quota ∷ l) (kept_quotas seats)

pub new_quotas : (seats : List Drawing) → quotas_of (map new_half seats) ≡ quotas_of seats
new_quotas [] = refl
new_quotas (s ∷ seats) = ap (λ l. s.quota ∷ l) (new_quotas seats)

pub both_quotas : (seats others : List Drawing) → quotas_of (all_after_join seats others) ≡ quotas_of seats
both_quotas [] others = refl
both_quotas (s ∷ seats) [] = refl
both_quotas (s ∷ seats) (o ∷ others) = ap (λ l. s.quota ∷ l) (both_quotas seats others)

pub later_quotas : (old new : List Drawing) → AreLater old new → quotas_of new ≡ quotas_of old
later_quotas [] [] later = refl
later_quotas [] (y ∷ new) later = absurd later
later_quotas (x ∷ old) [] later = absurd later
later_quotas (x ∷ old) (y ∷ new) later = λ i. later.0.quota i ∷ later_quotas old new later.1 i

pub later_shares : (old new : List Drawing) → AreLater old new → shares_of new ≡ shares_of old
later_shares [] [] later = refl
later_shares [] (y ∷ new) later = absurd later
later_shares (x ∷ old) [] later = absurd later
later_shares (x ∷ old) (y ∷ new) later = λ i. later.0.share i ∷ later_shares old new later.1 i

tail_is : {X : Type 0} (x y : X) (xs ys : List X) → x ∷ xs ≡ y ∷ ys → xs ≡ ys
tail_is x y xs ys e = cc

first_is : {X : Type 0} (x y : X) (xs ys : List X) → x ∷ xs ≡ y ∷ ys → x ≡ y
first_is x y xs ys e = cc

pub both_shares : (old new others later : List Drawing) → shares_of new ≡ shares_of old
    → shares_of later ≡ shares_of others → shares_of (all_after_join new later) ≡ shares_of (all_after_join old others)
both_shares [] [] others later s t = refl
both_shares [] (y ∷ new) others later s t = absurd (cc)
both_shares (x ∷ old) [] others later s t = absurd (cc)
both_shares (x ∷ old) (y ∷ new) [] [] s t = s
both_shares (x ∷ old) (y ∷ new) [] (p ∷ later) s t = absurd (cc)
both_shares (x ∷ old) (y ∷ new) (o ∷ others) [] s t = absurd (cc)
both_shares (x ∷ old) (y ∷ new) (o ∷ others) (p ∷ later) s t =
    λ i. (first_is _ _ _ _ s i + first_is _ _ _ _ t i) ∷ both_shares old new others later (tail_is _ _ _ _ s) (tail_is _ _ _ _ t) i

pub all_whole : (old new : List Drawing) → shares_of new ≡ shares_of old → All (λ seat. seat.share ≡ all_shares) old → All (λ seat. seat.share ≡ all_shares) new
all_whole [] [] same all = all
all_whole [] (y ∷ new) same all = absurd (cc)
all_whole (x ∷ old) [] same all = absurd (cc)
all_whole (x ∷ old) (y ∷ new) same all =
    All-cons (λ seat. seat.share ≡ all_shares) y new (first_is _ _ _ _ same ∙ All-head (λ seat. seat.share ≡ all_shares) x old all)
    (all_whole old new (tail_is _ _ _ _ same) (All-tail (λ seat. seat.share ≡ all_shares) x old all))

-- others of the same quotas
pub of_quotas : (seats others : List Drawing) → quotas_of others ≡ quotas_of seats → AreOfQuotas seats others
of_quotas [] [] same = tt
of_quotas [] (o ∷ others) same = absurd (cc)
of_quotas (s ∷ seats) [] same = tt
of_quotas (s ∷ seats) (o ∷ others) same = (first_is _ _ _ _ same, of_quotas seats others (tail_is _ _ _ _ same))

halves_of_share : (n : ℕ) → (n - n / 2) + n / 2 ≡ n
halves_of_share n = omega arith

pub all_once_more : (times : ℕ) (seats : List Drawing) → All (λ seat. IsShareAfter times seat.share) seats → All (λ seat. IsShareAfter (times + 1) seat.share) (map kept_half seats)
all_once_more times [] all = All-nil (λ seat. IsShareAfter (times + 1) seat.share)
all_once_more times (s ∷ seats) all =
    let was = All-head (λ seat. IsShareAfter times seat.share) s seats all in
    All-cons (λ seat. IsShareAfter (times + 1) seat.share) (kept_half s) (map kept_half seats) (once_more times s.share (s.share - s.share / 2) was (halves_of_share s.share))
    (all_once_more times seats (All-tail (λ seat. IsShareAfter times seat.share) s seats all))

pub all_enough : (times : ℕ) (seats : List Drawing) → All (λ seat. IsShareAfter times seat.share) seats → times < 64 → All (λ seat. 2 ≤ seat.share) seats
all_enough times [] all few = All-nil (λ seat. 2 ≤ seat.share)
all_enough times (s ∷ seats) all few =
    All-cons (λ seat. 2 ≤ seat.share) s seats
    (enough times s.share (All-head (λ seat. IsShareAfter times seat.share) s seats all) few)
    (all_enough times seats (All-tail (λ seat. IsShareAfter times seat.share) s seats all) few)
