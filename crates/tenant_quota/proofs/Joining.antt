-- Seats of a list that join others, and their later states.
use Rattle.std.proofs.Common.{◌≡◌, ℕ, zero, suc, ◌+◌, ◌<◌, List, [], ◌∷◌, ◌++◌, length, All, refl, sym, ap, ◌∙◌, subst, append_assoc, append-nil, arith}
use Rattle.std.specs.Prelude.{slice_index_or, slice_set}
use Rattle.std.proofs.lemmas.List.Elements.{All-cons, All-head, All-tail}
use Rattle.tenant_quota.specs.Splitting.{AreOfQuotas}
use Rattle.tenant_quota.specs.Drawing.{Drawing, IsLater, AreLater, after_join, all_after_join}

-- ---- later states

is_itself : (s : Drawing) → IsLater s s
is_itself s = record { quota = refl; share = refl; draws = ([], sym (append-nil s.draws)) }

pub are_themselves : (seats : List Drawing) → AreLater seats seats
are_themselves [] = tt
are_themselves (s ∷ seats) = (is_itself s, are_themselves seats)

pub is_later_still : (first next last : Drawing) → IsLater first next → IsLater next last → IsLater first last
is_later_still first next last one two = record {
  quota = two.quota ∙ one.quota;
  share = two.share ∙ one.share;
  draws = (one.draws.0 ++ two.draws.0, two.draws.1 ∙ ap (λ l. l ++ two.draws.0) one.draws.1 ∙ append_assoc first.draws one.draws.0 two.draws.0);
}

pub are_later_still : (first next last : List Drawing) → AreLater first next → AreLater next last → AreLater first last
are_later_still [] [] [] one two = tt
are_later_still [] [] (z ∷ last) one two = absurd two
are_later_still [] (y ∷ next) last one two = absurd one
are_later_still (x ∷ first) [] last one two = absurd one
are_later_still (x ∷ first) (y ∷ next) [] one two = absurd two
are_later_still (x ∷ first) (y ∷ next) (z ∷ last) one two = (is_later_still x y z one.0 two.0, are_later_still first next last one.1 two.1)

-- one seat of the list has drawn
pub one_is_later : (seats : List Drawing) (t : ℕ) (d new : Drawing) → d ≡ slice_index_or seats t d → IsLater d new → AreLater seats (slice_set seats t new)
one_is_later [] t d new is later = tt
one_is_later (x ∷ seats) zero d new is later = (subst (λ s. IsLater s new) is later, are_themselves seats)
one_is_later (x ∷ seats) (suc t) d new is later = (is_itself x, one_is_later seats t d new is later)

-- ---- the remaining others, joined from the last

pub is_nil : (xs : List Drawing) → length xs ≡ 0 → xs ≡ []
is_nil [] none = refl
is_nil (x ∷ xs) none = absurd (omega (arith, none))

pub none_joined : (seats : List Drawing) → all_after_join seats [] ≡ seats
none_joined [] = refl
none_joined (s ∷ seats) = refl

module _ (last : Drawing) where
  pub last_inside : (seats others : List Drawing) → AreOfQuotas seats (others ++ last ∷ []) → length others < length seats
  last_inside [] [] are = absurd are
  last_inside [] (o ∷ others) are = absurd are
  last_inside (s ∷ seats) [] are = omega arith
  last_inside (s ∷ seats) (o ∷ others) are = let rest = last_inside seats others are.1 in omega (arith, rest)

  pub last_quota : (seats others : List Drawing) (d : Drawing) → AreOfQuotas seats (others ++ last ∷ []) → d ≡ slice_index_or seats (length others) d → last.quota ≡ d.quota
  last_quota [] [] d are is = absurd are
  last_quota [] (o ∷ others) d are is = absurd are
  last_quota (s ∷ seats) [] d are is = are.0 ∙ ap (λ (x : Drawing). x.quota) (sym is)
  last_quota (s ∷ seats) (o ∷ others) d are is = last_quota seats others d are.1 is

  module _ (d new : Drawing) (quota : new.quota ≡ d.quota) (draws : new.draws ≡ d.draws ++ last.draws) (share : new.share ≡ d.share + last.share) where
    is_together : new ≡ after_join d last
    is_together = λ i. record { quota = quota i; draws = draws i; share = share i }

    -- the last is joined first
    pub one_joined : (seats others : List Drawing) → AreOfQuotas seats (others ++ last ∷ []) → d ≡ slice_index_or seats (length others) d
        → all_after_join (slice_set seats (length others) new) others ≡ all_after_join seats (others ++ last ∷ [])
    one_joined [] [] are is = absurd are
    one_joined [] (o ∷ others) are is = absurd are
    one_joined (s ∷ seats) [] are is = ap (λ x. x ∷ seats) (is_together ∙ ap (λ x. after_join x last) is) ∙ ap (λ l. after_join s last ∷ l) (sym (none_joined seats))
    one_joined (s ∷ seats) (o ∷ others) are is = ap (λ l. after_join s o ∷ l) (one_joined seats others are.1 is)

    pub rest_are_of : (seats others : List Drawing) → AreOfQuotas seats (others ++ last ∷ [])
        → d ≡ slice_index_or seats (length others) d → AreOfQuotas (slice_set seats (length others) new) others
    rest_are_of [] [] are is = absurd are
    rest_are_of [] (o ∷ others) are is = absurd are
    rest_are_of (s ∷ seats) [] are is = tt
    rest_are_of (s ∷ seats) (o ∷ others) are is = (are.0, rest_are_of seats others are.1 is)

    pub all_stay : (P : Drawing → Type 0) → (P d → P new) → (seats : List Drawing) (t : ℕ) → t < length seats
        → d ≡ slice_index_or seats t d → All P seats → All P (slice_set seats t new)
    all_stay P keeps [] t inside is all = absurd (omega (arith, inside))
    all_stay P keeps (s ∷ seats) zero inside is all = All-cons P new seats (keeps (subst P (sym is) (All-head P s seats all))) (All-tail P s seats all)
    all_stay P keeps (s ∷ seats) (suc t) inside is all = All-cons P s _ (All-head P s seats all) (all_stay P keeps seats t (omega (arith, inside)) is (All-tail P s seats all))
