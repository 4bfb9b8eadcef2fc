-- Seats that were split among others, and joined again.
use Rattle.std.proofs.Common.{◌≡◌, ℕ, List, [], ◌∷◌, ◌++◌, Some, map, refl, ap, subst, ◌∙◌, arith, length-append}
use Rattle.std.specs.Prelude.{All}
use Rattle.std.proofs.lemmas.List.{get_or_append_left}
use Rattle.std.specs.List.{AllZip}
use Rattle.tenant_quota.specs.Drawing.{AreLater, Drawing, all_after_join, tickets_of_tenant, kept_half, new_half, shares_of}
use Rattle.service_threads.specs.Joining.{IsSeatSplit, all_joined, joined_tickets}

-- what holds of each of some seats holds of those before the last
pub all-front : (P : List Drawing → Type 0) (front : List (List Drawing)) (last : List Drawing)
    (whole : List (List Drawing)) → whole ≡ front ++ last ∷ [] → All P whole → All P front
all-front P front last whole same all = λ k d less.
    subst P (get_or_append_left front (last ∷ []) d k less)
    (subst (λ xs. All P xs) same all k d (omega (arith, less, length-append front (last ∷ []))))

-- the last one is joined first
pub joined-last : (seats : List Drawing) (others : List (List Drawing)) (last : List Drawing)
    → all_joined seats (others ++ last ∷ []) ≡ all_joined (all_after_join seats last) others
joined-last seats [] last = refl
joined-last seats (own ∷ others) last = ap (λ s. all_after_join s own) (joined-last seats others last)

module _ (halves : (seats : List Drawing) → all_after_join (map kept_half seats) (map new_half seats) ≡ seats)
    (shares : (old new others later : List Drawing) → shares_of new ≡ shares_of old → shares_of later ≡ shares_of others
    → shares_of (all_after_join new later) ≡ shares_of (all_after_join old others))
    (later_shares : (old new : List Drawing) → AreLater old new → shares_of new ≡ shares_of old) where
  pub joined-shares : (whole rest : List Drawing) (owns laters : List (List Drawing)) → IsSeatSplit whole owns rest
      → AllZip AreLater owns laters → shares_of (all_joined rest laters) ≡ shares_of whole
  joined-shares whole rest [] [] split zip = ap shares_of split
  joined-shares whole rest [] (later ∷ laters) split zip = absurd zip
  joined-shares whole rest (own ∷ owns) [] split zip = absurd zip
  joined-shares whole rest (own ∷ owns) (later ∷ laters) split zip =
      shares (map kept_half whole) (all_joined rest laters) (map new_half whole) later
      (joined-shares (map kept_half whole) rest owns laters split.1 zip.1)
      (later_shares own later zip.0 ∙ ap shares_of split.0)
      ∙ ap shares_of (halves whole)

module _ (drawn : (seats others : List Drawing) (tenant window : ℕ) (mine theirs : List ℕ)
    → tickets_of_tenant seats tenant window ≡ Some mine → tickets_of_tenant others tenant window ≡ Some theirs
    → tickets_of_tenant (all_after_join seats others) tenant window ≡ Some (mine ++ theirs)) where
  pub joined-drawn : (tenant window : ℕ) (seats : List Drawing) (before : List ℕ) (others : List (List Drawing))
      (told : List (List ℕ)) → tickets_of_tenant seats tenant window ≡ Some before
      → AllZip (λ own tickets. tickets_of_tenant own tenant window ≡ Some tickets) others told
      → tickets_of_tenant (all_joined seats others) tenant window ≡ Some (joined_tickets before told)
  joined-drawn tenant window seats before [] [] is zip = is
  joined-drawn tenant window seats before [] (tickets ∷ told) is zip = absurd zip
  joined-drawn tenant window seats before (own ∷ others) [] is zip = absurd zip
  joined-drawn tenant window seats before (own ∷ others) (tickets ∷ told) is zip =
      drawn (all_joined seats others) own tenant window (joined_tickets before told) tickets
      (joined-drawn tenant window seats before others told is zip.1) zip.0
