-- One more load.
use Rattle.std.proofs.Common.{◌≡◌, ℕ, ◌<◌, ◌^◌, List, [], ◌∷◌, ◌++◌, length, Option, Some, None, refl, sym, ap, subst, ◌∙◌}
use Rattle.std.specs.Prelude.{MatchOption}
use Rattle.mrpc_base.specs.Heap.{AreLoads}
use Rattle.mrpc_table.specs.declared.table.Table.{Table}
use Rattle.graph_form.specs.Roles.{WordRole as Use, Expected, expected_after}
use Rattle.graph_form.specs.Placed.{IsValidWord}
use Rattle.graph_form.specs.Loading.{AreExpectedAfter}
use Rattle.graph_form.specs.Malformed.{IsInvalidFirst}
use Rattle.graph_form.specs.declared.reason.Reason.{Reason}
use Rattle.graph_form.specs.declared.reason.Reason.TheVariants.{Loads}
use Rattle.graph_copy.specs.declared.walk.Walk.{Walk}
use Rattle.graph_copy.specs.Expected.{expected, AreInHeap}
use Rattle.graph_copy.specs.Follows.{IsFollowed}
use Rattle.graph_copy.specs.Stops.{HasStopped, at_word, at_limit}
use Rattle.graph_copy.proofs.Fitting.{behind_fits, all_fit_both}

pub leads_more : (T : Table) (H : ℕ) (es : Expected) (xs : List (ℕ × ℕ)) (e : Use × ℕ) (rest : Expected) (v : ℕ)
    → AreExpectedAfter T H es xs (e ∷ rest) → v < 2 ^ 64 → IsValidWord T H e.0 v
    → AreExpectedAfter T H es (xs ++ (e.1, v) ∷ []) (expected_after T e.0 e.1 v ++ rest)
leads_more T H es [] e rest v h small fine = subst (λ es. AreExpectedAfter T H es ((e.1, v) ∷ []) (expected_after T e.0 e.1 v ++ rest)) (sym h) (refl, small, fine, refl)
leads_more T H [] (x ∷ xs) e rest v h small fine = absurd h
leads_more T H (d ∷ ds) (x ∷ xs) e rest v h small fine = (h.0, h.1, h.2, leads_more T H (expected_after T d.0 x.0 x.1 ++ ds) xs e rest v h.3 small fine)

pub after_more : {W : Type 0} (after_load : W → ℕ → ℕ → W → Type 0) (old mid new : W) (xs : List (ℕ × ℕ))
    (place v : ℕ) → AreLoads after_load old xs mid → after_load mid place v new
    → AreLoads after_load old (xs ++ (place, v) ∷ []) new
after_more after_load old mid new [] place v h more = (new, subst (λ w. after_load w place v new) h more, refl)
after_more after_load old mid new (x ∷ xs) place v h more = (h.0, h.1, after_more after_load h.0 mid new xs place v h.2 more)

pub at_some : {X : Type 0} (P : Type 0) (Q : X → Type 0) (o : Option X) (x : X) → o ≡ Some x → MatchOption o P Q → Q x
at_some P Q o x is h = subst (λ o. MatchOption o P Q) is h

pub at_none : {X : Type 0} (P : Type 0) (Q : X → Type 0) (o : Option X) → o ≡ None → MatchOption o P Q → P
at_none P Q o is h = subst (λ o. MatchOption o P Q) is h

pub stops_at_limit : (T : Table) (H limit : ℕ) (es now rest : Expected) (own : List (ℕ × ℕ)) (e : Use × ℕ)
    → AreExpectedAfter T H es own now → now ≡ e ∷ rest → length own ≡ limit → HasStopped T H limit es own Loads
stops_at_limit T H limit es now rest own e leads word full = at_limit e rest full (subst (AreExpectedAfter T H es own) word leads) refl

pub stops_at_word : (T : Table) (H limit : ℕ) (es now rest : Expected) (own all : List (ℕ × ℕ)) (e : Use × ℕ)
    (place v : ℕ) (before after : Walk) (found : Option Reason) (reason : Reason)
    → AreExpectedAfter T H es own now → now ≡ e ∷ rest → all ≡ own ++ (place, v) ∷ [] → place ≡ e.1 → v < 2 ^ 64
    → length own < limit → found ≡ Some reason → before.size ≡ H → IsFollowed T e v before after found
    → HasStopped T H limit es all reason
stops_at_word T H limit es now rest own all e place v before after found reason leads word items at small few some size follows =
    let offends = subst (λ o. IsFollowed T e v before after o) some follows in
    at_word own (place, v) e rest items few (subst (AreExpectedAfter T H es own) word leads) at small (subst (λ h. IsInvalidFirst T h e.0 v reason) size offends)

-- one more word was loaded and followed
pub record Goes (T : Table) (H : ℕ) (es now : Expected) (own : List (ℕ × ℕ)) : Type 0 where
  pub leads : AreExpectedAfter T H es own now
  pub fits : AreInHeap H now

pub goes_on : (T : Table) (H : ℕ) (es now : Expected) (own all : List (ℕ × ℕ)) (e : Use × ℕ) (place v : ℕ) (before after : Walk) (found : Option Reason)
    → AreExpectedAfter T H es own now → AreInHeap H now → now ≡ e ∷ expected T before → all ≡ own ++ (place, v) ∷ [] → place ≡ e.1
    → v < 2 ^ 64 → found ≡ None → before.size ≡ H → IsFollowed T e v before after found
    → Goes T H es (expected T after) all
goes_on T H es now own all e place v before after found leads fits word items at small none size follows =
    let on = subst (λ o. IsFollowed T e v before after o) none follows in
    let fine = subst (λ h. IsValidWord T h e.0 v) size on.0 in
    let lies = subst (AreInHeap H) word fits in
    let more = leads_more T H es own e (expected T before) v (subst (AreExpectedAfter T H es own) word leads) small fine in
    record {
      leads = subst (AreExpectedAfter T H es all) (sym on.1)
          (subst (λ xs. AreExpectedAfter T H es xs (expected_after T e.0 e.1 v ++ expected T before))
          (ap (λ p. own ++ (p, v) ∷ []) (sym at) ∙ sym items) more);
      fits = subst (AreInHeap H) (sym on.1) (all_fit_both H (expected_after T e.0 e.1 v) (expected T before) (behind_fits T H e.0 e.1 v fine lies.0) lies.1);
    }
