-- Each access preserves the rule of a quota.
use Rattle.std.proofs.Common.{◌≡◌, ◌≢◌, ℕ, zero, suc, ◌+◌, ◌%◌, ◌^◌, ◌<◌, ◌≤◌, ◌⊎◌, inl, inr, ⊎_elim, List}
use Rattle.std.proofs.Common.{[], ◌∷◌, ◌++◌, length, set, get_or, replicate, refl, sym, ap, ◌∙◌, subst, append-nil}
use Rattle.std.proofs.Common.{length-set, arith}
use Rattle.std.specs.Prelude.{IsPermutation, flat_map}
use Rattle.std.proofs.lemmas.List.{set-set, set_comm}
use Rattle.std.proofs.lemmas.List.Concat.{flat_map-append}
use Rattle.std.proofs.lemmas.List.Sums.{sum_by_push}
use Rattle.std.proofs.lemmas.List.Sorted.{IsPermutation-sym}
use Rattle.std.proofs.lemmas.List.{length-replicate}
use Rattle.std.proofs.lemmas.Bool.{cases_eq}
use mathlib.Core.Option.{some, none, some-injective, some-ne-none}
use lib.ListN.{get_elem?}
use Rattle.atomic_table.specs.Table.{State, keeps, step, Allows, Splits, Joins, opening, stepped}
use Rattle.atomic_table.proofs.Lists.{at_set, at_snoc, set_else, set_again}
use Rattle.tenant_quota.specs.declared.view.QuotaView.{QuotaView}
use Rattle.tenant_quota.specs.Drawing.{tickets_in}
use Rattle.tenant_quota.specs.Rule.{IsTicketCount, tickets_out, shares_out, IsViewOfQuota, IsQuota, Seated, IsDrawnOnceIfWhole, drew, IsDrawStep, IsSettleStep, opener, kept_view, new_view, joined_view, empty_view}
use Rattle.tenant_quota.proofs.Lists.{out_more, out_alone, sum_set, others_none}
use Rattle.tenant_quota.proofs.Tickets.{tickets-append, ticket_here, ticket_elsewhere, counts_none, counts_moved, counts_more}

zero_at : (n i : ℕ) → get_or {A = ℕ} (replicate {A = ℕ} n 0) i 0 ≡ 0
zero_at zero i = refl
zero_at (suc n) zero = refl
zero_at (suc n) (suc i) = zero_at n i

zero_word : (ws : List ℕ) (n i : ℕ) → ws ≡ replicate n 0 → get_or ws i 0 ≡ 0
zero_word ws n i e = ap (λ (l : List ℕ). get_or l i 0) e ∙ zero_at n i

pub begins : (words : List ℕ) (n : ℕ) → words ≡ replicate n 0 → IsQuota n (opening words [] (opener n))
begins words n zeros = record {
  sized = ap length zeros ∙ length-replicate n 0;
  words = λ window inside. subst (λ w. IsTicketCount w []) (sym (zero_word words n window zeros)) counts_none;
  shares = refl;
  seats = one;
}
  where
    one : (seat : ℕ) (v : QuotaView) → get_elem? (opener n ∷ []) seat ≡ some v → IsViewOfQuota n v
    one zero v e = subst (IsViewOfQuota n) (some-injective _ _ e) (record { knows = λ _. refl; none = λ h. absurd (omega (arith, h)) })
    one (suc seat) v e = absurd (some-ne-none v (sym e))

-- the knowledge of a seat with all shares
pub once_with_all_shares : (windows id : ℕ) (s : State (Unit {0}) QuotaView) → IsQuota windows s → (v : QuotaView) → get_elem? s.views id ≡ some v → IsDrawnOnceIfWhole v
once_with_all_shares windows id s h v at = λ all window inside few.
    let positive : 0 < v.share = omega (arith, all) in
    let within : window < windows = subst (λ n. window < n) ((h.seats id v at).knows positive) inside in
    let alone : tickets_out window s.views ≡ tickets_in window v.draws
    = out_alone (λ (u : QuotaView). tickets_in window u.draws) s.views id v at
    (λ j u e apart. ap (tickets_in window) ((h.seats j u e).none (others_none (λ (u : QuotaView). u.share) s.views id v at (all ∙ sym h.shares) j u e apart))) in
    let counts = subst (IsTicketCount (get_or s.words window 0)) alone (h.words window within) in
    counts.once few

set_own : (l : List ℕ) (i : ℕ) → set l i (get_or l i 0) ≡ l
set_own [] i = refl
set_own (x ∷ xs) zero = refl
set_own (x ∷ xs) (suc i) = ap (λ l. x ∷ l) (set_own xs i)

get_set : (l : List ℕ) (i n : ℕ) → i < length l → get_or (set l i n) i 0 ≡ n
get_set [] i n h = absurd (omega arith)
get_set (x ∷ xs) zero n h = refl
get_set (x ∷ xs) (suc i) n h = get_set xs i n (omega arith)

get_set_else : (l : List ℕ) (i j n : ℕ) → j ≢ i → get_or (set l i n) j 0 ≡ get_or l j 0
get_set_else [] i j n h = refl
get_set_else (x ∷ xs) zero zero n h = absurd (h refl)
get_set_else (x ∷ xs) zero (suc j) n h = refl
get_set_else (x ∷ xs) (suc i) zero n h = refl
get_set_else (x ∷ xs) (suc i) (suc j) n h = get_set_else xs i j n (λ e. h (ap suc e))

fits_set : (windows : ℕ) (views : List QuotaView) (id : ℕ) (w : QuotaView) → IsViewOfQuota windows w
    → ((j : ℕ) (u : QuotaView) → get_elem? views j ≡ some u → IsViewOfQuota windows u) → (j : ℕ) (u : QuotaView)
    → get_elem? (set views id w) j ≡ some u → IsViewOfQuota windows u
fits_set windows views id w new old j u e = ⊎_elim (λ (x : (j ≡ id) × (w ≡ u)). subst (IsViewOfQuota windows) x.1 new)
    (λ (x : (j ≢ id) × (get_elem? views j ≡ some u)). old j u x.1) (at_set views id j w u e)

there : (views : List QuotaView) (id : ℕ) (v w : QuotaView) → get_elem? views id ≡ some v → get_elem? (set views id w) id ≡ some w
there [] id v w e = absurd (some-ne-none v (sym e))
there (x ∷ xs) zero v w e = refl
there (x ∷ xs) (suc id) v w e = there xs id v w e

module _ (windows slots id i : ℕ) (me : Seated) (shares : 1 ≤ me.0.share) (inside : i < windows) where
  draw_state : State (Unit {0}) QuotaView → ℕ → State (Unit {0}) QuotaView
  draw_state s n = stepped s i ((n + 1) % 2 ^ 64) id me.1 (drew me.0 i n) keeps

  drawn_word : (s : State (Unit {0}) QuotaView) → IsQuota windows s → get_elem? s.views id ≡ some me.0 → (window : ℕ) → window < windows → (window ≡ i) ⊎ (window ≢ i)
      → IsTicketCount (get_or (set s.words i ((get_or s.words i 0 + 1) % 2 ^ 64)) window 0) (tickets_out window (set s.views id (drew me.0 i (get_or s.words i 0))))
  drawn_word s h at window within (inl same) =
      let n = get_or s.words i 0 in
      let f : QuotaView → List ℕ = λ u. tickets_in i u.draws in
      let here : tickets_in i (me.0.draws ++ (i, n) ∷ []) ≡ tickets_in i me.0.draws ++ n ∷ [] =
      tickets-append i me.0.draws ((i, n) ∷ []) ∙ ap (λ l. tickets_in i me.0.draws ++ l) (ticket_here i n) in
      let moved = out_more f s.views id me.0 (drew me.0 i n) (n ∷ []) at here in
      let more = counts_more n (tickets_out i s.views) (h.words i inside) in
      subst (λ w. IsTicketCount (get_or (set s.words i ((n + 1) % 2 ^ 64)) w 0) (tickets_out w (set s.views id (drew me.0 i n)))) (sym same)
      (subst (λ w. IsTicketCount w (tickets_out i (set s.views id (drew me.0 i n)))) (sym (get_set s.words i ((n + 1) % 2 ^ 64) (omega (arith, inside, h.sized))))
      (counts_moved _ _ _ moved more))
  drawn_word s h at window within (inr apart) =
      let n = get_or s.words i 0 in
      let f : QuotaView → List ℕ = λ u. tickets_in window u.draws in
      let here : tickets_in window (me.0.draws ++ (i, n) ∷ []) ≡ tickets_in window me.0.draws ++ [] =
      tickets-append window me.0.draws ((i, n) ∷ []) ∙ ap (λ l. tickets_in window me.0.draws ++ l)
      (ticket_elsewhere window i n (λ e. apart (sym e))) in
      let moved = out_more f s.views id me.0 (drew me.0 i n) [] at here in
      let old = subst (IsTicketCount (get_or s.words window 0)) (sym (append-nil (tickets_out window s.views))) (h.words window within) in
      subst (λ w. IsTicketCount w (tickets_out window (set s.views id (drew me.0 i n)))) (sym (get_set_else s.words i window ((n + 1) % 2 ^ 64) apart))
      (counts_moved _ _ _ moved old)

  drawn_keeps : (s : State (Unit {0}) QuotaView) → IsQuota windows s → get_elem? s.views id ≡ some me.0 → IsQuota windows (draw_state s (get_or s.words i 0))
  unfolding draw_state
  drawn_keeps s h at =
      let w = drew me.0 i (get_or s.words i 0) in
      let same = sum_set (λ (u : QuotaView). u.share) s.views id me.0 w at in
      record {
        sized = length-set s.words i _ ∙ h.sized;
        words = λ window within. drawn_word s h at window within (cases_eq window i);
        shares = omega (arith, same, h.shares);
        seats = fits_set windows s.views id w (record { knows = (h.seats id me.0 at).knows; none = λ z. absurd (omega (arith, z, shares)) }) h.seats;
      }

  pub draws_it : Allows (IsQuota windows) slots id me i (λ n. (n + 1) % 2 ^ 64) (IsDrawStep (step slots i 1 0 none) me)
  unfolding draw_state
  draws_it s h sized at fits =
      let n = get_or s.words i 0 in
      let w = drew me.0 i n in
      let kept = drawn_keeps s h at in (
        w,
        keeps,
        tt,
        kept,
        record { view = refl; slots = refl; once = once_with_all_shares windows id (draw_state s n) kept w (there s.views id me.0 w at) },
      )

pub splits_it : (windows id : ℕ) (v : QuotaView) → 2 ≤ v.share → Splits (IsQuota windows) id v (kept_view v) (new_view v)
splits_it windows id v two s h at =
    let mine = h.seats id v at in
    let left = kept_view v in
    let right = new_view v in
    let vs = set s.views id left in
    let same = sum_set (λ (u : QuotaView). u.share) s.views id v left at in
    let more : shares_out (vs ++ right ∷ []) ≡ shares_out vs + right.share = sum_by_push (λ (u : QuotaView). u.share) vs right in
    let whole = h.shares in
    let fits_left : IsViewOfQuota windows left = record { knows = λ _. mine.knows (omega (arith, two)); none = λ z. absurd (omega (arith, z, two)) } in
    let fits_right : IsViewOfQuota windows right = record { knows = λ _. mine.knows (omega (arith, two)); none = λ _. refl } in
    record {
      sized = h.sized;
      words = λ window within.
          let f : QuotaView → List ℕ = λ u. tickets_in window u.draws in
          let moved = out_more f s.views id v left [] at (sym (append-nil (f v))) in
          let last : flat_map f (vs ++ right ∷ []) ≡ flat_map f vs = flat_map-append f vs (right ∷ []) ∙ append-nil (flat_map f vs) in
          let old = subst (IsTicketCount (get_or s.words window 0)) (sym (append-nil (flat_map f s.views))) (h.words window within) in
          subst (IsTicketCount (get_or s.words window 0)) (sym last) (counts_moved _ _ _ moved old);
      shares = omega (arith, same, more, whole);
      seats = λ j u e. ⊎_elim (λ x. fits_set windows s.views id left fits_left h.seats j u x) (λ (x : right ≡ u). subst (IsViewOfQuota windows) x fits_right) (at_snoc vs right u j e);
    }

-- a seat's tickets are removed
out_less : (f : QuotaView → List ℕ) (views : List QuotaView) (seat : ℕ) (u : QuotaView) → get_elem? views seat ≡ some u
    → f empty_view ≡ [] → IsPermutation (flat_map f views) (flat_map f (set views seat empty_view) ++ f u)
out_less f views seat u at empty =
    let back : set (set views seat empty_view) seat u ≡ views = set-set views seat empty_view u ∙ set_again views seat u at in
    let more = out_more f (set views seat empty_view) seat empty_view u (f u) (there views seat u empty_view at) (ap (λ l. l ++ f u) (sym empty)) in
    IsPermutation-sym _ _ (subst (λ l. IsPermutation (flat_map f (set views seat empty_view) ++ f u) (flat_map f l)) back more)

pub joins_it : (windows id : ℕ) (v : QuotaView) (other : ℕ) (u : QuotaView) → 1 ≤ v.share → Joins (IsQuota windows) id v other u (joined_view v u) empty_view
joins_it windows id v other u some_share s h at apart there_is =
    let both = joined_view v u in
    let vs = set s.views id both in
    let theirs : get_elem? s.views other ≡ some u = sym (set_else s.views id other both apart) ∙ there_is in
    let mine = h.seats id v at in
    let one = sum_set (λ (x : QuotaView). x.share) s.views id v both at in
    let two = sum_set (λ (x : QuotaView). x.share) vs other u empty_view there_is in
    let whole = h.shares in
    let fits_both : IsViewOfQuota windows both = record { knows = λ _. mine.knows some_share; none = λ z. absurd (omega (arith, z, some_share)) } in
    let fits_nobody : IsViewOfQuota windows empty_view = record { knows = λ z. absurd (omega (arith, z)); none = λ _. refl } in
    record {
      sized = h.sized;
      words = λ window within.
          let f : QuotaView → List ℕ = λ x. tickets_in window x.draws in
          let gone = out_less f s.views other u theirs refl in
          let still : get_elem? (set s.views other empty_view) id ≡ some v = set_else s.views other id empty_view (λ e. apart (sym e)) ∙ at in
          let came = out_more f (set s.views other empty_view) id v both (f u) still (tickets-append window v.draws u.draws) in
          let order : set (set s.views other empty_view) id both ≡ set vs other empty_view = set_comm s.views other id empty_view both (λ e. apart e) in
          subst (λ l. IsTicketCount (get_or s.words window 0) (flat_map f l)) order (counts_moved _ _ _ came (counts_moved _ _ _ gone (h.words window within)));
      shares = omega (arith, one, two, whole);
      seats = fits_set windows vs other empty_view fits_nobody (fits_set windows s.views id both fits_both h.seats);
    }

pub settles_it : (windows slots id i : ℕ) (me : Seated) → Allows (IsQuota windows) slots id me i (λ n. n) (IsSettleStep (step slots i 0 0 none) me)
settles_it windows slots id i me s h sized at fits =
    let n = get_or s.words i 0 in
    let words : set s.words i n ≡ s.words = set_own s.words i in
    let views : set s.views id me.0 ≡ s.views = set_again s.views id me.0 at in
    let kept : IsQuota windows (stepped s i n id me.1 me.0 keeps) =
    subst (λ (x : List ℕ × List QuotaView). IsQuota windows (record { words = x.0; homes = s.homes; views = x.1 }))
    (λ k. (sym words k, sym views k)) (record {
      sized = h.sized;
      words = h.words;
      shares = h.shares;
      seats = h.seats;
    }) in
    (me.0, keeps, tt, kept, record { same = refl; once = once_with_all_shares windows id s h me.0 at })
