-- One more draw of one seat of a list.
use Rattle.std.proofs.Common.{◌≡◌, ◌≢◌, ℕ, zero, suc, ◌<◌, ◌⊎◌, inl, inr, List, [], ◌∷◌, ◌++◌, length, refl, sym, ap, ◌∙◌, append-nil, arith}
use Rattle.std.specs.Prelude.{Some, IfSome, IsSomeAnd, slice_index_or, slice_set}
use Rattle.tenant_quota.specs.Drawing.{Drawing, tickets_in, tickets_of_tenant}
use Rattle.tenant_quota.proofs.Tickets.{tickets-append, ticket_here, ticket_elsewhere}

module _ (window ticket : ℕ) (d new : Drawing) (drew : new.draws ≡ d.draws ++ (window, ticket) ∷ []) where
  more : (x : Drawing) → d ≡ x → tickets_in window new.draws ≡ tickets_in window x.draws ++ ticket ∷ []
  more x is = ap (tickets_in window) drew ∙ tickets-append window d.draws ((window, ticket) ∷ []) ∙ ap (λ l. tickets_in window d.draws ++ l) (ticket_here window ticket)
      ∙ ap (λ (y : Drawing). tickets_in window y.draws ++ ticket ∷ []) is

  same : (x : Drawing) → d ≡ x → (w : ℕ) → w ≢ window → tickets_in w new.draws ≡ tickets_in w x.draws
  same x is w apart = ap (tickets_in w) drew ∙ tickets-append w d.draws ((window, ticket) ∷ [])
      ∙ ap (λ l. tickets_in w d.draws ++ l) (ticket_elsewhere w window ticket (λ e. apart (sym e)))
      ∙ append-nil (tickets_in w d.draws) ∙ ap (λ (y : Drawing). tickets_in w y.draws) is

  pub tenant_more : (seats : List Drawing) (t : ℕ) → t < length seats → d ≡ slice_index_or seats t d
      → IfSome (tickets_of_tenant (slice_set seats t new) t window)
      (λ tickets. IsSomeAnd (tickets_of_tenant seats t window) (λ before. tickets ≡ before ++ ticket ∷ []))
  tenant_more [] t inside is = absurd (omega (arith, inside))
  tenant_more (x ∷ xs) zero inside is = more x is
  tenant_more (x ∷ xs) (suc t) inside is = tenant_more xs t (omega (arith, inside)) is

  pub tenant_others : (seats : List Drawing) (t : ℕ) → d ≡ slice_index_or seats t d → (j w : ℕ)
      → (j ≢ t) ⊎ (w ≢ window) → tickets_of_tenant (slice_set seats t new) j w ≡ tickets_of_tenant seats j w
  tenant_others [] t is j w apart = refl
  tenant_others (x ∷ xs) zero is zero w (inl off) = absurd (off refl)
  tenant_others (x ∷ xs) zero is zero w (inr off) = ap Some (same x is w off)
  tenant_others (x ∷ xs) zero is (suc j) w apart = refl
  tenant_others (x ∷ xs) (suc t) is zero w apart = refl
  tenant_others (x ∷ xs) (suc t) is (suc j) w (inl off) = tenant_others xs t is j w (inl (λ e. off (ap suc e)))
  tenant_others (x ∷ xs) (suc t) is (suc j) w (inr off) = tenant_others xs t is j w (inr off)
