-- The visit account of a connection after a visit.
use Rattle.std.proofs.Common.{◌≡◌, ◌≤◌, ◌<◌, ◌+◌, ◌-◌, ◌^◌, ◌⊎◌, inl, inr, ℕ, Bool, true, false, nat_lt, Option, None}
use Rattle.std.proofs.Common.{Some, ap, refl, sym, subst, ◌∙◌, arith}
use Rattle.std.proofs.lemmas.Bool.{lt-ltb}
use Rattle.std.specs.Prelude.{IfSome}
use Rattle.qos_order.specs.Account.{IsWithinGrant, IsBalanced, IsWeight, Visit, granted, kept_rounds, new_account, after_visit}
use Rattle.qos_order.specs.declared.account.Account.{Account}
use Rattle.service_loop.specs.Rounds.{IsGrantedByWeight, IsNewVisitAccount, IsVisitAccountOf, weight_of_visits}
use Rattle.service_loop.specs.Within.{CanCount, IsVisitCounted, HasCounted}
use Rattle.service_loop.specs.declared.endpoint.Endpoint.{Endpoint}
use Rattle.service_loop.specs.declared.visit_account.VisitAccount.{VisitAccount}

either : (b : Bool) → (b ≡ true) ⊎ (b ≡ false)
either true = inl refl
either false = inr refl

-- the grant of an order for connection `conn`, if it has a visit account
abbrev Grants : (ℕ → ℕ → ℕ) → ℕ → Option VisitAccount → Type 0
Grants grant_of conn share = IfSome share (λ s. (kept : ℕ) → grant_of conn kept ≡ granted s.weight kept)

-- ---- no visit

balanced-new : (weight : ℕ) → IsBalanced weight new_account
balanced-new weight = record { all = omega arith; most = omega arith }

-- the visit account of a connection without visits
pub share-new : (kept accepted : ℕ) (share : Option VisitAccount) → IfSome share IsNewVisitAccount → kept ≡ 0 → accepted ≡ 0
    → IfSome share (IsVisitAccountOf kept accepted)
share-new kept accepted None h no-rounds no-calls = tt
share-new kept accepted (Some share) h no-rounds no-calls = record {
  weight = h.0;
  balanced = subst (IsBalanced share.weight) (sym h.1) (balanced-new share.weight);
  keeps = ap (λ (a : Account). a.kept) h.1 ∙ sym no-rounds;
  rounds = λ less. omega (arith, no-calls);
}

-- ---- a visit

-- its grant is that of the account's weight
its-grant : (kept accepted : ℕ) (share : VisitAccount) (grant_of : ℕ → ℕ → ℕ) (conn grant : ℕ) → grant ≡ grant_of conn kept
    → IsVisitAccountOf kept accepted share → Grants grant_of conn (Some share)
    → grant ≡ granted share.weight share.account.kept
its-grant kept accepted share grant_of conn grant is h grants =
    is ∙ grants kept ∙ ap (λ (n : ℕ). granted share.weight n) (sym h.keeps)

-- it can be counted
pub can-count : (kept accepted : ℕ) (share : Option VisitAccount) (grant_of : ℕ → ℕ → ℕ) (conn grant : ℕ) (visit : Visit)
    → grant ≡ grant_of conn kept → IfSome share (IsVisitAccountOf kept accepted) → Grants grant_of conn share
    → IsWithinGrant grant visit → IfSome share (CanCount visit)
can-count kept accepted None grant_of conn grant visit is h grants fits = tt
can-count kept accepted (Some share) grant_of conn grant visit is h grants fits = record {
  weight = h.weight;
  balanced = h.balanced;
  fits = subst (λ (n : ℕ). IsWithinGrant n visit) (its-grant kept accepted share grant_of conn grant is h grants) fits;
}

-- a visit that gave at least as many rounds as calls were accepted keeps the rounds above the calls
rounds-cover : (weight : ℕ) (account : Account) (visit : Visit) (old new : ℕ)
    → (account.visits < 2 ^ 40 → old ≤ account.rounds) → new ≤ old + visit.given
    → (after_visit weight account visit).visits < 2 ^ 40 → new ≤ (after_visit weight account visit).rounds
rounds-cover weight account visit old new before more = elim (either (nat_lt account.visits (2 ^ 40))) [
  | inl counts ↦ rw counts (λ less.
      let earlier : old ≤ account.rounds = before (omega (arith, less)) in omega (arith, earlier, more))
  | inr stands ↦ rw stands (λ less.
      absurd (let wrong : true ≡ false = sym (lt-ltb account.visits (2 ^ 40) less) ∙ stands in cc))
]

share-again : (kept kept' old new : ℕ) (share now : VisitAccount) (visit : Visit) → IsVisitAccountOf kept old share
    → new ≤ old + visit.given → HasCounted visit share now → kept' ≡ now.account.kept → IsVisitAccountOf kept' new now
share-again kept kept' old new share now visit h more counted keeps = record {
  weight = subst IsWeight (sym counted.weight) h.weight;
  balanced = subst (λ (n : ℕ). IsBalanced n now.account) (sym counted.weight) counted.balanced;
  keeps = sym keeps;
  rounds = subst (λ (a : Account). a.visits < 2 ^ 40 → new ≤ a.rounds) (sym counted.account)
      (rounds-cover share.weight share.account visit old new h.rounds more);
}

-- after the visit, the account is the connection's again
pub shares-again : (kept kept' old new left : ℕ) (share share' : Option VisitAccount) (visit : Visit)
    → IfSome share (IsVisitAccountOf kept old) → new ≤ old + visit.given → IsVisitCounted visit left share share' kept'
    → IfSome share' (IsVisitAccountOf kept' new)
shares-again kept kept' old new left None None visit h more counts = tt
shares-again kept kept' old new left None (Some now) visit h more counts = absurd counts
shares-again kept kept' old new left (Some share) None visit h more counts = absurd counts
shares-again kept kept' old new left (Some share) (Some now) visit h more counts =
    share-again kept kept' old new share now visit h more counts.0 counts.1

pub weight-stays : (share share' : Option VisitAccount) (left kept : ℕ) (visit : Visit) → IsVisitCounted visit left share share' kept
    → weight_of_visits share' ≡ weight_of_visits share
weight-stays None None left kept visit counts = refl
weight-stays None (Some now) left kept visit counts = absurd counts
weight-stays (Some share) None left kept visit counts = absurd counts
weight-stays (Some share) (Some now) left kept visit counts = ap (λ (n : ℕ). Some n) counts.0.weight

kept-counted : (weight : ℕ) (account : Account) (visit : Visit) → account.visits < 2 ^ 40
    → (after_visit weight account visit).kept ≡ kept_rounds visit.ending (granted weight account.kept - visit.given)
kept-counted weight account visit less = rw (lt-ltb account.visits (2 ^ 40) less) refl

-- the rounds kept are those that the ending keeps, unless an account no longer changes
pub kept-so : (kept accepted : ℕ) (share share' : Option VisitAccount) (grant_of : ℕ → ℕ → ℕ) (conn grant kept' : ℕ)
    (visit : Visit) → grant ≡ grant_of conn kept → IfSome share (IsVisitAccountOf kept accepted)
    → Grants grant_of conn share → IsVisitCounted visit (grant - visit.given) share share' kept'
    → IfSome share (λ s. s.account.visits < 2 ^ 40) → kept' ≡ kept_rounds visit.ending (grant - visit.given)
kept-so kept accepted None None grant_of conn grant kept' visit is h grants counts below = counts
kept-so kept accepted None (Some now) grant_of conn grant kept' visit is h grants counts below = absurd counts
kept-so kept accepted (Some share) None grant_of conn grant kept' visit is h grants counts below = absurd counts
kept-so kept accepted (Some share) (Some now) grant_of conn grant kept' visit is h grants counts below =
    counts.1 ∙ ap (λ (a : Account). a.kept) counts.0.account ∙ kept-counted share.weight share.account visit below
    ∙ ap (λ (n : ℕ). kept_rounds visit.ending (n - visit.given))
    (sym (its-grant kept accepted share grant_of conn grant is h grants))

pub counted-so : (share share' : Option VisitAccount) (left kept : ℕ) (visit : Visit) → IsVisitCounted visit left share share' kept
    → IfSome share (λ old. IfSome share' (λ now. now.account ≡ after_visit old.weight old.account visit))
counted-so None share' left kept visit counts = tt
counted-so (Some share) None left kept visit counts = absurd counts
counted-so (Some share) (Some now) left kept visit counts = counts.0.account

-- ---- the grants of an order

grants-on : (grant_of : ℕ → ℕ → ℕ) (old new : ℕ) (share share' : Option VisitAccount)
    → weight_of_visits share' ≡ weight_of_visits share → new ≡ old → Grants grant_of old share
    → Grants grant_of new share'
grants-on grant_of old new share None weight conn h = tt
grants-on grant_of old new None (Some s) weight conn h = absurd (let wrong : Some s.weight ≡ None = weight in cc)
grants-on grant_of old new (Some r) (Some s) weight conn h = λ kept.
    let same : s.weight ≡ r.weight = (let both : Some s.weight ≡ Some r.weight = weight in cc) in
    ap (λ (n : ℕ). grant_of n kept) conn ∙ h kept ∙ ap (λ (n : ℕ). granted n kept) (sym same)

-- a later state gets the same grant, since the number and the weight stay
pub grants-later : {C Q L : Type 0} (grant_of : ℕ → ℕ → ℕ) (old new : Endpoint C Q L)
    → weight_of_visits new.share ≡ weight_of_visits old.share
    → new.submissions.conn.conn ≡ old.submissions.conn.conn → IsGrantedByWeight grant_of old → IsGrantedByWeight grant_of new
grants-later grant_of old new weight conn h =
    grants-on grant_of old.submissions.conn.conn new.submissions.conn.conn old.share new.share weight conn h
