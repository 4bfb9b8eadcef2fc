-- Accounts stay balanced.
use Rattle.std.proofs.Common.{ℕ, ◌^◌, nat_lt, List, [], ◌∷◌, fold, refl, arith, inl, inr}
use Rattle.qos_order.proofs.Keyed.{bool_cases}
use Rattle.qos_order.specs.Account.{AreWithinGrants, IsWithinGrant, IsBalanced, Visit, AllVisitsBalance, counted_visit, granted, new_account, after_visit}
use Rattle.qos_order.specs.declared.account.Account.{Account}
use Rattle.qos_order.specs.declared.account.Ending.{Ending}
use Rattle.qos_order.specs.declared.account.Ending.TheVariants.{Given, Idle, Shut}

counted_ending : (weight visits rounds kept dropped given : ℕ) (ending : Ending)
    → IsBalanced weight (record { visits = visits; rounds = rounds; kept = kept; dropped = dropped })
    → IsWithinGrant (granted weight kept) (record { given = given; ending = ending })
    → IsBalanced weight (counted_visit weight (record { visits = visits; rounds = rounds; kept = kept; dropped = dropped }) (record { given = given; ending = ending }))
counted_ending weight visits rounds kept dropped given Given balanced fits =
    let all = balanced.all in
    let whole = fits.whole refl in
    record { all = omega (arith, whole); most = omega arith }
counted_ending weight visits rounds kept dropped given Idle balanced fits =
    let within = fits.within in
    record { all = omega (arith, balanced.all); most = omega arith }
counted_ending weight visits rounds kept dropped given Shut balanced fits =
    let within = fits.within in
    record { all = omega (arith, balanced.all); most = omega (arith, balanced.most) }

-- one more visit keeps the balance
pub visited_balanced : (weight : ℕ) (account : Account) (visit : Visit) → IsBalanced weight account
    → IsWithinGrant (granted weight account.kept) visit → IsBalanced weight (after_visit weight account visit)
visited_balanced weight account visit balanced fits = elim (bool_cases (nat_lt account.visits (2 ^ 40))) [
  | inl before ↦ rw before (counted_ending weight account.visits account.rounds account.kept account.dropped visit.given visit.ending balanced fits)
  | inr after ↦ rw after balanced
]

after_balanced : (weight : ℕ) (account : Account) (visits : List Visit) → IsBalanced weight account
    → AreWithinGrants weight account visits → IsBalanced weight (fold (after_visit weight) account visits)
after_balanced weight account [] balanced fit = balanced
after_balanced weight account (visit ∷ visits) balanced fit = after_balanced weight (after_visit weight account visit) visits (visited_balanced weight account visit balanced fit.0) fit.1

pub new_balanced : (weight : ℕ) → IsBalanced weight new_account
new_balanced weight = record { all = omega arith; most = omega arith }

pub visits_balance : AllVisitsBalance
visits_balance weight visits in_range fit = after_balanced weight new_account visits (new_balanced weight) fit
