-- An account of rounds, and how visits change it (this project's own).
use Rattle.std.specs.Prelude.{◌≡◌, ◌≤◌, ℕ, ◌+◌, ◌-◌, ◌*◌, ◌^◌, min, nat_lt, if◌then◌else◌, List, [], ◌∷◌, fold}
use Rattle.qos_order.specs.declared.account.Account.{Account}
use Rattle.qos_order.specs.declared.account.Ending.{Ending}
use Rattle.qos_order.specs.declared.account.Ending.TheVariants.{Given, Idle, Shut}

-- a weight is 1 to 100
abbrev pub IsWeight : ℕ → Type 0
IsWeight weight = (1 ≤ weight) × (weight ≤ 100)

-- a visit of a connection: the rounds given, and how the visit ended
pub record Visit : Type 0 where
  pub given : ℕ
  pub ending : Ending

-- the rounds granted to a visit: the weight, plus the kept rounds up to the weight
abbrev pub granted : ℕ → ℕ → ℕ
granted weight kept = weight + min kept weight

-- what a visit keeps of the unused rounds of its grant: all if the connection was shut
abbrev pub kept_rounds : Ending → ℕ → ℕ
kept_rounds Given left = 0
kept_rounds Idle left = 0
kept_rounds Shut left = left

-- what a visit drops of the unused rounds: all if the connection was idle
abbrev pub dropped_rounds : Ending → ℕ → ℕ
dropped_rounds Given left = 0
dropped_rounds Idle left = left
dropped_rounds Shut left = 0

-- the account before the first visit
abbrev pub new_account : Account
new_account = record { visits = 0; rounds = 0; kept = 0; dropped = 0 }

-- the account with one more visit; kept rounds beyond the weight are dropped too
abbrev pub counted_visit : ℕ → Account → Visit → Account
counted_visit weight account visit =
    let left = granted weight account.kept - visit.given in record {
      visits = account.visits + 1;
      rounds = account.rounds + visit.given;
      kept = kept_rounds visit.ending left;
      dropped = account.dropped + (account.kept - min account.kept weight) + dropped_rounds visit.ending left;
    }

-- the account after one more visit; at 2^40 visits it no longer changes
abbrev pub after_visit : ℕ → Account → Visit → Account
after_visit weight account visit = if nat_lt account.visits (2 ^ 40) then counted_visit weight account visit else account

-- the account after a list of visits
abbrev pub account_after : ℕ → List Visit → Account
account_after weight visits = fold (after_visit weight) new_account visits

-- a visit gives at most its grant, and all of it if it ends `Given`
pub record IsWithinGrant (grant : ℕ) (visit : Visit) : Type 0 where
  pub within : visit.given ≤ grant
  pub whole : visit.ending ≡ Given → visit.given ≡ grant

-- each visit is within the grant that the account has after the visits before it
abbrev pub AreWithinGrants : ℕ → Account → List Visit → Type 0
AreWithinGrants weight account [] = Unit {0}
AreWithinGrants weight account (visit ∷ visits) = IsWithinGrant (granted weight account.kept) visit
    × AreWithinGrants weight (after_visit weight account visit) visits

-- the granted rounds of all visits are given, kept or dropped, and at most twice the weight is kept
pub record IsBalanced (weight : ℕ) (account : Account) : Type 0 where
  pub all : weight * account.visits ≡ account.rounds + account.kept + account.dropped
  pub most : account.kept ≤ 2 * weight

-- over every list of visits at one weight within their grants, the account is balanced
abbrev pub AllVisitsBalance : Type 0
AllVisitsBalance = (weight : ℕ) (visits : List Visit) → IsWeight weight → AreWithinGrants weight new_account visits
    → IsBalanced weight (account_after weight visits)
