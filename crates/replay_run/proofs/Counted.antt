-- Which quotas were checked to be below the end of their count.
use Rattle.std.proofs.Common.{◌≡◌, ◌≢◌, ◌<◌, ◌≤◌, ◌^◌, ◌-◌, ℕ, refl, arith}
use Rattle.mrpc_base.specs.Quota.{Counters, drawn_in}
use Rattle.mrpc_base.specs.declared.tickets.TheConstants.{WINDOWS}
use Rattle.replay_run.specs.Kept.{HasCounted}

-- the windows of a tenant before this one were checked, and no other was drawn from
pub record AreCountedTo (tenant window : ℕ) (old new : Counters) : Type 0 where
  pub tenants : new.tenants ≡ old.tenants
  pub others : (other w : ℕ) → other < old.tenants → w < WINDOWS → other ≢ tenant
      → drawn_in new other w ≡ drawn_in old other w
  pub same : (w : ℕ) → w < WINDOWS → window ≤ w → drawn_in new tenant w ≡ drawn_in old tenant w
  pub counted : (w : ℕ) → w < window → drawn_in old tenant w < 2 ^ 64 - 1

pub counts-none : (tenant : ℕ) (old : Counters) → AreCountedTo tenant 0 old old
counts-none tenant old = record {
  tenants = refl;
  others = λ other w known early another. refl;
  same = λ w early from. refl;
  counted = λ w none. absurd (omega arith);
}

-- the quotas of the tenants before this one were checked, and no other was drawn from
pub record AreCountedBelow (tenant : ℕ) (old new : Counters) : Type 0 where
  pub tenants : new.tenants ≡ old.tenants
  pub same : (t w : ℕ) → t < old.tenants → w < WINDOWS → tenant ≤ t → drawn_in new t w ≡ drawn_in old t w
  pub counted : (t : ℕ) → t < tenant → HasCounted old t

pub below-none : (old : Counters) → AreCountedBelow 0 old old
below-none old = record { tenants = refl; same = λ t w known early from. refl; counted = λ t none. absurd (omega arith) }
