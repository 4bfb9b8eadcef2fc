-- Properties of policies, by kind.
use Rattle.std.specs.Prelude.{ℕ, ◌≤◌, ◌==◌, Bool, true, false}
use Rattle.policy_rate.specs.Level.{IsRate, full_level, level_after, converted_level}
use Rattle.engine_core.specs.declared.policy.Policy.{Policy}
use Rattle.engine_core.specs.declared.policy.Policy.TheVariants.{Access, Rate, Quota, Count, Redact}

-- the numbers of a policy are in their ranges
abbrev pub IsPolicy : Policy → Type 0
IsPolicy (Rate r) = IsRate r
IsPolicy (Quota tenant per cap) = (1 ≤ per) × (per ≤ 86400000)
IsPolicy _ = Unit {0}

-- an access policy
abbrev pub IsAccess : Policy → Type 0
IsAccess (Access p) = Unit {0}
IsAccess _ = ⊥

-- a policy that notes each call that it lets pass
abbrev pub IsNoting : Policy → Type 0
IsNoting (Rate r) = Unit {0}
IsNoting (Quota tenant per cap) = Unit {0}
IsNoting Count = Unit {0}
IsNoting _ = ⊥

-- two policies are of one kind; the tenant of a quota is part of its kind
abbrev pub is_same_kind : Policy → Policy → Bool
is_same_kind (Access p) (Access q) = true
is_same_kind (Rate r) (Rate s) = true
is_same_kind (Quota t per cap) (Quota u per' cap') = t == u
is_same_kind Count Count = true
is_same_kind (Redact r) (Redact s) = true
is_same_kind _ _ = false

-- the tenant is known, if the policy is a quota
abbrev pub KnowsTenantOf : (ℕ → Type 0) → Policy → Type 0
KnowsTenantOf Knows (Quota tenant per cap) = Knows tenant
KnowsTenantOf Knows _ = Unit {0}

-- A rate policy has a bucket; for other policies the level is 0.

-- the level at the attachment
abbrev pub initial_level : Policy → ℕ
initial_level (Rate r) = full_level r
initial_level _ = 0

-- the level after some milliseconds
abbrev pub level_after_time : Policy → ℕ → ℕ → ℕ
level_after_time (Rate r) level passed = level_after r level passed
level_after_time _ level passed = level

-- the level under a new policy
abbrev pub level_after_upgrade : Policy → Policy → ℕ → ℕ
level_after_upgrade (Rate old) (Rate new) level = converted_level old new level
level_after_upgrade _ _ level = level
