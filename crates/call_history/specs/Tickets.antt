-- The tickets that were drawn on a connection (this project's own).
use Rattle.std.specs.Prelude.{ℕ, ◌==◌, ◌&&◌, Bool, false, List, [], ◌∷◌, ◌++◌, if◌then◌else◌}
use Rattle.std.specs.Option.{option_map_or}
use Rattle.engine_core.specs.declared.policy.Policy.{Policy}
use Rattle.engine_core.specs.declared.policy.Policy.TheVariants.{Quota}
use Rattle.call_history.specs.Trace.{Trace, policy_in_trace}
use Rattle.call_history.specs.declared.happening.Happening.{Happening}
use Rattle.call_history.specs.declared.happening.Happening.TheVariants.{Drawn}

-- the policy is a quota of the tenant
abbrev pub is_quota_of : ℕ → Policy → Bool
is_quota_of tenant (Quota owner per cap) = owner == tenant
is_quota_of tenant _ = false

-- the ticket that an event draws in a tenant's window, given the trace before it
abbrev pub tickets_drawn_by : ℕ → ℕ → Happening → Trace → List ℕ
tickets_drawn_by tenant window (Drawn seq name at ticket) past =
    if (at == window) && option_map_or (is_quota_of tenant) (policy_in_trace name past) false then ticket ∷ [] else []
tickets_drawn_by tenant window _ past = []

-- the tickets that were drawn in a tenant's window, in order
abbrev pub tickets_of_trace : ℕ → ℕ → Trace → List ℕ
tickets_of_trace tenant window [] = []
tickets_of_trace tenant window (last ∷ past) = tickets_of_trace tenant window past ++ tickets_drawn_by tenant window last past
