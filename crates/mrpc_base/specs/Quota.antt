-- The tickets of quotas, drawn from plain counters.
use Rattle.std.specs.Prelude.{ℕ, ◌+◌, ◌*◌, ◌-◌, ◌^◌, nat_lt, List, Option, Some, None, slice_index, if◌then◌else◌}
use Rattle.std.specs.List.{range_with_len}
use Rattle.mrpc_base.specs.declared.tickets.TheConstants.{WINDOWS}

-- the counters of this many tenants, each with as many windows as a quota has: those of the first tenant, then those of
-- the second, and so on
pub record Counters : Type 0 where
  pub tenants : ℕ
  pub drawn : List ℕ

-- how many tickets were drawn in a window of a tenant; it saturates at 2^64 - 1
abbrev pub drawn_in : Counters → ℕ → ℕ → ℕ
drawn_in c tenant window = slice_index c.drawn (tenant * WINDOWS + window)

-- the tickets of this many draws: 0, 1, 2, and so on; unknown once the counter has reached its last value
unfoldable pub tickets_of : ℕ → Option (List ℕ)
tickets_of drawn = if nat_lt drawn (2 ^ 64 - 1) then Some (range_with_len 0 drawn) else None
