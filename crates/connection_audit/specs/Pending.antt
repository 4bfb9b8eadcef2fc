-- The line of a pending call (this project's own).
use Rattle.std.specs.Prelude.{ℕ, ◌==◌, ◌&&◌, nat_lt, Bool, false, List, slice_get, Option, Some, None, option_map, unwrap_or, if◌then◌else◌}
use Rattle.std.specs.List.{flat_map}
use Rattle.std.specs.Option.{option_and_then, option_map_or}
use Rattle.policy_rate.specs.declared.rate.Rate.{Rate as RatePolicy}
use Rattle.engine_core.specs.Answers.{Past, nothing}
use Rattle.engine_core.specs.Chains.{Entry}
use Rattle.engine_core.specs.Moves.{first_at}
use Rattle.engine_core.specs.declared.policy.Policy.{Policy}
use Rattle.engine_core.specs.declared.policy.Policy.TheVariants.{Rate}
use Rattle.call_history.specs.Trace.{chain, level_in_trace, noted}
use Rattle.call_history.specs.Transitions.{ConnState}
use Rattle.audit_text.specs.Lines.{stands_line, transport}
use Rattle.audit_text.specs.declared.holding.Holding.{Holding}

-- A rate policy that holds calls holds a call of which its entry has noted nothing, if the level is below the cost.
abbrev pub held_below : RatePolicy → (level_in_trace : ℕ) → Option Holding
held_below rate level_in_trace =
    if rate.hold && nat_lt level_in_trace rate.per then Some (record {
      level = level_in_trace;
      cost = rate.per;
    }) else None

abbrev pub held_by : Policy → (level_in_trace : ℕ) → Past → Option Holding
held_by (Rate rate) level_in_trace nothing = held_below rate level_in_trace
held_by _ level_in_trace past = None

-- the call is the first at its position
abbrev pub is_first_at_position : ConnState → ℕ × ℕ → Bool
is_first_at_position c call = option_map_or (λ first. first.0 == call.0) (first_at call.1 c.row) false

abbrev pub entry_at : ConnState → (position : ℕ) → Option Entry
entry_at c position = slice_get (chain c.past).entries position

-- the name of the queue at a position: the engine's, or the transport queue's after the last engine
abbrev pub queue_name : ConnState → (position : ℕ) → List ℕ
queue_name c position = unwrap_or (option_map (λ e. e.name) (entry_at c position)) transport

abbrev pub held_at : ConnState → ℕ × ℕ → Entry → Option Holding
held_at c call e = held_by e.policy (level_in_trace e.name c.past) (noted e.name call.0 c.past)

-- the level and cost at which a call is held; none if it isn't held
abbrev pub holding : ConnState → ℕ × ℕ → Option Holding
holding c call = if is_first_at_position c call then option_and_then (held_at c call) (entry_at c call.1) else None

-- the line of a pending call, which is a number and a position
abbrev pub pending_line : (conn : ℕ) → ConnState → ℕ × ℕ → List ℕ
pending_line conn c call = stands_line conn call.0 call.1 (queue_name c call.1) (holding c call)

-- the lines of a connection's pending calls, by ascending number of the call
abbrev pub pending_lines : (conn : ℕ) → ConnState → List ℕ
pending_lines conn c = flat_map (pending_line conn c) c.row
