-- How the pending calls of a chain move along it (this project's own).
use Rattle.std.specs.Prelude.{ℕ, ◌+◌, ◌-◌, ◌==◌, nat_lt, min, not, List, [], ◌∷◌, filter, find, map, if◌then◌else◌, Option}
use Rattle.engine_core.specs.Chains.{Entry, is_named}
use Rattle.engine_core.specs.declared.op.Op.{Op}
use Rattle.engine_core.specs.declared.op.Op.TheVariants.{Attach, Detach, Upgrade}

-- the pending calls by ascending number, each a number and a position; the chain's length is the position for
-- transport
abbrev pub Row : Type 0
Row = List (ℕ × ℕ)

-- the first call at a position
abbrev pub first_at : ℕ → Row → Option (ℕ × ℕ)
first_at position row = find (λ call. call.1 == position) row

-- calls past a position return to it
abbrev pub returned_to : ℕ → Row → Row
returned_to position row = map (λ call. (call.0, min call.1 position)) row

-- calls past a detached entry move up
abbrev pub moved_up : ℕ → Row → Row
moved_up position row = map (λ call. (call.0, if nat_lt position call.1 then call.1 - 1 else call.1)) row

-- one call advances by an entry
abbrev pub advanced : ℕ → Row → Row
advanced seq row = map (λ call. (call.0, if call.0 == seq then call.1 + 1 else call.1)) row

-- a call and those with greater numbers start over
abbrev pub restarted : ℕ → Row → Row
restarted seq row = map (λ call. (call.0, if nat_lt call.0 seq then call.1 else 0)) row

-- one call is removed
abbrev pub without_call : ℕ → Row → Row
without_call seq row = filter (λ call. not (seq == call.0)) row

-- the position of the entry with a name; the number of entries if there is none
abbrev pub position_of : List ℕ → List Entry → ℕ
position_of name [] = 0
position_of name (e ∷ entries) = if is_named name e then 0 else position_of name entries + 1

-- how an operation moves calls
abbrev pub moved_by : Op → List Entry → Row → Row
moved_by (Attach at name label policy) entries row = returned_to at row
moved_by (Detach name) entries row = moved_up (position_of name entries) row
moved_by (Upgrade name label policy) entries row = returned_to (position_of name entries) row
