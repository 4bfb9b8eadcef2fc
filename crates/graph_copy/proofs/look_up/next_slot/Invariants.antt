use Rattle.std.proofs.Common.{◌≡◌, drop}
use Rattle.graph_form.specs.Roles.{own_slots}
use Rattle.graph_copy.proofs.look_up.next_slot.Given as goal

-- no slot was skipped
abbrev pub invariant-loop-place : goal.invariant-loop-place
invariant-loop-place l = own_slots (drop l.from l.fields) ≡ own_slots (drop l.place l.fields)
