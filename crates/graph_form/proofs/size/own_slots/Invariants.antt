use Rattle.std.proofs.Common.{◌≡◌, ◌≤◌, length, take}
use Rattle.graph_form.specs.Roles.{own_slots}
use Rattle.graph_form.proofs.size.own_slots.Given as goal

-- the fields so far are counted
abbrev pub invariant-loop-field : goal.invariant-loop-field
invariant-loop-field l = (l.count ≡ length (own_slots (take l.field-index l.fields))) × (l.count ≤ l.field-index)
