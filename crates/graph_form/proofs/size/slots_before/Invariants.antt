use Rattle.std.proofs.Common.{◌≡◌, ◌≤◌, ◌+◌, drop}
use Rattle.graph_form.specs.Roles.{slots_before}
use Rattle.graph_form.proofs.size.slots_before.Given as goal

-- the fields so far are counted, and the remaining ones are added
abbrev pub invariant-loop-field : goal.invariant-loop-field
invariant-loop-field l = (l.count + slots_before (drop l.field-index l.fields) l.number ≡ slots_before l.fields l.number) × (l.count ≤ l.field-index)
