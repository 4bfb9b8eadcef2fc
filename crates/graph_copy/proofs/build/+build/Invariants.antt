use Rattle.std.proofs.Common.{◌+◌, ◌-◌, ◌*◌, drop, length}
use Rattle.mrpc_table.specs.Normal.{fields_of}
use Rattle.graph_form.specs.Roles.{own_slots, oneof_count}
use Rattle.graph_copy.proofs.Gathering.{ElementsOn, EntriesOn, SlotsOn, CasesOn}
use Rattle.graph_copy.proofs.build.+build.Given as goal

abbrev pub decreases-node : goal.decreases-node
decreases-node l = 16 * l.room + 8

abbrev pub decreases-slots : goal.decreases-slots
decreases-slots l = 16 * l.room + 7

abbrev pub decreases-members : goal.decreases-members
decreases-members l = 16 * l.room + 7

abbrev pub decreases-member : goal.decreases-member
decreases-member l = 16 * l.room + 6

abbrev pub decreases-slot : goal.decreases-slot
decreases-slot l = 16 * l.room + 6

abbrev pub decreases-elements : goal.decreases-elements
decreases-elements l = 16 * l.room + 5

abbrev pub decreases-entries : goal.decreases-entries
decreases-entries l = 16 * l.room + 5

abbrev pub decreases-item : goal.decreases-item
decreases-item l = 16 * l.room + 4

abbrev pub decreases-value : goal.decreases-value
decreases-value l = 16 * l.room + 3

abbrev pub invariant-elements-loop-element : goal.invariant-elements-loop-element
invariant-elements-loop-element l = ElementsOn l.table l.kind l.room l.count l.initial.tape.loads.now (l.count - l._element) l.tape.loads.now l.values.items

abbrev pub invariant-entries-loop-entry : goal.invariant-entries-loop-entry
invariant-entries-loop-entry l = EntriesOn l.table l.key l.kind l.room l.count l.initial.tape.loads.now (l.count - l._entry) l.tape.loads.now l.entries.items

abbrev pub invariant-members-loop-oneof : goal.invariant-members-loop-oneof
invariant-members-loop-oneof l =
    CasesOn l.table (fields_of l.table l.message) l.room (oneof_count l.table l.message) l.fn.tape.loads.now
    (oneof_count l.table l.message - l._oneof) l.tape.loads.now l.fn.found.items l.found.items

abbrev pub invariant-slots-loop-place : goal.invariant-slots-loop-place
invariant-slots-loop-place l = SlotsOn l.table (fields_of l.table l.message) (own_slots (fields_of l.table l.message))
    l.room l.fn.tape.loads.now (own_slots (drop l.from l.fields)) l.tape.loads.now l.fn.found.items l.found.items

abbrev pub decreases-slots-loop-place : goal.decreases-slots-loop-place
decreases-slots-loop-place l = length l.fields - l.from
