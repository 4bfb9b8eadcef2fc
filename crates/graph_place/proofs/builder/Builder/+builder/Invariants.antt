use Rattle.std.proofs.Common.{◌+◌, ◌-◌, ◌*◌, drop}
use Rattle.mrpc_table.specs.Normal.{fields_of}
use Rattle.mrpc_table.specs.View.{item_of, items_of, pairs_of, content_of}
use Rattle.mrpc_table.specs.Weight.{weight, content_weight, item_weight, items_weight, pairs_weight}
use Rattle.graph_form.specs.Roles.{oneof_count}
use Rattle.graph_place.proofs.Lists.{ElementsOn, EntriesOn}
use Rattle.graph_place.proofs.Slots.{SlotsOn, CasesOn}
use Rattle.graph_place.proofs.builder.Builder.+builder.Given as goal

-- the slots of the fields so far are placed
abbrev pub invariant-slots-loop-field : goal.invariant-slots-loop-field
invariant-slots-loop-field l =
    SlotsOn l.table (fields_of l.table l.message) l.tree l.at l.fn.self.free l.fn.self.words.items
    (drop l.field-index l.fields) l.place l.self.free l.self.words.items

-- the slots of the oneofs so far are placed
abbrev pub invariant-cases-loop-oneof : goal.invariant-cases-loop-oneof
invariant-cases-loop-oneof l = CasesOn l.table (fields_of l.table l.message) l.tree (oneof_count l.table l.message) l.at
    l.fn.self.free l.fn.self.words.items l.oneof (oneof_count l.table l.message - l.oneof) l.place l.self.free
    l.self.words.items

abbrev pub invariant-elements-loop-value : goal.invariant-elements-loop-value
invariant-elements-loop-value l =
    ElementsOn l.table l.kind l.values.items l.at l.initial.self.free l.initial.self.words.items
    (drop l.value-index l.value-items) l.next l.self.free l.self.words.items

abbrev pub invariant-entries-loop-entry : goal.invariant-entries-loop-entry
invariant-entries-loop-entry l =
    EntriesOn l.table l.key l.kind l.entries.items l.at l.initial.self.free l.initial.self.words.items
    (drop l.entry-index l.entry-items) l.next l.self.free l.self.words.items

abbrev pub decreases-node : goal.decreases-node
decreases-node l = 8 * weight l.tree.now + 2

abbrev pub decreases-slots : goal.decreases-slots
decreases-slots l = 8 * weight l.tree.now + 1

abbrev pub decreases-field : goal.decreases-field
decreases-field l = 8 * weight l.tree.now

abbrev pub decreases-cases : goal.decreases-cases
decreases-cases l = 8 * weight l.tree.now + 1

abbrev pub decreases-case : goal.decreases-case
decreases-case l = 8 * weight l.tree.now

abbrev pub decreases-slot : goal.decreases-slot
decreases-slot l = 8 * content_weight (content_of l.content.now) + 2

abbrev pub decreases-elements : goal.decreases-elements
decreases-elements l = 8 * items_weight (items_of l.values.now.items) + 1

abbrev pub decreases-entries : goal.decreases-entries
decreases-entries l = 8 * pairs_weight (pairs_of l.entries.now.items) + 1

abbrev pub decreases-item : goal.decreases-item
decreases-item l = 8 * item_weight (item_of l.value.now)
