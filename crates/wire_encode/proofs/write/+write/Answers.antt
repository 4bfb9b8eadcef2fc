use Rattle.std.proofs.Common.{◌-◌, ◌<◌, ◌∙◌, ap, sym, length, arith}
use Rattle.mrpc_table.specs.Weight.{weight}
use Rattle.wire_base.specs.Encoding.{fields_bytes}
use Rattle.wire_encode.proofs.Parts.{field_part, element_part, record_part, entry_part, fields_bytes-parts, joined_bytes-parts, records_bytes-parts, entries_bytes-parts}
use Rattle.wire_encode.proofs.Weights.{field_weight, element_weight, entry_weight}
use Rattle.wire_encode.proofs.Fronts.{front_all}
use Rattle.wire_encode.proofs.write.+write.Goals as goal

pub write_joined-write_value-requires : goal.write_joined-write_value-requires
write_joined-write_value-requires t c =
    let xs = c.args.values.now.items in
    let i = c.loop-place.place - 1 in
    let here : i < length xs = omega arith in
    let below = element_weight xs i c.index-value.result.now here c.index-value.ensures in
    (omega (arith, below, c.decreases), c.requires)

pub write_joined-returns : goal.write_joined-returns
write_joined-returns t c =
    let xs = c.args.values.now.items in
    front_all (element_part c.args.table.now c.args.kind) xs c.loop-place.place _ _ _ (omega arith) (sym (joined_bytes-parts c.args.table.now c.args.kind xs)) c.loop-place.invariant

pub write_records-write_record-requires : goal.write_records-write_record-requires
write_records-write_record-requires t c =
    let xs = c.args.values.now.items in
    let i = c.loop-place.place - 1 in
    let here : i < length xs = omega arith in
    let below = element_weight xs i c.index-value.result.now here c.index-value.ensures in
    (omega (arith, below, c.decreases), c.requires)

pub write_records-returns : goal.write_records-returns
write_records-returns t c =
    let xs = c.args.values.now.items in
    front_all (record_part c.args.table.now c.args.number c.args.kind) xs c.loop-place.place _ _ _ (omega arith)
    (sym (records_bytes-parts c.args.table.now c.args.number c.args.kind xs)) c.loop-place.invariant

pub write_entries-write_entry-requires : goal.write_entries-write_entry-requires
write_entries-write_entry-requires t c =
    let xs = c.args.entries.now.items in
    let i = c.loop-place.place - 1 in
    let here : i < length xs = omega arith in
    let below = entry_weight xs i c.index-entry.result.now here c.index-entry.ensures in
    (omega (arith, below, c.decreases), c.requires)

pub write_entries-returns : goal.write_entries-returns
write_entries-returns t c =
    let xs = c.args.entries.now.items in
    front_all (entry_part c.args.table.now c.args.number c.args.key c.args.kind) xs c.loop-place.place _ _ _
    (omega arith) (sym (entries_bytes-parts c.args.table.now c.args.number c.args.key c.args.kind xs))
    c.loop-place.invariant

pub write_message-write_field-requires : goal.write_message-write_field-requires
write_message-write_field-requires t c =
    let xs = c.tree.inside.fields.items in
    let i = c.loop-place.place - 1 in
    let here : i < length xs = omega arith in
    let below = field_weight xs i c.index-field.result.now here c.index-field.ensures in
    let heavy = ap weight c.tree.view_is in
    (omega (arith, below, heavy, c.decreases), c.requires.all)

pub write_message-returns : goal.write_message-returns
write_message-returns t c =
    let xs = c.tree.inside.fields.items in
    let T = c.args.table.now in
    let fs = c.args.fields.now in
    front_all (field_part T fs) xs c.loop-place.place (fields_bytes T fs c.args.tree.now) _ _ (omega arith)
    (sym (fields_bytes-parts T fs xs) ∙ ap (fields_bytes T fs) c.tree.view_is) c.loop-place.invariant
