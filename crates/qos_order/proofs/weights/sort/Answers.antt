use Rattle.std.proofs.Common.{sym, ◌∙◌}
use Rattle.std.proofs.lemmas.List.{append-nil}
use Rattle.qos_order.proofs.Halves.{all_sound, fault_of_first, first_moved, none_dropped, range_behind}
use Rattle.qos_order.proofs.weights.sort.Goals as goal

pub returns-in-Some-clause-fault : goal.returns-in-Some-clause-fault
returns-in-Some-clause-fault c = fault_of_first c.args.entries.now c.valid_prefix_len-ranged.result _ c.in-Some.ensures.twice

pub returns-in-Some-outside-clause-fault : goal.returns-in-Some-outside-clause-fault
returns-in-Some-outside-clause-fault c =
    let there = sym c.conn_at-outside.ensures ∙ c.in-Some-outside.is in
    rw there at (range_behind c.args.entries.now c.valid_prefix_len-ranged.result c.in_default.ensures.sound c.valid_prefix_len-ranged.ensures.next)

pub returns-in-None-clause-sound : goal.returns-in-None-clause-sound
returns-in-None-clause-sound c = all_sound c.args.entries.now c.valid_prefix_len-ranged.result c.in_default.ensures.sound (sym c.conn_at-outside.ensures ∙ c.in-None.is)

pub returns-in-None-clause-same : goal.returns-in-None-clause-same
returns-in-None-clause-same c = first_moved c.args.entries.now c.sort_distinct.new.entries c.valid_prefix_len-ranged.result c.in_default.ensures.same

pub returns-in-None-clause-ascends : goal.returns-in-None-clause-ascends
returns-in-None-clause-ascends c =
    rw (none_dropped c.args.entries.now c.valid_prefix_len-ranged.result (sym c.conn_at-outside.ensures ∙ c.in-None.is), append-nil) c.in_default.ensures.ascends
