use Rattle.std.proofs.Common.{rules, sym}
use Rattle.std.proofs.lemmas.List.Sorted.{answers_always}
use Rattle.qos_order.proofs.Keyed.{find-missed, find-place}
use Rattle.qos_order.proofs.wheel_entries.index_of_entry.Goals as goal

pub returns-in-Ok-clause-seat : goal.returns-in-Ok-clause-seat
returns-in-Ok-clause-seat c =
    let by_number = c.in-Ok.ensures.position (λ s. s.conn) (answers_always _ _ _ (λ f a r g called. search rules)) in
    find-place (λ s. s.conn) c.args.seats.now c.args.conn c.in-Ok.place c.requires.once c.in-Ok.ensures.bound by_number

pub returns-in-Err-clause-seat : goal.returns-in-Err-clause-seat
returns-in-Err-clause-seat c =
    let by_number = c.in-Err.ensures.position (λ s. s.conn) (answers_always _ _ _ (λ f a r g called. search rules)) in
    sym (find-missed (λ s. s.conn) c.args.seats.now c.args.conn c.in-Err.field-0 c.requires.ascends by_number)
