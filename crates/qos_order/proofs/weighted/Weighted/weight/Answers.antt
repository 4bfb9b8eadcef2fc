use Rattle.std.proofs.Common.{ap, sym, unwrap_or, option_map, rules}
use Rattle.std.proofs.lemmas.List.Sorted.{answers_always}
use Rattle.qos_order.proofs.Keyed.{find-searched, find-missed}
use Rattle.qos_order.proofs.weighted.Weighted.weight.Goals as goal

pub returns-in-Ok-clause-value : goal.returns-in-Ok-clause-value
returns-in-Ok-clause-value c =
    let by_number = c.in-Ok.ensures.position (λ w. w.conn) (answers_always _ _ _ (λ f a r g called. search rules)) in
    let found = find-searched (λ w. w.conn) c.self.inside.weights.items c.args.conn c.in-Ok.place c.index.result.now
    c.self.invariant.sound.once (search rules) (rw c.deref.ensures.value at by_number) c.index.ensures in
    rw (← c.self.view_is) (sym (ap (λ o. unwrap_or (option_map (λ w. w.weight) o) 1) found))

pub returns-in-Err-clause-value : goal.returns-in-Err-clause-value
returns-in-Err-clause-value c =
    let by_number = c.in-Err.ensures.position (λ w. w.conn) (answers_always _ _ _ (λ f a r g called. search rules)) in
    let missed = find-missed (λ w. w.conn) c.deref.result.now c.args.conn c.in-Err.field-0 (search rules) by_number in
    rw (← c.self.view_is, ← c.deref.ensures.value) (sym (ap (λ o. unwrap_or (option_map (λ w. w.weight) o) 1) missed))
