use Rattle.std.proofs.Common.{rules}
use Rattle.std.proofs.lemmas.List.Sorted.{answers_always}
use Rattle.qos_order.proofs.Keyed.{search_tells}
use Rattle.qos_order.proofs.weights.has_conn.Goals as goal

pub returns : goal.returns
returns c =
    let by_number = c.binary_search_by_key.ensures.position (λ w. w.conn) (answers_always _ _ _ (λ f a r g called. search rules)) in
    rw c.is_ok.ensures.value (search_tells (λ w. w.conn) c.args.entries.now c.args.conn c.binary_search_by_key.result c.requires c.binary_search_by_key.ensures.bound by_number)
