use Rattle.std.proofs.Common.{◌∙◌, ap, arith}
use Rattle.mrpc_table.specs.View.{items_of, pairs_of, node_of}
use Rattle.mrpc_table.specs.Weight.{weight, items_weight, pairs_weight}
use Rattle.wire_decode.proofs.Weights.{fields-last, values-last, entries-last}
use Rattle.wire_decode.proofs.tree_pool.TreePool.+recycle.Goals as goal

pub recycle-recycle_content-requires : goal.recycle-recycle_content-requires
recycle-recycle_content-requires t c =
    let whole = ap (λ xs. weight (node_of xs)) c.in-Some.ensures.items ∙ fields-last c.pop.new.self.items (c.in-Some.field-0-0, c.in-Some.content) in
    (omega (arith, c.loop-content.invariant, whole), tt)

pub recycle-loop-content-preserved : goal.recycle-loop-content-preserved
recycle-loop-content-preserved t c =
    let whole = ap (λ xs. weight (node_of xs)) c.in-Some.ensures.items ∙ fields-last c.pop.new.self.items (c.in-Some.field-0-0, c.in-Some.content) in
    omega (arith, c.loop-content.invariant, whole)

pub recycle_entries-recycle_value-requires : goal.recycle_entries-recycle_value-requires
recycle_entries-recycle_value-requires t c =
    let whole = ap (λ xs. pairs_weight (pairs_of xs)) c.in-Some.ensures.items ∙ entries-last c.pop.new.self.items (c.in-Some.key, c.in-Some.value) in
    (omega (arith, c.loop-key.invariant, whole), tt)

pub recycle_entries-recycle_value-requires-in-Some : goal.recycle_entries-recycle_value-requires-in-Some
recycle_entries-recycle_value-requires-in-Some t c =
    let whole = ap (λ xs. pairs_weight (pairs_of xs)) c.in-Some.ensures.items ∙ entries-last c.pop.new.self.items (c.in-Some.key, c.in-Some.value) in
    (omega (arith, c.loop-key.invariant, whole), tt)

pub recycle_entries-loop-key-preserved : goal.recycle_entries-loop-key-preserved
recycle_entries-loop-key-preserved t c =
    let whole = ap (λ xs. pairs_weight (pairs_of xs)) c.in-Some.ensures.items ∙ entries-last c.pop.new.self.items (c.in-Some.key, c.in-Some.value) in
    omega (arith, c.loop-key.invariant, whole)

pub recycle_list-recycle_value-requires : goal.recycle_list-recycle_value-requires
recycle_list-recycle_value-requires t c =
    let whole = ap (λ xs. items_weight (items_of xs)) c.in-Some.ensures.items ∙ values-last c.pop.new.self.items c.in-Some.value in
    (omega (arith, c.loop-value.invariant, whole), tt)

pub recycle_list-loop-value-preserved : goal.recycle_list-loop-value-preserved
recycle_list-loop-value-preserved t c =
    let whole = ap (λ xs. items_weight (items_of xs)) c.in-Some.ensures.items ∙ values-last c.pop.new.self.items c.in-Some.value in
    omega (arith, c.loop-value.invariant, whole)
