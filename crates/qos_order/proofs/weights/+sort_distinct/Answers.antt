use Rattle.std.proofs.Common.{length, ◌/◌, sym, arith, rules}
use Rattle.std.proofs.lemmas.List.Sorted.{IsNonDecreasingBy-from_sort_by_key}
use Rattle.qos_order.proofs.Halves.{fault_of_first, halved, ranged_behind, same_entries, sound-short, twice_in_back, twice_met, whole_sound}
use Rattle.qos_order.proofs.weights.+sort_distinct.Goals as goal

pub returns-then-half-eq0-clause-sound : goal.returns-then-half-eq0-clause-sound
returns-then-half-eq0-clause-sound t c = sound-short c.args.entries.now (omega arith) c.requires

pub returns-in-Some-clause-twice : goal.returns-in-Some-clause-twice
returns-in-Some-clause-twice t c = fault_of_first c.args.entries.now (length c.args.entries.now / 2) _ c.in-Some.ensures.twice

pub sort_distinct-requires-2 : goal.sort_distinct-requires-2
sort_distinct-requires-2 t c =
    let state = halved c.args.entries.now c.sort_distinct.new.entries c.split_at_mut-front.result.0.now c.split_at_mut-front.result.1.now (length c.args.entries.now / 2) (omega arith)
    c.in_default.ensures.sound c.in_default.ensures.same c.split_at_mut-front.ensures.front c.split_at_mut-front.ensures.back in
    (search rules, ranged_behind c.args.entries.now c.split_at_mut-front.result.0.now c.split_at_mut-front.result.1.now c.disjoint_prefix_len-apart.result state c.requires)

pub returns-in-Some-sort_distinct-clause-twice : goal.returns-in-Some-sort_distinct-clause-twice
returns-in-Some-sort_distinct-clause-twice t c =
    let state = halved c.args.entries.now c.sort_distinct.new.entries c.split_at_mut-front.result.0.now c.split_at_mut-front.result.1.now (length c.args.entries.now / 2) (omega arith)
    c.in_default.ensures.sound c.in_default.ensures.same c.split_at_mut-front.ensures.front c.split_at_mut-front.ensures.back in
    twice_in_back c.args.entries.now c.split_at_mut-front.result.0.now c.split_at_mut-front.result.1.now
    c.disjoint_prefix_len-apart.result _ state (record { apart = c.disjoint_prefix_len-apart.ensures.apart })
    c.in-Some-sort_distinct.ensures.twice

pub returns-then-is_some-clause-twice : goal.returns-then-is_some-clause-twice
returns-then-is_some-clause-twice t c =
    let state = halved c.args.entries.now c.sort_distinct.new.entries c.split_at_mut-front.result.0.now c.split_at_mut-front.result.1.now (length c.args.entries.now / 2) (omega arith)
    c.in_default.ensures.sound c.in_default.ensures.same c.split_at_mut-front.ensures.front c.split_at_mut-front.ensures.back in
    rw c.conn_at-met.ensures
    (twice_met c.args.entries.now c.split_at_mut-front.result.0.now c.split_at_mut-front.result.1.now
    c.disjoint_prefix_len-apart.result state c.requires (record { apart = c.disjoint_prefix_len-apart.ensures.apart })
    c.in_default-sort_distinct.ensures.sound c.disjoint_prefix_len-apart.ensures.next)

pub returns-clause-sound : goal.returns-clause-sound
returns-clause-sound t c =
    let state = halved c.args.entries.now c.sort_distinct.new.entries c.split_at_mut-front.result.0.now c.split_at_mut-front.result.1.now (length c.args.entries.now / 2) (omega arith)
    c.in_default.ensures.sound c.in_default.ensures.same c.split_at_mut-front.ensures.front c.split_at_mut-front.ensures.back in
    whole_sound c.args.entries.now c.split_at_mut-front.result.0.now c.split_at_mut-front.result.1.now c.disjoint_prefix_len-apart.result state (record { apart = c.disjoint_prefix_len-apart.ensures.apart })
    c.in_default-sort_distinct.ensures.sound (rw c.conn_at-met.ensures at (sym c.if-is_some.ensures))

pub returns-clause-same : goal.returns-clause-same
returns-clause-same t c =
    let state = halved c.args.entries.now c.sort_distinct.new.entries c.split_at_mut-front.result.0.now c.split_at_mut-front.result.1.now (length c.args.entries.now / 2) (omega arith)
    c.in_default.ensures.sound c.in_default.ensures.same c.split_at_mut-front.ensures.front c.split_at_mut-front.ensures.back in
    same_entries c.args.entries.now c.split_at_mut-front.result.0.now c.split_at_mut-front.result.1.now
    c.sort_distinct-2.new.entries c.sort_unstable_by_key.new.self c.disjoint_prefix_len-apart.result state
    c.in_default-sort_distinct.ensures.same c.sort_unstable_by_key.ensures.permutation

pub returns-clause-ascends : goal.returns-clause-ascends
returns-clause-ascends t c = IsNonDecreasingBy-from_sort_by_key (λ w. w.conn) _ c.sort_unstable_by_key.ensures.sorted (λ a r q k. search rules)
