use Rattle.std.proofs.Common.{◌∙◌, ap, sym, rules}
use Rattle.std.proofs.lemmas.List.Sorted.{sorted_far}
use Rattle.std.proofs.lemmas.Fn.{always_returns_same}
use Rattle.std.proofs.lemmas.List.MinMax.{ranks_by}
use Rattle.std.proofs.lemmas.Cmp.{nat_list_cmp_total}
use Rattle.std.proofs.lemmas.Result.{IfOk-weaker}
use Rattle.mrpc_table.specs.View.{pairs_of}
use Rattle.mrpc_table.specs.SortedEntries.{entry_code}
use Rattle.mrpc_table.proofs.MapKeeping.{below, stable-made, made-pairs}
use Rattle.mrpc_table.proofs.MapRising.{rise-kept}
use Rattle.mrpc_table.proofs.map_entries.last_of_each.Goals as goal

pub last_of_sorted-requires : goal.last_of_sorted-requires
last_of_sorted-requires c =
    let k = c.args.key in
    let order = ranks_by nat_list_cmp_total (entry_code k) in
    sorted_far (below k) order c.sort_by.new.self.items (c.in_ok-sort_by.ensures.sorted (below k) order (always_returns_same _ _ _ (λ a r q called. search rules)))

pub returns : goal.returns
returns c =
    let k = c.args.key in
    let es = c.args.entries.items in
    let sorted = c.sort_by.new.self.items in
    let order = ranks_by nat_list_cmp_total (entry_code k) in
    let stable = c.in_ok-sort_by.ensures.stable (below k) order (always_returns_same _ _ _ (λ a r q called. search rules)) in
    IfOk-weaker c.last_of_sorted.result _ _ (λ ps h. h ∙ sym (made-pairs k sorted) ∙ ap pairs_of (stable-made k es sorted stable) ∙ made-pairs k es) c.last_of_sorted.ensures

pub returns-then-ascends : goal.returns-then-ascends
returns-then-ascends c = rise-kept c.args.key c.args.entries.items (c.ascends.ensures c.if-ascends.true)
