use Rattle.std.proofs.Common.{◌∙◌, ap, sym, subst, List, length, rules, map}
use Rattle.std.proofs.lemmas.List.{map-id}
use Rattle.std.proofs.lemmas.Iterator.Adapters.{YieldsList-from_vec}
use Rattle.std.proofs.lemmas.Iterator.Consumers.{YieldsList-turn, YieldsList-so_far, YieldsList-end}
use Rattle.mrpc_table.specs.declared.tree.Value.{Value}
use Rattle.mrpc_table.specs.MapEntries.{last_of_each}
use Rattle.mrpc_table.specs.SortedEntries.{items_of_entry}
use Rattle.mrpc_table.proofs.MapKeeping.{AllUpTo, kept-more, kept-made, sorted-up}
use Rattle.mrpc_table.proofs.map_entries.last_of_sorted.Goals as goal

pub loop-entry-preserved : goal.loop-entry-preserved
loop-entry-preserved c =
    let ys = c.loop-entry.yielded in
    let e = YieldsList-from_vec {s = c.into_iter-entry-iterator.result} c.args.sorted.items (search rules) (search rules) in
    let so_far = YieldsList-so_far e ys c.loop-entry.entry-iterator c.loop-entry.yielded_by in
    let turn = YieldsList-turn e ys c.loop-entry.entry-iterator c.loop-entry.yielded_by c.next.result c.next.new.self c.in-Some.entry c.in-Some.is c.next.ensures.steps in
    let up = sorted-up c.args.key c.args.sorted.items c.requires (length ys) c.in-Some.entry turn.0 turn.1 in
    let M : List (Value × Value) → Type 0 = λ zs. AllUpTo c.args.key zs c.in-Some.entry in
    kept-more c.args.key ys c.loop-entry.kept.items c.add_entry.new.kept.items c.in-Some.entry c.loop-entry.invariant (subst M (sym so_far ∙ map-id ys) up) c.in_ok-add_entry.ensures

pub returns : goal.returns
returns c =
    let ys = c.loop-entry.yielded in
    let e = YieldsList-from_vec {s = c.into_iter-entry-iterator.result} c.args.sorted.items (search rules) (search rules) in
    let fin = YieldsList-end e ys c.loop-entry.entry-iterator c.loop-entry.yielded_by c.next.result c.next.new.self c.in-None.is c.next.ensures.steps in
    kept-made c.args.key ys c.loop-entry.kept.items c.loop-entry.invariant ∙ ap (λ zs. last_of_each c.args.key (map items_of_entry zs)) (sym (map-id ys) ∙ fin.0)
