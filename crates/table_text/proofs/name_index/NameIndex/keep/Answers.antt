use Rattle.std.proofs.Common.{◌≡◌, sym, ◌∙◌, ap, cond, Some, None, List, ℕ}
use Rattle.std.specs.Str.{bytes_eq}
use Rattle.table_text.specs.NameIndex.{index_in}
use Rattle.table_text.proofs.PlaceLemmas.{found_in, found_inserted, kept, same_bytes, none_is}
use Rattle.table_text.proofs.name_index.NameIndex.keep.Goals as goal

pub returns-clause-places : goal.returns-clause-places
returns-clause-places c q =
    let absent : index_in c.args.self.now c.args.name.now ≡ None = sym c.found.ensures ∙ none_is c.found.result c.if-is_some.ensures in
    let entered = found_inserted q c.args.self.now.places.entries c.in_ok-from_slice.field-0 c.args.self.now.count in
    kept (index_in c.args.self.now q) _ (bytes_eq q c.args.name.now) c.args.self.now.count (index_in c.args.self.now c.args.name.now) absent
    (λ same. ap (index_in c.args.self.now) (same_bytes q c.args.name.now same))
    (ap (found_in q) c.in_ok-insert.ensures.entries ∙ entered
    ∙ ap (λ (bs : List ℕ). cond (bytes_eq q bs) (Some c.args.self.now.count) (index_in c.args.self.now q))
    c.in_ok-from_slice.ensures.items)
