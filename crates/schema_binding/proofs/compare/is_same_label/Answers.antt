use Rattle.std.proofs.Common.{[], ◌<◌, length, sym, ◌∙◌}
use Rattle.std.specs.Prelude.{slice_get, unwrap_or}
use Rattle.schema_binding.proofs.Compared.{equal_texts, named_oneof, same_oneofs}
use Rattle.schema_binding.proofs.compare.is_same_label.Goals as goal

pub returns-in-Member-their : goal.returns-in-Member-their
returns-in-Member-their c =
    let os = c.args.our_oneofs.now in
    let ps = c.args.their_oneofs.now in
    let o = c.in-Member.left in
    let p = c.in-Member-their.right in
    let ours : o < length os = rw c.in-Member.is at c.requires.our in
    let theirs : p < length ps = rw c.in-Member-their.is at c.requires.their in
    rw (c.in-Member.is, c.in-Member-their.is)
    (same_oneofs c.args.ours.now c.args.theirs.now os ps o p c.eq.result
    (equal_texts c.as_slice-in-Member-their.result.now c.as_slice-in-Member-their-3.result.now (unwrap_or (slice_get os o) []) (unwrap_or (slice_get ps p) []) c.eq.result
    (named_oneof os o c.index-as_slice-left.result c.as_slice.result.now c.as_slice.ensures ours c.index-as_slice-left.is ∙ sym c.as_slice-in-Member-their.ensures)
    (named_oneof ps p c.index-as_slice-right.result c.as_slice-in-Member-their-2.result.now
    c.as_slice-in-Member-their-2.ensures theirs c.index-as_slice-right.is
    ∙ sym c.as_slice-in-Member-their-3.ensures)
    c.eq.ensures))
