use Rattle.std.proofs.Common.{◌∙◌, ap, sym, subst, List}
use Rattle.std.specs.Prelude.{reverse}
use Rattle.mrpc_table.specs.Node.{no_fields, field}
use Rattle.mrpc_table.specs.View.{node_of, content_of}
use Rattle.wire_decode.proofs.Views.{node_of-last}
use Rattle.wire_decode.specs.declared.oneof.LaterMembers.{LaterMembers}
use Rattle.wire_decode.specs.Merged.{join_fields}
use Rattle.wire_decode.specs.LaterMembers.{AreLaterMembers}
use Rattle.wire_decode.proofs.Reading.{join-none, join-pushed}
use Rattle.wire_decode.proofs.Oneofs.{tell-none, kept-more}
use Rattle.wire_decode.proofs.oneof.counted_from_end.Goals as goal

pub loop-part-init : goal.loop-part-init
loop-part-init c =
    let P : List LaterMembers → Type 0 = λ bs. AreLaterMembers c.args.fields.now bs no_fields in (
      no_fields,
      sym (join-none (node_of c.args.raw.items)),
      ap (λ xs. node_of (reverse xs)) c.in_ok-kept.ensures.items,
      subst P (sym c.new-behind.ensures.items) (tell-none c.args.fields.now),
    )

pub loop-part-preserved : goal.loop-part-preserved
loop-part-preserved c =
    let inv = c.loop-part.invariant in
    let x = c.in-Some.part in
    let left = c.pop.new.self.items in
    let done = inv.0 in
    let left_is = ap node_of c.in-Some.ensures.items ∙ node_of-last left x in (
      field x.0 (content_of x.1) done,
      inv.1 ∙ ap (λ t. join_fields t done) left_is ∙ join-pushed (node_of left) x.0 (content_of x.1) done,
      kept-more c.args.fields.now c.loop-part.kept.items c.keep_if.new.kept.items c.in_ok-counts.counts x done c.in_ok-keep_if.ensures (c.in_ok-counts.ensures.counts done inv.3) inv.2,
      c.in_ok-counts.ensures.tells done (content_of x.1) inv.3,
    )
