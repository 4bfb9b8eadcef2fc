use Rattle.std.proofs.Common.{rules, ◌+◌, ◌-◌, take, drop, ap, sym, ◌∙◌, arith}
use Rattle.std.proofs.lemmas.List.{with_items_is, places}
use borrow.Rule.Slice.PartMut.{put_mid}
use Rattle.tcp_fabric.proofs.Windows.{window-grown}
use Rattle.tcp_fabric.proofs.read_ahead.ReadAhead.read_from.Goals as goal

pub returns-in-Bytes-clause-came : goal.returns-in-Bytes-clause-came
returns-in-Bytes-clause-came g c =
    let e = c.in-Bytes.ensures in
    let b = c.self.inside in
    let n = c.in-Bytes.count in
    let all = c.deref_mut.result.now in
    let got = c.read-came.new.buf in
    let after = put_mid b.end (b.end + 65536 - b.end) all got in (
      take n got,
      e.appended,
      window-grown c.args.self.now b.room.items all got _ b.start b.end n (c.self.view_is ∙ c.make_room.ensures)
          c.deref_mut.ensures.value c.self.invariant.0 c.self.invariant.1
          (omega (arith, e.count, c.read-came.auto.buf))
          ∙ ap (λ items. drop b.start (take (b.end + n) items)) (sym (with_items_is b.room after (search (rules, places)))),
    )
