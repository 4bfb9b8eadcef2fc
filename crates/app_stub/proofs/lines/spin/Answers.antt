use Rattle.std.proofs.Common.{ℕ, arith, ap, length, length-append}
use Rattle.app_stub.proofs.Listing.{spun_more}
use Rattle.app_stub.proofs.lines.spin.Goals as goal

pub loop-preserved : goal.loop-preserved
loop-preserved c =
    let more = spun_more c.args.writer.now.stores c.loop.counter (c.args.place, c.args.first) (c.args.place, c.args.second) in (
      (cc),
      (cc),
      omega (arith, ap length c.store.ensures.stored, ap length c.store-in-loop.ensures.stored, length-append {A = ℕ × ℕ}),
    )
