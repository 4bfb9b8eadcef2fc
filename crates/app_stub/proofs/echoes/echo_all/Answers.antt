use Rattle.std.proofs.Common.{ap, sym, refl, map, length, arith, ◌∙◌}
use Rattle.app_stub.specs.EchoStates.{echo_of}
use Rattle.app_stub.specs.Serving.{submission_of}
use Rattle.app_stub.proofs.Echoings.{nothing_echoed}
use Rattle.app_stub.proofs.echoes.echo_all.Goals as goal

pub loop-init : goal.loop-init
loop-init g c =
    let new = c.requires.new in (
      refl,
      refl,
      refl,
      refl,
      refl,
      refl,
      refl,
      refl,
      new.desk_is,
      record { behind = omega (arith, ap length new.numbers); all = λ open_. omega (arith, ap length new.taken) },
      omega (arith, ap length new.taken),
      omega (arith, ap length new.sent),
      new.reclaimed ∙ sym new.numbers,
      nothing_echoed (echo_of c.args.table.now c.args.desk.now) c.args.delivery.now.notices.taken
          c.args.desk.now.writer.stores (map submission_of c.args.outgoing.now.sender.sent) c.args.desk.now.reader
          new.taken new.stored (ap (map submission_of) new.sent) new.loaded
          (c.calls_are_fresh.ensures.none c.args.desk.now.reader.known),
    )
