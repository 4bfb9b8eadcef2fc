use Rattle.std.proofs.Common.{refl}
use Rattle.receive_core.specs.ReceiverTraces.{after_piece, empty_trace}
use Rattle.link_handshake.specs.Handshake.{other_frame}
use Rattle.link_handshake.proofs.Heard.{first-begins, greeted-lived, hello-begins, told-so}
use Rattle.link_handshake.proofs.receiving.take_first.Goals as goal

pub returns-in_default-clause-unbound : goal.returns-in_default-clause-unbound
returns-in_default-clause-unbound c stream fault h =
    let a = c.args.arrivals.now in
    let first = c.requires.first in (
      tt,
      other_frame first.0
          (first-begins a.table.now stream fault a.inbound first.0 c.frame_is_unique.ensures.once h.lives first.1)
          (c.in_default.ensures.none first.0 first.1) refl,
    )

pub returns-clause-bound : goal.returns-clause-bound
returns-clause-bound c stream fault h is =
    let a = c.args.arrivals.now in
    let lives = c.in-Some.ensures.life a.table.now (after_piece empty_trace stream fault) h.lives refl refl in (
      c.in-Some.hello,
      c.read_hello.ensures.bound is stream fault
          (hello-begins a.table.now stream fault c.take_hello.new.self c.in-Some.hello lives),
      greeted-lived stream fault a _ c.in-Some.hello h lives refl c.in-Some.ensures.heap refl refl refl refl refl,
    )

pub returns-clause-unbound : goal.returns-clause-unbound
returns-clause-unbound c stream fault h =
    let a = c.args.arrivals.now in
    let lives = c.in-Some.ensures.life a.table.now (after_piece empty_trace stream fault) h.lives refl refl in
    told-so _ _ c.read_hello.result (λ why p. (
      p.0,
      p.1 stream fault a.stream
          (hello-begins a.table.now stream fault c.take_hello.new.self c.in-Some.hello lives),
    ))
    c.read_hello.ensures.unbound
