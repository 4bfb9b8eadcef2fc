use Rattle.std.proofs.Common.{refl, ◌∙◌}
use Rattle.receive_core.specs.ReceiverTraces.{after_piece, empty_trace}
use Rattle.link_handshake.proofs.Heard.{more-come, more-stayed, none-come, none-stayed}
use Rattle.link_handshake.proofs.receiving.receive_first.Goals as goal

pub loop-init : goal.loop-init
loop-init g c = record {
  come = none-come (g.L.Link.given c.args.link.now) c.args.arrivals.now c.requires.lived;
  stayed = none-stayed (g.L.Link.given c.args.link.now) (g.L.Link.failures c.args.link.now)
      (g.L.Link.ended c.args.link.now) c.args.arrivals.now c.requires.open;
  handed = refl;
  same_link = λ first h. h;
  buffer = refl;
}

pub loop-preserved : goal.loop-preserved
loop-preserved g c =
    let h = c.loop.invariant in record {
      come = more-come (g.L.Link.given c.args.link.now) (g.L.Link.given c.loop.link) (g.L.Link.given c.receive.new.link)
          c.loop.arrivals c.receive.new.self h.come
          (c.in_ok-receive.ensures.lived (after_piece empty_trace h.come.stream h.come.fault) h.come.lived);
      stayed = more-stayed (g.L.Link.given c.args.link.now) (g.L.Link.given c.loop.link)
          (g.L.Link.given c.receive.new.link) (g.L.Link.failures c.args.link.now) (g.L.Link.failures c.loop.link)
          (g.L.Link.failures c.receive.new.link) (g.L.Link.ended c.loop.link) (g.L.Link.ended c.receive.new.link)
          c.args.arrivals.now c.loop.arrivals c.receive.new.self h.stayed (c.has_first.ensures.not c.if-has_first.false)
          (record {
            same = c.receive.ensures.same;
            writer = c.receive.ensures.writer;
            lines = c.receive.ensures.lines;
            heap = c.receive.ensures.heap;
            cause = c.receive.ensures.cause;
            ends = c.receive.ensures.ends;
            silent = c.receive.ensures.silent;
          });
      handed = c.receive.ensures.handed ∙ h.handed;
      same_link = λ first since. c.receive.ensures.same_link first (h.same_link first since);
      buffer = c.receive.ensures.buffer ∙ h.buffer;
    }

pub returns-in_err-receive-clause-stayed : goal.returns-in_err-receive-clause-stayed
returns-in_err-receive-clause-stayed g c =
    more-stayed (g.L.Link.given c.args.link.now) (g.L.Link.given c.loop.link) (g.L.Link.given c.receive.new.link)
    (g.L.Link.failures c.args.link.now) (g.L.Link.failures c.loop.link) (g.L.Link.failures c.receive.new.link)
    (g.L.Link.ended c.loop.link) (g.L.Link.ended c.receive.new.link) c.args.arrivals.now c.loop.arrivals
    c.receive.new.self c.loop.invariant.stayed (c.has_first.ensures.not c.if-has_first.false) (record {
      same = c.receive.ensures.same;
      writer = c.receive.ensures.writer;
      lines = c.receive.ensures.lines;
      heap = c.receive.ensures.heap;
      cause = c.receive.ensures.cause;
      ends = c.receive.ensures.ends;
      silent = c.receive.ensures.silent;
    })
