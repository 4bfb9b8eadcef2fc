use Rattle.link_handshake.proofs.Heard.{none-cut, none-ended}
use Rattle.link_handshake.proofs.receiving.without_frame.Goals as goal

pub returns-in-Ended : goal.returns-in-Ended
returns-in-Ended c service stream fault h = (
  tt,
  none-ended service stream fault c.args.arrivals.now c.trace_of_receiver.ensures.each h c.requires.partial c.in-Ended.is,
)

pub returns-in-Some : goal.returns-in-Some
returns-in-Some c service stream fault h =
    none-cut service stream fault c.args.arrivals.now c.in-Some.fault c.trace_of_receiver.ensures.each h
    c.requires.partial c.in-Some.is
