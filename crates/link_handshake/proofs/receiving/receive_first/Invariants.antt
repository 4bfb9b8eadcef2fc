use Rattle.std.proofs.Common.{◌≡◌, length}
use Rattle.link_handshake.specs.Receiving.{HasReceivedSince, IsUnchangedByReceives}
use Rattle.link_handshake.proofs.receiving.receive_first.Given as goal

abbrev pub invariant-loop : goal.invariant-loop
invariant-loop g l = record {
  come : HasReceivedSince (g.L.Link.given l.fn.link) (g.L.Link.given l.link) l.arrivals;
  stayed : IsUnchangedByReceives (g.L.Link.given l.fn.link) (g.L.Link.given l.link) (g.L.Link.failures l.fn.link)
      (g.L.Link.failures l.link) (g.L.Link.ended l.link) l.fn.arrivals l.arrivals;
  handed : g.L.Link.handed l.link ≡ g.L.Link.handed l.fn.link;
  same_link : (first : _) → g.L.Link.since first l.fn.link → g.L.Link.since first l.link;
  buffer : length l.buffer ≡ length l.fn.buffer;
}
