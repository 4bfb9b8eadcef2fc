use Rattle.service.proofs.Hellos.{on-ok-map}
use Rattle.service.proofs.handshake.make_handshake.Goals as goal

pub finish_handshake-requires-clause-introduced : goal.finish_handshake-requires-clause-introduced
finish_handshake-requires-clause-introduced g c = (record { conn = c.args.pair.now.a; link = c.args.a }, c.in_ok-one.ensures)

pub finish_handshake-requires-2-clause-introduced : goal.finish_handshake-requires-2-clause-introduced
finish_handshake-requires-2-clause-introduced g c = (record { conn = c.args.pair.now.b; link = c.args.b }, c.in_ok-other.ensures)

pub returns : goal.returns
returns g c = on-ok-map _ _ c.push_pair.result (λ added. record {
  first = c.in_ok-first.first;
  second = c.in_ok-second.second;
  added = added;
  a_is_end = c.in_ok-first.ensures (record { conn = c.args.pair.now.a; link = c.args.a }) c.in_ok-one.ensures;
  b_is_end = c.in_ok-second.ensures (record { conn = c.args.pair.now.b; link = c.args.b }) c.in_ok-other.ensures;
}) c.push_pair.ensures
