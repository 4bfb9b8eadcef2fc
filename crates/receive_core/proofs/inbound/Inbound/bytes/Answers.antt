use Rattle.std.proofs.Common.{◌≡◌, Some, sym, ap, subst, arith, rules}
use Rattle.frame_transport.specs.Feed.{total_fed}
use Rattle.receive_core.specs.Turns.{ReceiverState, IsReady}
use Rattle.frame_transport.specs.Frames.{HasFaultSoFar}
use Rattle.receive_core.proofs.Firsts.{fed_first, fed_total, stays_ready}
use Rattle.receive_core.proofs.Living.{Known, piece_life, fault_life}
use Rattle.receive_core.proofs.inbound.Inbound.bytes.Goals as goal

pub returns-clause-ready : goal.returns-clause-ready
returns-clause-ready c T ready =
    let before = subst (λ (r : ReceiverState). IsReady T r) (sym c.self.view_is) ready in
    stays_ready T c.self.inside.conn c.self.inside.feed c.feed.new.self c.self.inside.opened
    (fed_first c.split_is_unique.ensures.stays c.frame_is_unique.ensures.once c.self.inside.feed c.args.piece.now c.feed.new.self
    c.feed.result c.feed.ensures.ok c.feed.ensures.stops c.feed.ensures.memory)
    before

pub returns-clause-total : goal.returns-clause-total
returns-clause-total c =
    let before : total_fed c.self.inside.feed ≡ total_fed c.args.self.now.fed = ap (λ (r : ReceiverState). total_fed r.fed) c.self.view_is in
    let fed = fed_total c.self.inside.feed c.args.piece.now c.feed.new.self c.feed.result c.feed.ensures.ok c.feed.ensures.stops c.feed.ensures.memory in
    omega (arith, before, fed)

pub returns-clause-life : goal.returns-clause-life
returns-clause-life c T life lives =
    let laws : Known = record {
      stays = c.split_is_unique.ensures.stays;
      once = c.split_is_unique.ensures.once;
      ends = c.split_is_unique.ensures.one_end;
      frame = c.frame_is_unique.ensures.once;
      places = c.frames_join.ensures.places;
      sizes = c.frames_join.ensures.size;
      splits = c.frames_join.ensures.splits;
    } in
    piece_life laws T life c.args.self.now _ c.args.piece.now c.feed.result lives
    (λ i. omega (arith, c.type_inv.piece i)) (search rules) (search rules) (search rules) (search rules)
    (returns-clause-ready c T lives.ready)

pub returns-clause-life_at_fault : goal.returns-clause-life_at_fault
returns-clause-life_at_fault c T life lives =
    let laws : Known = record {
      stays = c.split_is_unique.ensures.stays;
      once = c.split_is_unique.ensures.once;
      ends = c.split_is_unique.ensures.one_end;
      frame = c.frame_is_unique.ensures.once;
      places = c.frames_join.ensures.places;
      sizes = c.frames_join.ensures.size;
      splits = c.frames_join.ensures.splits;
    } in
    fault_life laws T life c.args.self.now _ c.args.piece.now c.feed.result lives
    (λ i. omega (arith, c.type_inv.piece i)) (search rules) (search rules) (search rules)
    (returns-clause-ready c T lives.ready)

pub returns-clause-again : goal.returns-clause-again
returns-clause-again c fault ends = c.feed.ensures.again fault (subst (λ (r : ReceiverState). HasFaultSoFar r.fed.place r.fed.bytes (Some fault)) (sym c.self.view_is) ends)
