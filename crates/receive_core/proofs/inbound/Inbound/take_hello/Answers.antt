use Rattle.std.proofs.Common.{rules}
use Rattle.frame_transport.specs.Feed.{IsNextFrame}
use Rattle.receive_core.proofs.Living.{Known, greets}
use Rattle.receive_core.proofs.inbound.Inbound.take_hello.Goals as goal

pub returns-clause-life : goal.returns-clause-life
returns-clause-life c T life lives no_hello none =
    let laws : Known = record {
      stays = c.split_is_unique.ensures.stays;
      once = c.split_is_unique.ensures.once;
      ends = c.split_is_unique.ensures.one_end;
      frame = c.frame_is_unique.ensures.once;
      places = c.frames_join.ensures.places;
      sizes = c.frames_join.ensures.size;
      splits = c.frames_join.ensures.splits;
    } in
    let gives : IsNextFrame c.args.self.now.fed c.take_first.result c.take_first.new.self.fed = search rules in
    greets laws T life c.args.self.now c.take_first.new.self c.take_first.result lives no_hello none gives (search rules) (search rules) (search rules)
