use Rattle.std.specs.Option.{option_copied}
use Rattle.receive_core.proofs.Living.{Known, ok_adds, err_stays, few_stores}
use Rattle.receive_core.proofs.inbound.Inbound.turn.Goals as goal

pub returns-clause-life : goal.returns-clause-life
returns-clause-life g c life lives =
    let known : Known = record {
      stays = c.split_is_unique.ensures.stays;
      once = c.split_is_unique.ensures.once;
      ends = c.split_is_unique.ensures.one_end;
      frame = c.frame_is_unique.ensures.once;
      places = c.frames_join.ensures.places;
      sizes = c.frames_join.ensures.size;
      splits = c.frames_join.ensures.splits;
    } in
    ok_adds known c.args.table.now (option_copied c.args.policy) life c.args.self.now c.answer-arrival.new.self _ _ c.answer-arrival.result lives c.answer-arrival.ensures.conn
    c.answer-arrival.ensures.places c.partition.ensures c.answer-arrival.ensures.ready c.answer-arrival.ensures.turns

pub returns-clause-few_stores : goal.returns-clause-few_stores
returns-clause-few_stores g c =
    few_stores c.args.table.now (option_copied c.args.policy) c.args.self.now c.answer-arrival.new.self _ _
    c.answer-arrival.result c.answer-arrival.ensures.turns c.answer-arrival.ensures.no_store

pub returns-clause-life_stays : goal.returns-clause-life_stays
returns-clause-life_stays g c life lives =
    err_stays c.args.table.now life c.args.self.now c.answer-arrival.new.self c.answer-arrival.result lives c.answer-arrival.ensures.ready c.answer-arrival.ensures.memory
