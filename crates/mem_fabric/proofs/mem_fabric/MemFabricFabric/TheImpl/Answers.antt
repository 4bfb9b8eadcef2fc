use Rattle.std.proofs.Common.{ap}
use Rattle.mem_fabric.proofs.mem_fabric.MemFabricFabric.TheImpl.Goals as goal

pub open_pair-tells : goal.open_pair-tells
open_pair-tells g link c = record {
  pair = c.ensures.pair;
  handed = c.ensures.handed;
  given = c.ensures.given;
  not_ended = c.ensures.not_ended;
  no_faults = c.ensures.no_faults;
  away = c.ensures.away;
  same_away = c.ensures.same_away;
  back = ap (λ f. f.back) c.ensures.same;
  cause = c.ensures.cause;
}

pub keep-tells : goal.keep-tells
keep-tells g link c = record {
  back = c.ensures.back;
  away = c.ensures.away;
  same_faults = ap (λ f. f.failures) c.ensures.same;
}
