use Rattle.std.proofs.Common.{get_or, arith}
use Rattle.engine_core.specs.Engines.{clocked}
use Rattle.engine_core.proofs.Clocks.{changed-one-more, clocked-is, others-one-more}
use Rattle.engine_core.proofs.engines.clock_all.Goals as goal

pub loop-engine-preserved : goal.loop-engine-preserved
loop-engine-preserved c = record {
  changed = changed-one-more (λ e. clocked c.args.now e) c.loop-engine.engines c.args.engines.now c.loop-engine.engine-index c.engine-item.result c.clock.new.self
      (omega arith) (omega arith) c.loop-engine.invariant.changed c.loop-engine.invariant.others
      (clocked-is c.args.now (get_or c.loop-engine.engines c.loop-engine.engine-index c.engine-item.result) c.clock.new.self
      c.clock.ensures.entry c.clock.ensures.level c.clock.ensures.last);
  others = others-one-more c.loop-engine.engines c.args.engines.now c.loop-engine.engine-index c.clock.new.self c.loop-engine.invariant.others;
}
