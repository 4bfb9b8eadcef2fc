-- the engines so far have the timestamp, and the others are unchanged
use Rattle.std.proofs.Common.{◌≡◌, take, drop, map}
use Rattle.engine_core.specs.Engines.{clocked}
use Rattle.engine_core.proofs.engines.clock_all.Given as goal

abbrev pub invariant-loop-engine : goal.invariant-loop-engine
invariant-loop-engine l = record {
  changed : take l.engine-index l.engines ≡ map (λ e. clocked l.now e) (take l.engine-index l.initial.engines);
  others : drop l.engine-index l.engines ≡ drop l.engine-index l.initial.engines;
}
