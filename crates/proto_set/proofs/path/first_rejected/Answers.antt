use Rattle.std.proofs.Common.{refl}
use Rattle.proto_set.proofs.PathLemmas.{no_path_first, second_first, right_more}
use Rattle.proto_set.proofs.path.first_rejected.Goals as goal
use Rattle.proto_set.proofs.path.first_rejected.Goals.{then-not-is_path-via-then-not-is_path, then-not-is_path-via-else-not-is_path+then-has_path}

pub returns-then-not-is_path-clause-first : goal.returns-then-not-is_path-clause-first
returns-then-not-is_path-clause-first c = elim c.then-not-is_path.branch [
  | then-not-is_path-via-then-not-is_path w ↦ no_path_first c.args.files.now c.loop-i.i _ c.is_path.result c.loop-i-test.true c.loop-i.invariant c.is_path.ensures w.if-not-is_path.true
  | then-not-is_path-via-else-not-is_path+then-has_path w ↦ second_first c.args.files.now c.loop-i.i _ c.loop-i-test.true c.loop-i.invariant w.if-has_path.ensures
]

pub loop-i-preserved : goal.loop-i-preserved
loop-i-preserved c = right_more c.args.files.now c.loop-i.i _ c.loop-i-test.true c.loop-i.invariant (c.if-not-is_path.ensures.0 refl) c.if-has_path.ensures
