use Rattle.proto_set.specs.Reaching.{AreVisible}
use Rattle.proto_set.proofs.Seeing.{zip_more}
use Rattle.proto_set.proofs.seen.all_seen.Goals as goal

pub loop-file-preserved : goal.loop-file-preserved
loop-file-preserved c =
    zip_more (AreVisible c.args.graph.now) c.args.files.now c.loop-file.file-index 0 c.loop-file.all c.push.new.self
    c.in_ok-seen.seen c.loop-file-test.true c.in_ok-push.ensures.ok c.loop-file.invariant c.in_ok-seen.ensures
