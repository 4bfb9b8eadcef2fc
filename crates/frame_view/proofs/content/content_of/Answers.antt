use Rattle.std.proofs.Common.{rules}
use Rattle.frame_view.specs.Faults.{IsFaultOfFrame, no_method}
use Rattle.frame_transport.specs.FramesInPlace.{owned_frame}
use Rattle.frame_view.proofs.OnFaults.{on_fault}
use Rattle.frame_view.proofs.content.content_of.Goals as goal

pub returns-then-len-frame-clause-fault : goal.returns-then-len-frame-clause-fault
returns-then-len-frame-clause-fault c =
    on_fault _ (IsFaultOfFrame c.args.table.now (owned_frame c.args.frame.now)) _ (λ place word is. no_method (search rules) (search rules) is.0 is.1) c.at.ensures.is
