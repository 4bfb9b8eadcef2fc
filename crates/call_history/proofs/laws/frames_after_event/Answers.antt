use Rattle.call_history.proofs.Framed.{frames-more}
use Rattle.call_history.proofs.laws.frames_after_event.Goals as goal

pub returns : goal.returns
returns c = frames-more
