use Rattle.view_top.specs.Drawing.{cause_text}
use Rattle.view_top.proofs.shape.put_cause.Goals as goal

pub returns : goal.returns
unfolding cause_text
returns c = rw c.in-Refused.is c.put.ensures
