use Rattle.view_top.specs.Drawing.{rect_text}
use Rattle.view_top.proofs.shape.put_rect.Goals as goal

pub returns : goal.returns
unfolding rect_text
returns c = rw (c.outcome_word-word.ensures.word, c.x_of-x.ensures, c.y_of-y.ensures, c.saturating_sub.ensures) at c.put.ensures
