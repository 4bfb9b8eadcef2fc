use Rattle.view_top.specs.Drawing.{tick_text}
use Rattle.view_top.proofs.shape.put_tick.Goals as goal

pub returns : goal.returns
unfolding tick_text
returns c = rw (c.tick_word-word.ensures.word, c.x_of-x.ensures, c.label_y-y.ensures, c.unit_of.ensures.unit) at c.put.ensures
