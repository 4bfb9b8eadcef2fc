use Rattle.view_top.proofs.Reading.{front_cut}
use Rattle.view_top.proofs.line.split_first_word.Goals as goal

pub returns : goal.returns
returns c = front_cut c.split_once.result c.args.words.now c.split_once.ensures.parts
