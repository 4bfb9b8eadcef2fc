use Rattle.call_history.proofs.Shorter.{payload-falls}
use Rattle.call_history.proofs.laws.clears_shorten.Goals as goal

pub returns : goal.returns
returns c = λ T clears call valid of_table. payload-falls T clears call
