use Rattle.graph_place.proofs.Standing.{stand}
use Rattle.graph_place.proofs.laws.stored_words_are_found.Goals as goal

pub returns : goal.returns
returns c = λ stores words apart. stand stores words apart
