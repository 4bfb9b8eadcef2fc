use Rattle.graph_form.proofs.Joined.{sound-leads}
use Rattle.graph_form.proofs.laws.sound_words_are_loaded.Goals as goal

pub returns : goal.returns
returns c = sound-leads
