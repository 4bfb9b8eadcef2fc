use Rattle.std.proofs.Common.{◌∙◌, ap}
use Rattle.std.specs.Prelude.{is_some}
use Rattle.table_text.proofs.PlaceLemmas.{among_from}
use Rattle.table_text.proofs.name_index.NameIndex.contains.Goals as goal

pub returns : goal.returns
returns c names h = c.is_some.ensures ∙ ap is_some (c.index_of.ensures names h) ∙ among_from 0 c.args.name.now names
