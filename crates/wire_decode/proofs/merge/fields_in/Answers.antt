use Rattle.std.proofs.Common.{◌∙◌, ap, sym, [], ◌∷◌}
use Rattle.mrpc_table.specs.View.{item_of}
use Rattle.wire_decode.specs.Merged.{joined_messages}
use Rattle.wire_decode.proofs.Reading.{join-none}
use Rattle.wire_decode.proofs.merge.fields_in.Goals as goal

pub returns-in-Node : goal.returns-in-Node
returns-in-Node c = c.tree.view_is ∙ sym (join-none c.in-Node.tree) ∙ sym (ap (λ v. joined_messages (item_of v ∷ [])) c.in-Node.is)
