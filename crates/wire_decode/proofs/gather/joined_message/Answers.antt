use Rattle.std.proofs.Common.{sym, ap, ◌∙◌, ◌∷◌}
use Rattle.mrpc_table.specs.View.{item_of}
use Rattle.wire_decode.specs.Merged.{join_fields, joined_messages}
use Rattle.wire_decode.proofs.Gathering.{join-assoc}
use Rattle.wire_decode.proofs.gather.joined_message.Goals as goal

pub returns-in_ok-joined_tree-in-Node-before : goal.returns-in_ok-joined_tree-in-Node-before
returns-in_ok-joined_tree-in-Node-before c is =
    ap (λ t. join_fields t (joined_messages is)) c.in_ok-joined_tree-in-Node-before.ensures
    ∙ join-assoc c.in-Node-before.tree c.in-Node.more (joined_messages is)
    ∙ sym (ap (λ v. joined_messages (item_of v ∷ item_of c.args.value ∷ is)) c.in-Node-before.is ∙ ap (λ v. join_fields c.in-Node-before.tree (joined_messages (item_of v ∷ is))) c.in-Node.is)
