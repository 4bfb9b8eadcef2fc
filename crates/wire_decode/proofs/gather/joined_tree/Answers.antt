use Rattle.std.proofs.Common.{ap, ◌∙◌}
use Rattle.mrpc_table.specs.View.{node_of}
use Rattle.wire_decode.specs.Merged.{join_fields}
use Rattle.wire_decode.proofs.Gathering.{node_of-append}
use Rattle.wire_decode.proofs.gather.joined_tree.Goals as goal

pub returns : goal.returns
returns c =
    ap node_of c.in_ok-append.ensures.items
    ∙ node_of-append c.tree.inside.fields.items c.more.inside.fields.items
    ∙ ap (λ t. join_fields t (node_of c.more.inside.fields.items)) c.tree.view_is
    ∙ ap (join_fields c.args.tree) c.more.view_is
