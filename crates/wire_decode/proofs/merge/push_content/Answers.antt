use Rattle.std.proofs.Common.{◌∙◌, ap, sym}
use Rattle.std.specs.Option.{option_map}
use Rattle.mrpc_table.specs.Node.{no_fields}
use Rattle.mrpc_table.specs.View.{node_of, content_of}
use Rattle.wire_decode.proofs.Views.{node_of-last}
use Rattle.wire_decode.specs.Merged.{join_fields}
use Rattle.wire_decode.specs.Contents.{with_content}
use Rattle.wire_decode.proofs.Reading.{join-none}
use Rattle.wire_decode.proofs.Merging.{push-join}
use Rattle.wire_decode.proofs.merge.push_content.Goals as goal

pub returns-in_ok-push-in-Some : goal.returns-in_ok-push-in-Some
returns-in_ok-push-in-Some c =
    let old = c.args.whole.now.items in
    ap node_of c.in_ok-push-in-Some.ensures.items ∙ node_of-last old (c.args.number, c.in-Some.content)
    ∙ push-join (node_of old) c.args.number (content_of c.in-Some.content)
    ∙ sym (ap (λ o. join_fields (node_of old) (with_content c.args.number (option_map content_of o) no_fields)) c.in-Some.is)

pub returns-in-None : goal.returns-in-None
returns-in-None c =
    let old = c.args.whole.now.items in
    sym (join-none (node_of old)) ∙ sym (ap (λ o. join_fields (node_of old) (with_content c.args.number (option_map content_of o) no_fields)) c.in-None.is)
