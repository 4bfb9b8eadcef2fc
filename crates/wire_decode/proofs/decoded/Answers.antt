use Rattle.mrpc_table.specs.View.{node_of}
use Rattle.wire_decode.proofs.OrderlyValues.{whole-means}
use Rattle.wire_decode.proofs.decoded.Goals as goal

pub returns-in-Some-clause-means : goal.returns-in-Some-clause-means
returns-in-Some-clause-means c =
    whole-means c.args.table.now c.args.msg c.args.bytes.now c.fields-fields.result.now _ c.fields-fields.ensures.value c.in-Some.ensures

pub returns-in-Some-clause-only : goal.returns-in-Some-clause-only
returns-in-Some-clause-only c u means =
    let here = whole-means c.args.table.now c.args.msg c.args.bytes.now c.fields-fields.result.now _ c.fields-fields.ensures.value c.in-Some.ensures in
    c.merging_is_unique.ensures.one c.args.table.now c.args.msg c.args.bytes.now (node_of c.in-Some.fields.items) u here means
