use Rattle.std.proofs.Common.{◌∙◌, refl, subst, List}
use Rattle.std.proofs.lemmas.Result.{err_from_is_err_and}
use Rattle.mrpc_table.specs.View.{node_of}
use Rattle.mrpc_table.specs.declared.table.Field.{Field}
use Rattle.wire_decode.specs.MergedMessage.{IsMergedMessage}
use Rattle.wire_decode.specs.Merged.{merged}
use Rattle.wire_decode.specs.RawMessages.{IsRawMessage}
use Rattle.wire_decode.specs.FaultWalk.{IsFaultReached}
use Rattle.wire_decode.specs.Faults.{OnDecodeFault}
use Rattle.wire_decode.proofs.Only.{only-memory}
use Rattle.wire_decode.proofs.merged_records.Goals as goal

pub returns-in_err-raw-clause-only : goal.returns-in_err-raw-clause-only
returns-in_err-raw-clause-only c u means =
    let p = err_from_is_err_and c.from_residual.result c.from_residual.ensures.1 in
    let P : List Field → Type 0 = λ fs. OnDecodeFault (λ r at. IsFaultReached c.args.table.now 31 fs c.args.bytes.now 0 r at) c.in_err-raw.field-0.0 in
    rw (p.1, p.2) (only-memory c.merging_is_unique.ensures.not_both c.args.table.now c.args.msg c.args.bytes.now u
    c.in_err-raw.field-0.0 means (subst P c.fields-fields.ensures.value c.in_err-raw.ensures.fault))

pub returns-clause-only : goal.returns-clause-only
returns-clause-only c u means =
    let P : List Field → Type 0 = λ fs. IsRawMessage c.args.table.now 31 fs c.args.bytes.now 0 (node_of c.in_ok-raw.raw.items) in
    let raw = node_of c.in_ok-raw.raw.items in
    let tree = merged c.args.table.now 32 c.args.msg raw in
    let here : IsMergedMessage c.args.table.now c.args.msg c.args.bytes.now tree = record { raw = raw; reads = subst P c.fields-fields.ensures.value c.in_ok-raw.ensures.found; value = refl } in
    c.in_ok-merged.ensures ∙ c.merging_is_unique.ensures.one c.args.table.now c.args.msg c.args.bytes.now tree u here means
